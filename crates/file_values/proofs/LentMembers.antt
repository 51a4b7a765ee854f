-- Members that are lent from trees, in byte order.
use Rattle.std.proofs.Common.{◌≡◌, ℕ, ◌+◌, ◌-◌, ◌<◌, List, [], ◌∷◌, drop, length, get_or, Ordering, refl, sym, ap, ◌∙◌, arith}
use Rattle.std.specs.declared.cmp.Ordering.TheVariants.{Less, Equal, Greater}
use Rattle.std.specs.Ordering.{nat_cmp, match_ordering}
use Rattle.std.specs.Cmp.Lexicographic.{slice_cmp}
use Rattle.std.specs.BTreeMap.{insert_entry}
use Rattle.std.specs.Borrow.{Bor}
use Rattle.json.specs.Json.{member}
use Rattle.file_trees.specs.FileTrees.{file_tree, members_view}
use Rattle.file_trees.specs.declared.tree.FileTree.{FileTree}
use Rattle.file_forms.specs.Orders.{put, by_name}
use Rattle.file_values.specs.Reading.{lent_members}
use Rattle.file_values.proofs.WriteLoops.{left_from}

abbrev Lent : Type 0
Lent = Bor (List ℕ) × Bor FileTree

lent-ordering : (o : Ordering) (a b c : List Lent) → lent_members (match_ordering o a b c) ≡ match_ordering o (lent_members a) (lent_members b) (lent_members c)
lent-ordering Less a b c = refl
lent-ordering Equal a b c = refl
lent-ordering Greater a b c = refl

pub lent-insert : (es : List Lent) (k : Bor (List ℕ)) (t : Bor FileTree) → lent_members (insert_entry (λ x y. slice_cmp nat_cmp x.now y.now) es k t) ≡ put k.now (file_tree t.now) (lent_members es)
lent-insert [] k t = refl
lent-insert (e ∷ es) k t =
    lent-ordering (slice_cmp nat_cmp k.now e.0.now) _ _ _
    ∙ ap (λ rest. match_ordering (slice_cmp nat_cmp k.now e.0.now) (member k.now (file_tree t.now) (member e.0.now (file_tree e.1.now) (lent_members es))) (member e.0.now (file_tree t.now) (lent_members es)) (member e.0.now (file_tree e.1.now) rest)) (lent-insert es k t)

-- with the member before them, those from a place on are those from the place before
pub lent-before : (es : List Lent) (k : Bor (List ℕ)) (t : Bor FileTree) (m : List ℕ × FileTree) (ms : List (List ℕ × FileTree)) (i : ℕ) → 0 < i → i - 1 < length ms → m ≡ get_or ms (i - 1) m → k.now ≡ m.0 → t.now ≡ m.1
    → lent_members es ≡ by_name (members_view (drop i ms)) → lent_members (insert_entry (λ x y. slice_cmp nat_cmp x.now y.now) es k t) ≡ by_name (members_view (drop (i - 1) ms))
lent-before es k t m ms i some within is name content so_far =
    let next : i - 1 + 1 ≡ i = omega arith in
    let here = left_from ms (i - 1) m within is ∙ ap (λ n. m ∷ drop n ms) next in
    lent-insert es k t ∙ ap (put k.now (file_tree t.now)) so_far
    ∙ ap (λ n. put n (file_tree t.now) (by_name (members_view (drop i ms)))) name
    ∙ ap (λ c. put m.0 (file_tree c) (by_name (members_view (drop i ms)))) content
    ∙ sym (ap (λ xs. by_name (members_view xs)) here)

-- The parts of the tree of a complement, as the code takes them.
use Rattle.std.proofs.Common.{◌≡◌, ◌≢◌, ℕ, Bool, true, false, not, bytes_eq, codes, List, [], ◌∷◌, length, Some, refl, sym, ap, ap₂, ◌∙◌}
use Rattle.serde_json.specs.Data.{Data, array, object, Items, no_items, item, no_members, member}
use Rattle.serde_json.specs.Find.{as_array}
use Rattle.serde_json.specs.View.{view, items_view}
use Rattle.serde_json.specs.declared.value.Value.{Value}
use Rattle.value_json.specs.Parts.{two_members}
use Rattle.value_json.proofs.Shapes.{is_array}
use Rattle.value_json.specs.SmallTrees.{one_member}
use Rattle.complement_file.specs.Reading.{HasContent, HasArray, HasPair, HasNodes}
use Rattle.texts.proofs.Tests.{true_by_not}

-- ---- two items

not_two_items : (vs : List Value) (d e : Data) → length vs ≢ 2 → item d (item e no_items) ≡ items_view vs → ⊥
not_two_items [] d e h q = cc
not_two_items (x ∷ []) d e h q = let rest : item e no_items ≡ no_items = cc in cc
not_two_items (x ∷ y ∷ []) d e h q = h refl
not_two_items (x ∷ y ∷ z ∷ vs) d e h q =
    let rest : item e no_items ≡ item (view y) (item (view z) (items_view vs)) = cc in
    let last : no_items ≡ item (view z) (items_view vs) = cc in
    cc

same_items : (n : List ℕ) (ds es : Items) → one_member n (array ds) ≡ one_member n (array es) → ds ≡ es
same_items n ds es q = cc

pub not_a_pair : (n : List ℕ) (t : Data) (vs : List Value) → HasArray n t (items_view vs) → length vs ≢ 2 → (p : Data × Data) → HasPair n t p → ⊥
not_a_pair n t vs is h p q = not_two_items vs p.0 p.1 h (same_items n (item p.0 (item p.1 no_items)) (items_view vs) (q ∙ sym is))

-- ---- depths and items

-- the names and the contents of two members
abbrev Two : Type 0
Two = (List ℕ × Data) × (List ℕ × Data)

same_two : (x y : Two) → Some x ≡ Some y → x ≡ y
same_two x y q = cc

members_are : (c : Data) (k l : List ℕ) (d e : Data) → Some ((k, d), (l, e)) ≡ two_members c → object (member k d (member l e no_members)) ≡ c
members_are (object (member m f (member n g no_members))) k l d e h =
    ap (λ (p : Two). object (member p.0.0 p.0.1 (member p.1.0 p.1.1 no_members))) (same_two ((k, d), (l, e)) ((m, f), (n, g)) h)
members_are c k l d e h = cc

pub nodes_found_in : (t c : Data) (k l : List ℕ) (d e : Data) (ns ds : Items) → HasContent (codes "tree") t c → Some ((k, d), (l, e)) ≡ two_members c → k ≡ codes "depths" → l ≡ codes "items"
    → Some ns ≡ as_array d → Some ds ≡ as_array e → HasNodes t (ns, ds)
nodes_found_in t c k l d e ns ds is members first second depths items =
    ap (one_member (codes "tree"))
    (ap₂ (λ x y. object (member (codes "depths") x (member (codes "items") y no_members))) (sym (is_array d ns depths)) (sym (is_array e ds items))
    ∙ ap₂ (λ x y. object (member x d (member y e no_members))) (sym first) (sym second)
    ∙ members_are c k l d e members)
    ∙ is

-- ---- two texts

-- two texts whose `!=` answered no
pub same_texts : (r : Bool) (x y a b : List ℕ) → r ≡ false → r ≡ not (bytes_eq x y) → x ≡ a → y ≡ b → bytes_eq a b ≡ true
same_texts r x y a b unequal is first second = rw (← first, ← second) (true_by_not (bytes_eq x y) (sym unequal ∙ is))

-- Ordered trees whose nodes are acted on one after another, or go and come.
use Rattle.std.proofs.Common.{◌≡◌, ℕ, ◌+◌, ◌-◌, ◌<◌, ◌≤◌, suc, zero, Bool, true, false, List, [], ◌∷◌, ◌++◌, length, take, drop, Option, None, Some, Ok, Err, refl, sym, ap, subst, ◌∙◌, arith}
use Rattle.std.specs.Prelude.{if◌then◌else◌, nat_eq, is_some}
use Rattle.std.proofs.lemmas.Bool.Decides.{nat_tests}
use Rattle.std.proofs.lemmas.List.{append-nil, append_assoc, length-append}
use Rattle.hold_shapes.specs.declared.shape.Shape.TheVariants.{Tree as TreeOf}
use Rattle.hold_shapes.specs.declared.edit.Place.TheVariants.{Node}
use Rattle.hold_shapes.specs.declared.edit.ShapeEdit.TheVariants.{Prune}
use Rattle.hold_shapes.specs.Causes.{Range}
use Rattle.hold_shapes.specs.Trees.{child, children, children_of, end_of}
use Rattle.hold_shapes.specs.Plans.{plan, old_places, remove_part, prune_child}
use Rattle.hold_shapes.proofs.ValidDepths.{GoesOn, Low, Whole, above-end, whole-out}
use Rattle.hold_shapes.proofs.ChildPlaces.{child-at, length-remove_part}
use Rattle.hold_shapes.proofs.Nodes.{child-numbered}
use Rattle.law_shapes.proofs.Content.{content-remove_part, end-within}
use Rattle.law_shapes.proofs.Children.{children-less}
use Rattle.doc_values.specs.Documents.{DocTree, hold, docs_of}
use Rattle.doc_values.specs.Types.{TyTree, ty_ordered}
use Rattle.doc_values.specs.Initial.{initial}
use Rattle.edit_module.specs.Words.{shape, WordTree}
use Rattle.edit_module.specs.Action.{act}
use Rattle.edit_inverse.specs.Construct.{reshape, graft_each, grow}
use Rattle.edit_inverse.specs.Paths.{next_path, paths_after, paths}
use Rattle.edit_inverse.proofs.ContainerKinds as kinds
use Rattle.edit_inverse.proofs.Moves.{Makes}
use Rattle.edit_inverse.proofs.Ways.{Way, way-next, length-next_path}
use Rattle.edit_inverse.proofs.Grafts.{next-named}
use Rattle.edit_inverse.proofs.Fills.{Built, graft-acts}
use Rattle.edit_inverse.proofs.Acts.{acts-more, acts-shape, acts-there, acts-same}
use Rattle.edit_between.specs.Between.{prunes, modify_nodes}
use Rattle.edit_between.proofs.Resized.{Leads}

-- ---- nodes that stay

nodes-after : (t : TyTree) (rs : List ℕ) (ws : List WordTree) (zs ys : List DocTree) (ds path : List ℕ) (xs : List DocTree)
    → Way (0 ∷ ds) 0 path → GoesOn (length path) rs → Leads t ws zs ys → length rs ≡ length ys → length xs ≡ length (0 ∷ ds)
    → act (ty_ordered t) (modify_nodes (paths_after path rs) ws) (hold (TreeOf ((0 ∷ ds) ++ rs)) (docs_of (xs ++ zs))) ≡ Ok (hold (TreeOf ((0 ∷ ds) ++ rs)) (docs_of (xs ++ ys)))
nodes-after t [] [] [] [] ds path xs w g b e f = refl
nodes-after t [] (u ∷ ws) [] [] ds path xs w g b e f = absurd b
nodes-after t [] ws (z ∷ zs) [] ds path xs w g b e f = absurd (leads-none t ws z zs b)
  where
    leads-none : (t : TyTree) (ws : List WordTree) (z : DocTree) (zs : List DocTree) → Leads t ws (z ∷ zs) [] → ⊥
    leads-none t [] z zs b = b
    leads-none t (w ∷ ws) z zs b = b
nodes-after t [] ws zs (y ∷ ys) ds path xs w g b e f = absurd (omega arith)
nodes-after t (d ∷ rs) ws zs [] ds path xs w g b e f = absurd (omega arith)
nodes-after t (d ∷ rs) [] [] (y ∷ ys) ds path xs w g b e f = absurd b
nodes-after t (d ∷ rs) [] (z ∷ zs) (y ∷ ys) ds path xs w g b e f = absurd b
nodes-after t (d ∷ rs) (u ∷ ws) [] (y ∷ ys) ds path xs w g b e f = absurd b
nodes-after t (d ∷ rs) (u ∷ ws) (z ∷ zs) (y ∷ ys) ds path xs w g b e f =
    let q = next_path path d in
    let whole : List ℕ = (0 ∷ ds) ++ d ∷ rs in
    let named = next-named ds rs path d w g.0 g.1 in
    let next = way-next ds path d w g.0 g.1 in
    let n = length-next_path path d g.0 g.1 in
    let P : ℕ → Type 0 = λ m. GoesOn m rs in
    let l1 = length-append ds (d ∷ []) in
    let l2 = length-append xs (y ∷ []) in
    let ih = nodes-after t rs ws zs ys (ds ++ d ∷ []) q (xs ++ y ∷ []) next (subst P (sym n) g.3) b.1 (omega arith) (omega arith) in
    let same : TreeOf (0 ∷ ((ds ++ d ∷ []) ++ rs)) ≡ TreeOf whole = ap (λ (a : List ℕ). TreeOf (0 ∷ a)) (append_assoc ds (d ∷ []) rs) in
    let goes = acts-same (ty_ordered t) (modify_nodes (paths_after q rs) ws) (TreeOf (0 ∷ ((ds ++ d ∷ []) ++ rs))) (TreeOf whole) (TreeOf (0 ∷ ((ds ++ d ∷ []) ++ rs))) (TreeOf whole)
    ((xs ++ y ∷ []) ++ zs) (xs ++ y ∷ zs) ((xs ++ y ∷ []) ++ ys) (xs ++ y ∷ ys) same (append_assoc xs (y ∷ []) zs) same (append_assoc xs (y ∷ []) ys) ih in
    acts-there kinds.Tree t (Node q) u (modify_nodes (paths_after q rs) ws) (TreeOf whole) xs zs z y (length (0 ∷ ds)) (hold (TreeOf whole) (docs_of (xs ++ y ∷ ys))) refl named (sym f) b.0 goes

pub nodes-act : (t : TyTree) (es : List ℕ) (ws : List WordTree) (xs ys : List DocTree) → Whole es → Leads t ws xs ys → length es ≡ length ys
    → act (ty_ordered t) (modify_nodes (paths es) ws) (hold (TreeOf es) (docs_of xs)) ≡ Ok (hold (TreeOf es) (docs_of ys))
nodes-act t [] ws xs ys g b e = absurd g
nodes-act t (d ∷ es) ws xs [] g b e = absurd (omega arith)
nodes-act t (d ∷ es) [] [] (y ∷ ys) g b e = absurd b
nodes-act t (d ∷ es) [] (x ∷ xs) (y ∷ ys) g b e = absurd b
nodes-act t (d ∷ es) (w ∷ ws) [] (y ∷ ys) g b e = absurd b
nodes-act t (d ∷ es) (w ∷ ws) (x ∷ xs) (y ∷ ys) g b e =
    let tree = TreeOf (0 ∷ es) in
    let rest = nodes-after t es ws xs ys [] [] (y ∷ []) refl g.1 b.1 (omega arith) refl in
    let made = acts-there kinds.Tree t (Node []) w (modify_nodes (paths_after [] es) ws) tree [] xs x y 0 (hold tree (docs_of (y ∷ ys))) refl refl refl b.0 rest in
    let P : ℕ → Type 0 = λ n. act (ty_ordered t) (modify_nodes (paths (d ∷ es)) (w ∷ ws)) (hold (TreeOf (n ∷ es)) (docs_of (x ∷ xs))) ≡ Ok (hold (TreeOf (n ∷ es)) (docs_of (y ∷ ys))) in
    subst P (sym g.0) made

-- ---- nodes that go

child-gone : (o : Option ℕ) → is_some o ≡ true → (c : ℕ) × (o ≡ Some c)
child-gone None h = cc
child-gone (Some c) h = (c, refl)

prune-plan : (ds : List ℕ) (k c : ℕ) → children ds 0 ≡ suc k → child ds 0 k ≡ Some c
    → plan (TreeOf ds) (Prune []) ≡ Ok (TreeOf (remove_part c (end_of ds c) ds), remove_part c (end_of ds c) (old_places (length ds)))
prune-plan ds k c h is =
    let last : children ds 0 - 1 ≡ k = omega arith in
    let some : nat_eq (children ds 0) 0 ≡ false = grind (arith, nat_tests) in
    ap (λ (b : Bool). if b then Err Range else prune_child ds (child ds 0 (children ds 0 - 1))) some
    ∙ (ap (λ (n : ℕ). prune_child ds (child ds 0 n)) last ∙ ap (λ (o : Option ℕ). prune_child ds o) is)

one-child : (d e : ℕ) (es : List ℕ) → d ≡ 0 → e ≡ 1 → children_of d (e ∷ es) ≡ 0 → ⊥
one-child d e es a b h =
    let P : ℕ → Type 0 = λ x. children_of x (e ∷ es) ≡ 0 in
    let Q : ℕ → Type 0 = λ x. children_of 0 (x ∷ es) ≡ 0 in
    let z : suc (children_of 0 es) ≡ 0 = subst Q b (subst P a h) in
    omega arith

root-alone : (ds : List ℕ) → Whole ds → children ds 0 ≡ 0 → ds ≡ 0 ∷ []
root-alone [] w h = absurd w
root-alone (d ∷ []) w h = ap (λ (n : ℕ). n ∷ []) w.0
root-alone (d ∷ e ∷ es) w h = absurd (one-child d e es w.0 (let a : 1 ≤ e = w.1.0 in let b : e ≤ 0 + 1 = w.1.1 in omega arith) h)

alone : (xs : List DocTree) → length xs ≡ 0 → xs ≡ []
alone [] h = refl
alone (x ∷ xs) h = absurd (omega arith)

-- all children of the root go
abbrev Prunes : TyTree → ℕ → WordTree → DocTree → DocTree → Type 0
Prunes t k rest x v = (ds : List ℕ) (xs : List DocTree) → Whole ds → length (x ∷ xs) ≡ length ds → children ds 0 ≡ k → act (ty_ordered t) (prunes k rest) (hold (TreeOf ds) (docs_of (x ∷ xs))) ≡ Ok v

-- the child at this place is the last one
last-goes : (t : TyTree) (k : ℕ) (rest : WordTree) (x v : DocTree) → Prunes t k rest x v → (ds : List ℕ) (xs : List DocTree) (c : ℕ) → Whole ds → length (x ∷ xs) ≡ length ds → children ds 0 ≡ suc k
    → child ds 0 k ≡ Some c → act (ty_ordered t) (prunes (suc k) rest) (hold (TreeOf ds) (docs_of (x ∷ xs))) ≡ Ok v
last-goes t k rest x v ih ds xs zero w l h is = let f = child-at 0 ds 0 k 0 (omega arith) is in absurd (let n : 0 < 0 = f.0 in omega arith)
last-goes t k rest x v ih ds xs (suc c) w l h is =
    let f = child-at 0 ds 0 k (suc c) (omega arith) is in
    let within : suc c < length ds = f.1 in
    let e = end_of ds (suc c) in
    let new = remove_part (suc c) e ds in
    let docs = remove_part (suc c) e (x ∷ xs) in
    let up = above-end ds (suc c) in
    let low = end-within ds (suc c) within in
    let l1 = length-remove_part ℕ ds (suc c) e (omega arith) low in
    let l2 = length-remove_part DocTree (x ∷ xs) (suc c) e (omega arith) (omega arith) in
    let place : suc c ≡ 0 + 1 + c = omega arith in
    let C : ℕ → Type 0 = λ n. children ds 0 ≡ suc (children (remove_part n (end_of ds n) ds) 0) in
    let P : ℕ → Type 0 = λ n. child ds 0 k ≡ Some n in
    let less : C (suc c) = subst C (sym place) (children-less ds 0 k c (omega arith) (subst P place is)) in
    let made : Makes (TreeOf ds) (Prune []) (initial t) (x ∷ xs) (TreeOf new) docs =
    (remove_part (suc c) e (old_places (length ds)), prune-plan ds k (suc c) h is, sym (content-remove_part DocTree (initial t) (x ∷ xs) (length ds) (suc c) e (sym l))) in
    acts-more (ty_ordered t) (shape (Prune [])) (prunes k rest) (hold (TreeOf ds) (docs_of (x ∷ xs))) (hold (TreeOf new) (docs_of docs)) v
    (acts-shape kinds.Tree t (Prune []) (TreeOf ds) (TreeOf new) (x ∷ xs) docs made)
    (ih new (take c xs ++ drop e (x ∷ xs)) (whole-out ds (suc c) w (omega arith) within) (omega arith) (omega arith))

-- all children of the root, from the last one on
pub prunes-act : (t : TyTree) (k : ℕ) (rest : WordTree) (x v : DocTree) → act (ty_ordered t) rest (hold (TreeOf (0 ∷ [])) (docs_of (x ∷ []))) ≡ Ok v → Prunes t k rest x v
prunes-act t zero rest x v goes ds xs w l h =
    let root = root-alone ds w h in
    let one : length ds ≡ 1 = ap (λ (a : List ℕ). length a) root in
    let none = alone xs (omega arith) in
    let P : List ℕ → Type 0 = λ a. act (ty_ordered t) rest (hold (TreeOf a) (docs_of (x ∷ xs))) ≡ Ok v in
    let Q : List DocTree → Type 0 = λ a. act (ty_ordered t) rest (hold (TreeOf (0 ∷ [])) (docs_of (x ∷ a))) ≡ Ok v in
    subst P (sym root) (subst Q (sym none) goes)
prunes-act t (suc k) rest x v goes ds xs w l h =
    let there : is_some (child ds 0 k) ≡ true = child-numbered ds 0 k ∙ grind (arith, nat_tests) in
    let got = child-gone (child ds 0 k) there in
    last-goes t k rest x v (prunes-act t k rest x v goes) ds xs got.0 w l h got.1

-- ---- nodes that come

low-goes : (b : ℕ) (ds : List ℕ) → GoesOn b ds → Low 1 ds
low-goes b [] g = tt
low-goes b (d ∷ ds) g = (g.0, low-goes d ds g.3)

-- the first word is that of the root, and each other one makes its node
abbrev pub FromRoot : TyTree → List WordTree → DocTree → List DocTree → Type 0
FromRoot t (w ∷ ws) x (y ∷ ys) = (act t w x ≡ Ok y) × Built t ws ys
FromRoot t _ x _ = ⊥

pub grow-acts : (t : TyTree) (es : List ℕ) (ws : List WordTree) (x : DocTree) (ys : List DocTree) → Whole es → length es ≡ length ys → FromRoot t ws x ys
    → act (ty_ordered t) (grow (paths es) ws) (hold (TreeOf (0 ∷ [])) (docs_of (x ∷ []))) ≡ Ok (hold (TreeOf es) (docs_of ys))
grow-acts t [] ws x ys g e b = absurd g
grow-acts t (d ∷ es) ws x [] g e b = absurd (omega arith)
grow-acts t (d ∷ es) [] x (y ∷ ys) g e b = absurd b
grow-acts t (d ∷ es) (w ∷ ws) x (y ∷ ys) g e b =
    let one : 0 + 1 ≡ 1 = omega arith in
    let L : ℕ → Type 0 = λ n. Low n es in
    let got = graft-acts t es ws ys [] [] [] 0 (y ∷ []) [] refl g.1 (subst L (sym one) (low-goes 0 es g.1)) tt b.1 (omega arith) refl refl in
    let goes = acts-same (ty_ordered t) (graft_each (paths_after [] es) ws) (TreeOf (0 ∷ [])) (TreeOf (0 ∷ [])) (TreeOf (0 ∷ (es ++ []))) (TreeOf (0 ∷ es))
    (y ∷ []) (y ∷ []) (y ∷ (ys ++ [])) (y ∷ ys) refl refl (ap (λ (l : List ℕ). TreeOf (0 ∷ l)) (append-nil es)) (ap (λ (l : List DocTree). y ∷ l) (append-nil ys)) got in
    let made = acts-there kinds.Tree t (Node []) w (graft_each (paths_after [] es) ws) (TreeOf (0 ∷ [])) [] [] x y 0 (hold (TreeOf (0 ∷ es)) (docs_of (y ∷ ys))) refl refl refl b.0 goes in
    let P : ℕ → Type 0 = λ n. act (ty_ordered t) (grow (paths (d ∷ es)) (w ∷ ws)) (hold (TreeOf (0 ∷ [])) (docs_of (x ∷ []))) ≡ Ok (hold (TreeOf (n ∷ es)) (docs_of (y ∷ ys))) in
    subst P (sym g.0) made

-- ---- as the code makes them

pub prunes-more : (n i : ℕ) (rest : WordTree) → i < n → prunes (n - i) rest ≡ reshape (Prune []) (prunes (n - (i + 1)) rest)
prunes-more n i rest h = let e : n - i ≡ suc (n - (i + 1)) = omega arith in ap (λ (k : ℕ). prunes k rest) e

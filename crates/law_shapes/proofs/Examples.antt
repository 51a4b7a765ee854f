-- What the laws ask of small plans.
use Rattle.std.proofs.Common.{◌≡◌, ◌-◌, suc, zero, true, false, [], ◌∷◌, Some, None, refl, arith}
use Rattle.std.specs.Prelude.{nat_lt, nat_eq}
use Rattle.std.proofs.lemmas.Bool.Decides.{nat_tests}
use Rattle.hold_shapes.specs.declared.origins.Origin.TheVariants.{Old, Fresh}
use Rattle.hold_shapes.specs.declared.shape.Shape.TheVariants.{Keyed as KeyedOf, Tree as TreeOf}
use Rattle.hold_shapes.specs.declared.edit.ShapeEdit.TheVariants.{PutKey, RenameKey, Prune, Graft, Shift, Hang}
use Rattle.hold_shapes.specs.Plans.{list_of}
use Rattle.law_shapes.specs.Laws.{is_old, is_same_kind, names_after, depths_after, fresh_depth, moved_root, KeepsContent}
use Rattle.law_shapes.specs.Children.{child_path, children_at, origin_at, GainsLastChild, LosesLastChild, KeepsOtherChildren, MovesChild, HangsLastChild}
use Rattle.law_shapes.specs.Parents.{parents}

old : is_old 2 (Old 2) ≡ true
old = refl

other : is_old 2 (Old 1) ≡ false
other = refl

fresh : is_old 2 Fresh ≡ false
fresh = refl

kinds : is_same_kind (list_of 3) (TreeOf (0 ∷ [])) ≡ false
kinds = refl

-- the keys a, c with b put between them
put_names : KeepsContent (PutKey (98 ∷ [])) (KeyedOf ((97 ∷ []) ∷ (99 ∷ []) ∷ [])) (KeyedOf ((97 ∷ []) ∷ (98 ∷ []) ∷ (99 ∷ []) ∷ [])) (Old 0 ∷ Fresh ∷ Old 1 ∷ [])
put_names = refl

-- b under the new name 0, which comes first
renamed_names : names_after (RenameKey (98 ∷ []) (48 ∷ [])) ((97 ∷ []) ∷ (98 ∷ []) ∷ []) ≡ (97 ∷ []) ∷ (48 ∷ []) ∷ []
renamed_names = refl

rename_content : KeepsContent (RenameKey (98 ∷ []) (48 ∷ [])) (KeyedOf ((97 ∷ []) ∷ (98 ∷ []) ∷ [])) (KeyedOf ((48 ∷ []) ∷ (97 ∷ []) ∷ [])) (Old 1 ∷ Old 0 ∷ [])
rename_content = refl

prune_content : KeepsContent (Prune []) (TreeOf (0 ∷ 1 ∷ 1 ∷ 2 ∷ [])) (TreeOf (0 ∷ 1 ∷ [])) (Old 0 ∷ Old 1 ∷ [])
prune_content = refl

graft_depth : fresh_depth (Graft (0 ∷ [])) (0 ∷ 1 ∷ 2 ∷ 1 ∷ []) ≡ 2
graft_depth = refl

-- the subtree at the path [1] is hung below the node at [0]: each of its nodes is one deeper
hang_depths : depths_after (Hang (1 ∷ []) (0 ∷ [])) (0 ∷ 1 ∷ 1 ∷ 2 ∷ []) ≡ 0 ∷ 1 ∷ 2 ∷ 3 ∷ []
hang_depths = refl

hang_content : KeepsContent (Hang (0 ∷ []) (0 ∷ [])) (TreeOf (0 ∷ 1 ∷ 1 ∷ 2 ∷ [])) (TreeOf (0 ∷ 1 ∷ 2 ∷ 2 ∷ [])) (Old 0 ∷ Old 2 ∷ Old 3 ∷ Old 1 ∷ [])
hang_content = refl

-- a root with two children, of which the first has a child
each_parent : parents (0 ∷ 1 ∷ 2 ∷ 1 ∷ []) (Old 0 ∷ Old 1 ∷ Old 2 ∷ Old 3 ∷ []) ≡ (Old 0, None) ∷ (Old 1, Some (Old 0)) ∷ (Old 2, Some (Old 1)) ∷ (Old 3, Some (Old 0)) ∷ []
each_parent = refl

shifted_root : moved_root (Shift [] 1 0) (0 ∷ 1 ∷ 2 ∷ 1 ∷ []) ≡ Some 3
shifted_root = refl

hung_root : moved_root (Hang (1 ∷ []) (0 ∷ [])) (0 ∷ 1 ∷ 2 ∷ 1 ∷ []) ≡ Some 3
hung_root = refl

-- ---- paths and numbers of children

root_children : children_at (0 ∷ 1 ∷ 2 ∷ 1 ∷ []) [] ≡ Some 2
root_children = refl

no_node : children_at (0 ∷ 1 ∷ 2 ∷ 1 ∷ []) (2 ∷ []) ≡ None
no_node = refl

fresh_node : origin_at (0 ∷ 1 ∷ 2 ∷ 1 ∷ []) (Old 0 ∷ Old 1 ∷ Fresh ∷ Old 2 ∷ []) (child_path (0 ∷ []) 0) ≡ Some Fresh
fresh_node = refl

-- a fresh child of the first leaf
grafted : GainsLastChild (0 ∷ 1 ∷ 1 ∷ []) (0 ∷ []) Fresh (TreeOf (0 ∷ 1 ∷ 2 ∷ 1 ∷ [])) (Old 0 ∷ Old 1 ∷ Fresh ∷ Old 2 ∷ [])
grafted = (0, refl, refl, refl)

-- the second child of the root is gone, with its child
pruned : LosesLastChild (0 ∷ 1 ∷ 1 ∷ 2 ∷ []) [] (TreeOf (0 ∷ 1 ∷ [])) (Old 0 ∷ Old 1 ∷ [])
pruned = (1, 2, refl, refl, refl, refl)

-- the first child of the root, which has a child, becomes its second; the only other child stays
others : KeepsOtherChildren (0 ∷ 1 ∷ 2 ∷ 1 ∷ []) (0 ∷ 1 ∷ 1 ∷ 2 ∷ []) [] 0 1 (Old 0 ∷ Old 3 ∷ Old 1 ∷ Old 2 ∷ [])
others zero = refl
others (suc k) =
    let a : nat_lt (suc k) 1 ≡ false = grind (arith, nat_tests) in
    let b : nat_lt (suc k) 0 ≡ false = grind (arith, nat_tests) in
    let c : nat_eq (suc (suc k)) 0 ≡ false = grind (arith, nat_tests) in
    let d : nat_eq (suc k) 0 ≡ false = grind (arith, nat_tests) in
    let e : suc (suc k) - 1 ≡ suc k = omega arith in
    rw (a, b, c, e, d) refl

shifted : MovesChild (0 ∷ 1 ∷ 2 ∷ 1 ∷ []) [] 0 1 (TreeOf (0 ∷ 1 ∷ 1 ∷ 2 ∷ [])) (Old 0 ∷ Old 3 ∷ Old 1 ∷ Old 2 ∷ [])
shifted = (1, refl, refl, refl, others)

-- the second leaf is moved below the first
hung : HangsLastChild (0 ∷ 1 ∷ 1 ∷ []) (1 ∷ []) (0 ∷ []) (TreeOf (0 ∷ 1 ∷ 2 ∷ [])) (Old 0 ∷ Old 1 ∷ Old 2 ∷ [])
hung = (2, refl, (0, refl, refl, refl))

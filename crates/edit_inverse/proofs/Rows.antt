-- The rows of containers, whatever their kind.
use Rattle.std.proofs.Common.{◌≡◌, true, Some, refl, subst}
use Rattle.hold_shapes.specs.declared.shape.Shape.{Shape}
use Rattle.hold_shapes.specs.declared.edit.Place.{Place}
use Rattle.hold_shapes.specs.declared.edit.Place.TheVariants.{Index, Key, Node}
use Rattle.hold_shapes.specs.declared.edit.ShapeEdit.{ShapeEdit}
use Rattle.hold_shapes.specs.Shapes.{place_of}
use Rattle.hold_shapes.specs.Plans.{plan}
use Rattle.doc_values.specs.Documents.{hold, DocTrees}
use Rattle.doc_values.specs.Types.{TyTree, ty_list, ty_keyed, ty_ordered, is_well_formed}
use Rattle.doc_values.specs.Typing.{has}
use Rattle.doc_values.specs.Initial.{initial}
use Rattle.edit_module.specs.Words.{WordTree, modify, shape}
use Rattle.edit_module.specs.Action.{act, act_primitive, act_at_place, doc_at, reshaped}
use Rattle.edit_module.specs.Containers.{IsHeld}
use Rattle.edit_module.proofs.ActionKeepsTypes.{list-held, keyed-held, tree-held}
use Rattle.edit_inverse.specs.Construct.{construct_each, only}
use Rattle.edit_inverse.specs.Inverse.{for_found, inverse, inverse_primitive, inverse_shape}
use Rattle.edit_inverse.specs.Steps.{contents_of, contents_at}
use Rattle.edit_inverse.specs.Texts.{IfFound, MeetsTexts, PrimitiveMeets}
use Rattle.std.proofs.lemmas.Option.{same_Some}

-- ---- the content at a place

-- an edit of a content of type i, at a place of a container of type t
pub record AtContent (t i : TyTree) (p : Place) (w : WordTree) (s : Shape) (ds : DocTrees) : Type 0 where
  pub acts : act_primitive t (modify p w) (hold s ds) ≡ act_at_place (λ v. act i w v) s ds p
  pub back : inverse_primitive t (modify p w) (hold s ds) ≡ for_found (place_of s p) (λ k. only (modify p (inverse i w (doc_at ds k))))
  pub meets : IfFound (place_of s p) (λ k. MeetsTexts i w (doc_at ds k)) → PrimitiveMeets t (modify p w) (hold s ds)
  pub held : has t (hold s ds) ≡ true → IsHeld i s ds
  pub well : is_well_formed t ≡ true → is_well_formed i ≡ true

pub at-content : (t i : TyTree) (p : Place) (w : WordTree) (s : Shape) (ds : DocTrees) → contents_at t p ≡ Some i → AtContent t i p w s ds
at-content (ty_list t) i (Index p) w s ds e =
    let P : TyTree → Type 0 = λ j. AtContent (ty_list t) j (Index p) w s ds in
    subst P (same_Some t i e) (record { acts = refl; back = refl; meets = λ m. m; held = list-held t s ds; well = λ h. h })
at-content (ty_keyed t) i (Key p) w s ds e =
    let P : TyTree → Type 0 = λ j. AtContent (ty_keyed t) j (Key p) w s ds in
    subst P (same_Some t i e) (record { acts = refl; back = refl; meets = λ m. m; held = keyed-held t s ds; well = λ h. h })
at-content (ty_ordered t) i (Node p) w s ds e =
    let P : TyTree → Type 0 = λ j. AtContent (ty_ordered t) j (Node p) w s ds in
    subst P (same_Some t i e) (record { acts = refl; back = refl; meets = λ m. m; held = tree-held t s ds; well = λ h. h })
at-content _ i _ w s ds e = cc

-- ---- edits of shapes

pub record Reshapes (t i : TyTree) (e : ShapeEdit) (s : Shape) (ds : DocTrees) : Type 0 where
  pub acts : act_primitive t (shape e) (hold s ds) ≡ reshaped (plan s e) ds (initial i)
  pub back : inverse_primitive t (shape e) (hold s ds) ≡ inverse_shape e s (construct_each i ds)
  pub held : has t (hold s ds) ≡ true → IsHeld i s ds

pub reshapes : (t i : TyTree) (e : ShapeEdit) (s : Shape) (ds : DocTrees) → contents_of t ≡ Some i → Reshapes t i e s ds
reshapes (ty_list t) i e s ds k = let P : TyTree → Type 0 = λ j. Reshapes (ty_list t) j e s ds in subst P (same_Some t i k) (record { acts = refl; back = refl; held = list-held t s ds })
reshapes (ty_keyed t) i e s ds k = let P : TyTree → Type 0 = λ j. Reshapes (ty_keyed t) j e s ds in subst P (same_Some t i k) (record { acts = refl; back = refl; held = keyed-held t s ds })
reshapes (ty_ordered t) i e s ds k = let P : TyTree → Type 0 = λ j. Reshapes (ty_ordered t) j e s ds in subst P (same_Some t i k) (record { acts = refl; back = refl; held = tree-held t s ds })
reshapes _ i e s ds k = cc

-- The rows of the action on containers, for any kind of container.
use Rattle.std.proofs.Common.{◌≡◌, Bool, true, false, List, map, Ok, Err, refl, sym, ap, ap₂, ◌∙◌, rules}
use Rattle.hold_shapes.specs.declared.shape.Shape.{Shape as ShapeOf}
use Rattle.hold_shapes.specs.declared.edit.Place.{Place as PlaceOf}
use Rattle.hold_shapes.specs.declared.edit.Place.TheVariants.{Index, Key, Node}
use Rattle.hold_shapes.specs.declared.edit.ShapeEdit.{ShapeEdit}
use Rattle.hold_shapes.specs.declared.origins.Origin.{Origin}
use Rattle.hold_shapes.specs.Plans.{plan, Planned}
use Rattle.hold_shapes.specs.Gather.{content_at}
use Rattle.doc_values.specs.Documents.{DocTree, DocTrees, docs_of, doc_list, hold, doc_tree, docs_tree}
use Rattle.doc_values.specs.declared.doc.Doc.{Doc, the_lemmas as doc_lemmas}
use Rattle.doc_values.specs.declared.doc.Doc.TheVariants.{Hold}
use Rattle.doc_values.specs.declared.doc.Docs.{Docs}
use Rattle.doc_values.specs.Types.{TyTree}
use Rattle.doc_values.specs.Typing.{has}
use Rattle.doc_values.specs.Initial.{initial}
use Rattle.edit_module.specs.declared.container.Container.{Container}
use Rattle.edit_module.specs.declared.container.Container.TheVariants as kinds
use Rattle.edit_module.specs.declared.fault.Cause.TheVariants.{Kind}
use Rattle.edit_module.specs.Words.{PrimitiveTree, modify, shape, WordTree}
use Rattle.edit_module.specs.Views.{primitive_tree}
use Rattle.edit_module.specs.declared.word.Primitive.{Primitive, the_lemmas as primitive_lemmas}
use Rattle.edit_module.specs.declared.word.Primitive.TheVariants.{Shape}
use Rattle.edit_module.specs.Action.{act, act_primitive, act_at_place, gathered, reshaped}
use Rattle.edit_module.specs.Containers.{IsHeld, container_ty, has_places_like}
use Rattle.edit_module.proofs.ActionKeepsTypes.{list-held, keyed-held, tree-held}

-- a container's document is a shape with contents
abbrev pub is_hold : DocTree → Bool
is_hold (hold s ds) = true
is_hold _ = false

pub container-is_hold : (k : Container) (t : TyTree) (d : DocTree) → has (container_ty k t) d ≡ true → is_hold d ≡ true
container-is_hold kinds.List t (hold s ds) h = refl
container-is_hold kinds.Keyed t (hold s ds) h = refl
container-is_hold kinds.Tree t (hold s ds) h = refl
container-is_hold kinds.List t d h = h
container-is_hold kinds.Keyed t d h = h
container-is_hold kinds.Tree t d h = h

pub container-held : (k : Container) (t : TyTree) (s : ShapeOf) (ds : DocTrees) → has (container_ty k t) (hold s ds) ≡ true → IsHeld t s ds
container-held kinds.List t s ds h = list-held t s ds h
container-held kinds.Keyed t s ds h = keyed-held t s ds h
container-held kinds.Tree t s ds h = tree-held t s ds h

-- ---- the rows

pub container-modify : (k : Container) (t : TyTree) (p : PlaceOf) (w : WordTree) (s : ShapeOf) (ds : DocTrees) → has_places_like k p ≡ true
    → act_primitive (container_ty k t) (modify p w) (hold s ds) ≡ act_at_place (λ v. act t w v) s ds p
container-modify kinds.List t (Index p) w s ds h = refl
container-modify kinds.Keyed t (Key p) w s ds h = refl
container-modify kinds.Tree t (Node p) w s ds h = refl
container-modify _ t _ w s ds h = cc

pub container-no_place : (k : Container) (t : TyTree) (p : PlaceOf) (w : WordTree) (s : ShapeOf) (ds : DocTrees) → has_places_like k p ≡ false
    → act_primitive (container_ty k t) (modify p w) (hold s ds) ≡ Err Kind
container-no_place kinds.List t (Index p) w s ds h = cc
container-no_place kinds.Keyed t (Key p) w s ds h = cc
container-no_place kinds.Tree t (Node p) w s ds h = cc
container-no_place kinds.List t _ w s ds h = refl
container-no_place kinds.Keyed t _ w s ds h = refl
container-no_place kinds.Tree t _ w s ds h = refl

pub container-shape : (k : Container) (t : TyTree) (e : ShapeEdit) (s : ShapeOf) (ds : DocTrees)
    → act_primitive (container_ty k t) (shape e) (hold s ds) ≡ reshaped (plan s e) ds (initial t)
container-shape kinds.List t e s ds = refl
container-shape kinds.Keyed t e s ds = refl
container-shape kinds.Tree t e s ds = refl

-- the primitives of containers
abbrev pub is_of_containers : PrimitiveTree → Bool
is_of_containers (modify p w) = true
is_of_containers (shape e) = true
is_of_containers _ = false

pub container-other : (k : Container) (t : TyTree) (p : PrimitiveTree) (d : DocTree) → is_of_containers p ≡ false → act_primitive (container_ty k t) p d ≡ Err Kind
container-other k t (modify p w) d h = cc
container-other k t (shape e) d h = cc
container-other kinds.List t _ d h = refl
container-other kinds.Keyed t _ d h = refl
container-other kinds.Tree t _ d h = refl

-- the row of shape edits, over the values of the code
pub primitive_tree-Shape : (e : ShapeEdit) → primitive_tree (Shape e) ≡ shape e
primitive_tree-Shape e = search (rules, primitive_lemmas)

pub doc_tree-Hold : (s : ShapeOf) (ds : Docs) → doc_tree (Hold s ds) ≡ hold s (docs_tree ds)
doc_tree-Hold s ds = search (rules, doc_lemmas)

pub shape_row : (k : Container) (t : TyTree) (p : Primitive) (e : ShapeEdit) (d : Doc) (s : ShapeOf) (ds : Docs) → p ≡ Shape e → d ≡ Hold s ds
    → act_primitive (container_ty k t) (primitive_tree p) (doc_tree d) ≡ reshaped (plan s e) (docs_tree ds) (initial t)
shape_row k t p e d s ds edits holds =
    ap₂ (act_primitive (container_ty k t)) (ap primitive_tree edits ∙ primitive_tree-Shape e) (ap doc_tree holds ∙ doc_tree-Hold s ds) ∙ container-shape k t e s (docs_tree ds)

pub ruleset container_rules = (container-is_hold, container-held, container-modify, container-no_place, container-shape, container-other)

-- ---- a reshaped container

pub reshaped-is : (p : Planned) (s : ShapeOf) (from : List Origin) (ds es : DocTrees) (d fresh : DocTree) → p ≡ Ok (s, from) → d ≡ fresh
    → es ≡ docs_of (map (content_at (doc_list ds) d) from) → reshaped p ds fresh ≡ Ok (hold s es)
reshaped-is p s from ds es d fresh e f g =
    ap (λ q. reshaped q ds fresh) e ∙ ap (λ x. Ok (hold s (gathered from ds x))) (sym f) ∙ ap (λ x. Ok (hold s x)) (sym g)

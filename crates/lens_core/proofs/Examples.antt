-- Translation and the relation, tried by computation on worked examples.
use Rattle.std.proofs.Common.{◌≡◌, refl, [], ◌∷◌, Some, None}
use Rattle.std.specs.Prelude.{codes, pos}
use Rattle.hold_shapes.specs.declared.shape.Shape.TheVariants.{Keyed as KeyedOf, Tree as TreeOf}
use Rattle.hold_shapes.specs.declared.edit.Place.TheVariants.{Index}
use Rattle.hold_shapes.specs.declared.edit.ShapeEdit.TheVariants.{Ins, Del, MoveItem, Reorder, RenameKey, Graft}
use Rattle.texts.specs.declared.side.Side.TheVariants.{Left, Right}
use Rattle.edit_module.specs.declared.atom.Atom.TheVariants.{Number, Letters}
use Rattle.doc_values.specs.Types.{TyTree, ty_int, ty_text, no_fields, more_fields}
use Rattle.edit_module.specs.Words.{PrimitiveTree, set, add, at, switch, modify, shape, WordTree, no_primitives, more_primitives}
use Rattle.lens_core.specs.Emitted.{one}
use Rattle.lens_forms.specs.Forms.{FormTree, form_id, form_bij, form_disc, form_then, form_rec, form_alt, form_keyed, form_ordered, form_part, form_inv, no_rows, both, only_left, only_right, no_arms, more_arms}
use Rattle.lens_core.specs.Complements.{CompTree, nil, then_comp, rec_comp, alt_comp, hold_comp, tags_comp, no_comps, more_comps, missing}
use Rattle.lens_core.specs.Translation.{translate}

abbrev number : TyTree
number = ty_int (pos 0)

abbrev words : TyTree
words = ty_text []

-- part <p: text, o: int>
abbrev mixed : FormTree
mixed = form_part (more_fields (codes "p") words (more_fields (codes "o") number no_fields))

-- a word of two primitives, and of three
abbrev two : PrimitiveTree → PrimitiveTree → WordTree
two p q = more_primitives p (one q)

abbrev three : PrimitiveTree → PrimitiveTree → PrimitiveTree → WordTree
three p q r = more_primitives p (two q r)

-- the identity passes on an empty inner word as it is
id_passes : translate (form_id number) Left nil (one (at (codes "f") no_primitives)) ≡ Some (one (at (codes "f") no_primitives), nil)
id_passes = refl

-- a record leaves it out, and a field of one side alone is translated to the empty word
abbrev labelled : FormTree
labelled = form_rec (both (codes "name") (codes "label") (form_id words) (only_left (codes "age") number (only_right (codes "note") words no_rows)))

record_leaves_out : translate labelled Left (rec_comp (more_comps nil no_comps)) (one (at (codes "name") no_primitives)) ≡ Some (no_primitives, rec_comp (more_comps nil no_comps))
record_leaves_out = refl

one_sided : translate labelled Left (rec_comp (more_comps nil no_comps)) (one (at (codes "age") (one (add (pos 1))))) ≡ Some (no_primitives, rec_comp (more_comps nil no_comps))
one_sided = refl

-- a field of the other side alone is none of this side
far_field : translate labelled Left (rec_comp (more_comps nil no_comps)) (one (at (codes "note") no_primitives)) ≡ None
far_field = refl

-- a switch takes the missing complement of the new arm, and is not left out
abbrev either : FormTree
either = form_alt (more_arms (codes "a") (codes "x") (form_id number) (more_arms (codes "b") (codes "y") labelled no_arms))

switched : translate either Right (alt_comp (codes "a") nil) (one (switch (codes "x") (codes "y") (one (at (codes "note") (one (set (Letters (codes "q"))))))))
    ≡ Some (one (switch (codes "a") (codes "b") no_primitives), alt_comp (codes "b") (rec_comp (more_comps nil no_comps)))
switched = refl

-- a bijection, and the inverse of an inverse
abbrev onoff : FormTree
onoff = form_bij ((codes "on", codes "yes") ∷ (codes "off", codes "no") ∷ []) (codes "on")

partners : translate onoff Right nil (one (set (Letters (codes "no")))) ≡ Some (one (set (Letters (codes "off"))), nil)
partners = refl

inverse_of_inverse : translate (form_inv (form_inv onoff)) Left nil (one (set (Letters (codes "off")))) ≡ Some (one (set (Letters (codes "no"))), nil)
inverse_of_inverse = refl

-- a composition in which the middle word is empty
middle_empty : translate (form_then (form_disc number words) (form_id words)) Left (then_comp nil nil) (one (set (Number (pos 4)))) ≡ Some (no_primitives, then_comp nil nil)
middle_empty = refl

-- a renamed key keeps its complement
abbrev held : CompTree → CompTree → CompTree
held c d = hold_comp (KeyedOf (codes "a" ∷ codes "b" ∷ [])) (more_comps c (more_comps d no_comps))

renamed : translate (form_keyed either) Left (held (alt_comp (codes "a") nil) (alt_comp (codes "b") (missing labelled))) (one (shape (RenameKey (codes "b") (codes "0"))))
    ≡ Some (one (shape (RenameKey (codes "b") (codes "0"))), hold_comp (KeyedOf (codes "0" ∷ codes "a" ∷ [])) (more_comps (alt_comp (codes "b") (missing labelled)) (more_comps (alt_comp (codes "a") nil) no_comps)))
renamed = refl

-- a fresh node has the missing complement
grafted : translate (form_ordered labelled) Right (hold_comp (TreeOf (0 ∷ [])) (more_comps (missing labelled) no_comps)) (one (shape (Graft [])))
    ≡ Some (one (shape (Graft [])), hold_comp (TreeOf (0 ∷ 1 ∷ [])) (more_comps (missing labelled) (more_comps (missing labelled) no_comps)))
grafted = refl

-- a partition: an item switched to another tag, and to the same one
abbrev of_p : WordTree → PrimitiveTree
of_p w = at (codes "p") w

abbrev of_o : WordTree → PrimitiveTree
of_o w = at (codes "o") w

switch_other : translate mixed Left (tags_comp (0 ∷ 0 ∷ [])) (one (modify (Index 1) (one (switch (codes "p") (codes "o") (one (set (Number (pos 7))))))))
    ≡ Some (two (of_p (one (shape (Del 1)))) (of_o (two (shape (Ins 1)) (modify (Index 0) (one (set (Number (pos 7))))))), tags_comp (0 ∷ 1 ∷ []))
switch_other = refl

switch_same : translate mixed Left (tags_comp (0 ∷ 1 ∷ 0 ∷ [])) (one (modify (Index 0) (one (switch (codes "p") (codes "p") (one (set (Letters (codes "x"))))))))
    ≡ Some (two (of_p (two (shape (MoveItem 0 1)) (shape (Del 1)))) (of_p (three (shape (Ins 1)) (shape (MoveItem 1 0)) (modify (Index 0) (one (set (Letters (codes "x"))))))), tags_comp (0 ∷ 1 ∷ 0 ∷ []))
switch_same = refl

-- the last two items deleted, one of each tag
deleted : translate mixed Left (tags_comp (0 ∷ 1 ∷ 0 ∷ [])) (one (shape (Del 2))) ≡ Some (two (of_p (one (shape (Del 1)))) (of_o (one (shape (Del 1)))), tags_comp (0 ∷ []))
deleted = refl

-- a move is counted in the new list
moved_left : translate mixed Left (tags_comp (0 ∷ 1 ∷ 0 ∷ [])) (one (shape (MoveItem 2 0))) ≡ Some (one (of_p (one (shape (MoveItem 1 0)))), tags_comp (0 ∷ 0 ∷ 1 ∷ []))
moved_left = refl

-- a reorder that changes the order within one tag alone, and one from the right
reordered_left : translate mixed Left (tags_comp (0 ∷ 1 ∷ 0 ∷ [])) (one (shape (Reorder (2 ∷ 1 ∷ 0 ∷ [])))) ≡ Some (one (of_p (one (shape (Reorder (1 ∷ 0 ∷ []))))), tags_comp (0 ∷ 1 ∷ 0 ∷ []))
reordered_left = refl

reordered_right : translate mixed Right (tags_comp (0 ∷ 1 ∷ 1 ∷ [])) (one (of_o (one (shape (Reorder (1 ∷ 0 ∷ [])))))) ≡ Some (one (shape (Reorder (0 ∷ 2 ∷ 1 ∷ []))), tags_comp (0 ∷ 1 ∷ 1 ∷ []))
reordered_right = refl

-- an insertion of the second tag from the right
inserted_right : translate mixed Right (tags_comp (0 ∷ 1 ∷ [])) (one (of_o (one (shape (Ins 1)))))
    ≡ Some (two (shape (Ins 1)) (modify (Index 2) (one (switch (codes "p") (codes "o") no_primitives))), tags_comp (0 ∷ 1 ∷ 1 ∷ []))
inserted_right = refl

-- the last of a tag deleted from the right
deleted_right : translate mixed Right (tags_comp (0 ∷ 1 ∷ 1 ∷ [])) (one (of_p (one (shape (Del 1))))) ≡ Some (two (shape (MoveItem 0 2)) (shape (Del 1)), tags_comp (1 ∷ 1 ∷ []))
deleted_right = refl

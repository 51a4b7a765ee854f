-- Images, tried by computation on worked examples.
use Rattle.std.proofs.Common.{◌≡◌, refl, [], ◌∷◌, Some, None}
use Rattle.std.specs.Prelude.{codes, pos, ℕ}
use Rattle.hold_shapes.specs.declared.shape.Shape.TheVariants.{List as ListOf, Keyed as KeyedOf}
use Rattle.texts.specs.declared.side.Side.TheVariants.{Left, Right}
use Rattle.doc_values.specs.Types.{TyTree, ty_int, ty_text, no_fields, more_fields}
use Rattle.lens_forms.specs.Forms.{FormTree, form_id, form_bij, form_disc, form_then, form_rec, form_alt, form_keyed, form_part, form_inv, no_rows, both, only_left, only_right, no_arms, more_arms}
use Rattle.lens_core.specs.Complements.{nil, then_comp, rec_comp, alt_comp, hold_comp, tags_comp, no_comps, more_comps}
use Rattle.law_images.specs.Patterns.{PatternTree, hole, int_pattern, text_pattern, pick_pattern, rec_pattern, alt_pattern, hold_pattern, PatternTrees, no_patterns, more_patterns}
use Rattle.law_images.specs.Image.{image}

abbrev number : TyTree
number = ty_int (pos 0)

abbrev words : TyTree
words = ty_text []

abbrev one : PatternTree → PatternTrees
one p = more_patterns p no_patterns

abbrev two : PatternTree → PatternTree → PatternTrees
two p q = more_patterns p (one q)

abbrev list_of : ℕ → PatternTrees → PatternTree
list_of n ps = hold_pattern (ListOf (record { count = n })) ps

-- a disconnection in a composition takes every document to a hole
disconnected : image (form_then (form_disc number words) (form_id words)) Left (then_comp nil nil) (int_pattern (pos 4)) ≡ Some hole
disconnected = refl

-- part <p: text, o: int>
abbrev mixed : FormTree
mixed = form_part (more_fields (codes "p") words (more_fields (codes "o") number no_fields))

-- with an item of each tag a hole has lists of one hole each, in the order of the sorted fields
parted_hole : image mixed Left (tags_comp (0 ∷ 1 ∷ [])) hole ≡ Some (rec_pattern (two (list_of 1 (one hole)) (list_of 1 (one hole))))
parted_hole = refl

-- and no document belongs to the empty list
parted_empty : image mixed Left (tags_comp (0 ∷ 1 ∷ [])) (list_of 0 no_patterns) ≡ None
parted_empty = refl

-- from the right the items stand in the order of the tags
joined_lists : image mixed Right (tags_comp (1 ∷ 0 ∷ 1 ∷ [])) (rec_pattern (two (list_of 2 (two (int_pattern (pos 3)) hole)) hole))
    ≡ Some (list_of 3 (more_patterns (alt_pattern (codes "o") (int_pattern (pos 3))) (two (alt_pattern (codes "p") hole) (alt_pattern (codes "o") hole))))
joined_lists = refl

-- a list that is longer than its tag is often belongs to no document
joined_long : image mixed Right (tags_comp (0 ∷ [])) (rec_pattern (two (list_of 1 (one hole)) hole)) ≡ None
joined_long = refl

-- a bijection, and its inverse
abbrev onoff : FormTree
onoff = form_bij ((codes "on", codes "yes") ∷ (codes "off", codes "no") ∷ []) (codes "on")

partners : image onoff Left nil (pick_pattern (codes "off")) ≡ Some (pick_pattern (codes "no"))
partners = refl

inverted : image (form_inv onoff) Left nil (pick_pattern (codes "no")) ≡ Some (pick_pattern (codes "off"))
inverted = refl

-- a record: one-sided fields have holes, and the far fields stand in their own order
abbrev labelled : FormTree
labelled = form_rec (both (codes "name") (codes "note") (form_id words) (only_left (codes "age") number (only_right (codes "id") number no_rows)))

record_fields : image labelled Left (rec_comp (more_comps nil no_comps)) (rec_pattern (two (int_pattern (pos 7)) (text_pattern (codes "x")))) ≡ Some (rec_pattern (two hole (text_pattern (codes "x"))))
record_fields = refl

-- alternatives: the complement's arm alone
abbrev either : FormTree
either = form_alt (more_arms (codes "a") (codes "x") (form_id number) (more_arms (codes "b") (codes "y") (form_id words) no_arms))

same_arm : image either Left (alt_comp (codes "b") nil) (alt_pattern (codes "b") hole) ≡ Some (alt_pattern (codes "y") hole)
same_arm = refl

other_arm : image either Left (alt_comp (codes "b") nil) (alt_pattern (codes "a") hole) ≡ None
other_arm = refl

-- a container: the complement's shape alone
other_keys : image (form_keyed either) Left (hold_comp (KeyedOf (codes "k" ∷ [])) (more_comps (alt_comp (codes "a") nil) no_comps)) (hold_pattern (KeyedOf (codes "j" ∷ [])) (one hole)) ≡ None
other_keys = refl

each_key : image (form_keyed either) Left (hold_comp (KeyedOf (codes "k" ∷ [])) (more_comps (alt_comp (codes "a") nil) no_comps)) hole ≡ Some (hold_pattern (KeyedOf (codes "k" ∷ [])) (one (alt_pattern (codes "x") hole)))
each_key = refl

-- Consistency, tried by computation on worked examples.
use Rattle.std.proofs.Common.{◌≡◌, refl, Bool, true, false, ◌&&◌, [], ◌∷◌, Option, None, Some}
use Rattle.std.specs.Prelude.{codes, pos, ℕ, ℤ, List}
use Rattle.hold_shapes.specs.declared.shape.Shape.TheVariants.{List as ListOf}
use Rattle.texts.specs.declared.side.Side.TheVariants.{Left}
use Rattle.doc_values.specs.Documents.{DocTree, int, text, pick, rec, alt, hold, DocTrees, no_docs, more_docs}
use Rattle.doc_values.specs.Types.{TyTree, ty_int, ty_text, ty_list, no_fields, more_fields}
use Rattle.doc_values.specs.Typing.{has}
use Rattle.lens_forms.specs.Forms.{FormTree, form_id, form_bij, form_disc, form_then, form_rec, form_each, form_part, form_inv, no_rows, both, left_type, right_type}
use Rattle.lens_core.specs.Complements.{CompTree, nil, then_comp, rec_comp, hold_comp, tags_comp, no_comps, more_comps}
use Rattle.law_images.specs.Patterns.{PatternTree, pattern_of}
use Rattle.law_images.specs.Image.{image}
use Rattle.lens_check.specs.FitTest.{fits}
use Rattle.lens_check.specs.MatchTest.{is_match}

abbrev is_reached : Option PatternTree → DocTree → Bool
is_reached None y = false
is_reached (Some q) y = is_match q y

-- the tests that decide consistency
abbrev decided : FormTree → DocTree → CompTree → DocTree → Bool
decided l x c y = has (left_type l) x && (fits l c && (has (right_type l) y && is_reached (image l Left c (pattern_of x)) y))

abbrev number : TyTree
number = ty_int (pos 0)

abbrev words : TyTree
words = ty_text []

abbrev one : DocTree → DocTrees
one d = more_docs d no_docs

abbrev list_of : ℕ → DocTrees → DocTree
list_of n ds = hold (ListOf (record { count = n })) ds

-- then(part <p: text, o: int>, {o ~ nums: each id int, p ~ names: each id text})
abbrev names_and_numbers : FormTree
names_and_numbers =
    form_then (form_part (more_fields (codes "p") words (more_fields (codes "o") number no_fields)))
    (form_rec (both (codes "o") (codes "nums") (form_each (form_id number)) (both (codes "p") (codes "names") (form_each (form_id words)) no_rows)))

abbrev mixed_list : DocTree
mixed_list = list_of 2 (more_docs (alt (codes "o") (int (pos 0))) (one (alt (codes "p") (text (codes "Eve")))))

abbrev two_lists : DocTree
two_lists = rec (more_docs (list_of 1 (one (text (codes "Eve")))) (one (list_of 1 (one (int (pos 0))))))

abbrev one_of_each : CompTree
one_of_each = hold_comp (ListOf (record { count = 1 })) (more_comps nil no_comps)

abbrev with_tags : CompTree → CompTree
with_tags tags = then_comp tags (rec_comp (more_comps one_of_each (more_comps one_of_each no_comps)))

-- the tags of the items, in order
tags_in_order : decided names_and_numbers mixed_list (with_tags (tags_comp (1 ∷ 0 ∷ []))) two_lists ≡ true
tags_in_order = refl

-- and in another order
tags_exchanged : decided names_and_numbers mixed_list (with_tags (tags_comp (0 ∷ 1 ∷ []))) two_lists ≡ false
tags_exchanged = refl

-- two identities keep the number
other_number : decided (form_then (form_id number) (form_id number)) (int (pos 1)) (then_comp nil nil) (int (pos 2)) ≡ false
other_number = refl

-- bijections of a to x and b to y, and back of x to c and y to d
abbrev there_and_back : FormTree
there_and_back =
    form_then (form_bij ((codes "a", codes "x") ∷ (codes "b", codes "y") ∷ []) (codes "a"))
    (form_inv (form_bij ((codes "c", codes "x") ∷ (codes "d", codes "y") ∷ []) (codes "c")))

partners_meet : decided there_and_back (pick (codes "b")) (then_comp nil nil) (pick (codes "d")) ≡ true
partners_meet = refl

partners_differ : decided there_and_back (pick (codes "a")) (then_comp nil nil) (pick (codes "d")) ≡ false
partners_differ = refl

-- behind a disconnection every text belongs to every number
abbrev disconnected : FormTree
disconnected = form_then (form_disc number words) (form_id words)

any_two : (n : ℤ) (s : List ℕ) → decided disconnected (int n) (then_comp nil nil) (text s) ≡ true
any_two n s = refl

-- but no number does
not_a_text : decided disconnected (int (pos 4)) (then_comp nil nil) (int (pos 4)) ≡ false
not_a_text = refl

-- and a complement that does not fit belongs to nothing
unfit : decided disconnected (int (pos 4)) nil (text (codes "t")) ≡ false
unfit = refl

-- a hole is any list and not the initial one, which is empty
abbrev any_list : FormTree
any_list = form_then (form_disc number (ty_list number)) (form_each (form_id number))

abbrev two_places : CompTree
two_places = then_comp nil (hold_comp (ListOf (record { count = 2 })) (more_comps nil (more_comps nil no_comps)))

list_of_two : decided any_list (int (pos 4)) two_places (list_of 2 (more_docs (int (pos 5)) (one (int (pos 6))))) ≡ true
list_of_two = refl

list_of_one : decided any_list (int (pos 4)) two_places (list_of 1 (one (int (pos 5)))) ≡ false
list_of_one = refl

-- Every form that is typed keeps the laws of lenses: one induction over the form, each constructor from its parts. Then
-- what a lens owes its callers, from these laws. All are lemmas, and stand here since the laws of an `impl` cite them.
use Rattle.std.proofs.Common.{◌≡◌, ℕ, true, ◌&&◌, List, [], ◌∷◌, refl}
use Rattle.texts.specs.declared.side.Side.{Side}
use Rattle.texts.proofs.Conjunction.{first as first_and, second as second_and}
use Rattle.doc_values.specs.Types.{are_distinct, are_choices, is_well_formed, is_same_ty}
use Rattle.doc_values.proofs.SameTypes.{is_same_ty-equal}
use Rattle.lens_forms.specs.Forms.{FormTree, form_id, form_bij, form_disc, form_then, form_rec, form_alt, form_each}
use Rattle.lens_forms.specs.Forms.{form_keyed, form_ordered, form_part, form_inv, RowTrees, no_rows, both, only_left}
use Rattle.lens_forms.specs.Forms.{only_right, ArmTrees, no_arms, more_arms, left_type, right_type}
use Rattle.lens_forms.specs.Typing.{is_typed, are_typed_rows, are_typed_arms, left_names, right_names, left_arms}
use Rattle.lens_forms.specs.Typing.{right_arms}
use Rattle.lens_forms.proofs.TypingLaws.{left_formed, right_formed}
use Rattle.lens_core.specs.Complements.{missing}
use Rattle.lens_core.specs.Consistency.{IsConsistent}
use Rattle.lens_core.specs.Translation.{translate}
use Rattle.lens_core.specs.Laws.{TypesAreWellFormed, StartTogether, TogetherAreTyped, EditsCarry, EmptyIsKept}
use Rattle.lens_core.specs.Laws.{JoinedInTurn, Laws}
use Rattle.lens_core.proofs.LawsOfLeaves.{id_laws, typed_bij_laws, disc_laws}
use Rattle.lens_core.proofs.LawsOfCompositions.{then_laws, inv_laws}
use Rattle.lens_core.proofs.LawsOfWords.{edits_carry, empty_stays, words_compose, consistent_is_typed}
use Rattle.lens_branch.specs.Branches.{RowLaws, ArmLaws}
use Rattle.lens_branch.proofs.LawsOfRecords.{record_laws}
use Rattle.lens_branch.proofs.LawsOfAlternatives.{alternatives_laws}
use Rattle.partition_lens.proofs.LawsOfPartitions.{typed_partition_laws}
use Rattle.container_lens.proofs.LawsOfContainers.{each_laws, keyed_laws, ordered_laws}

pub choices_distinct : (names : List (List ℕ)) → are_choices names ≡ true → are_distinct names ≡ true
choices_distinct [] h = refl
choices_distinct (n ∷ names) h = h

mutual
  pub form_laws : (l : FormTree) → is_typed l ≡ true → Laws l
  form_laws (form_id t) h = id_laws t h
  form_laws (form_bij ps n) h = typed_bij_laws ps n h
  form_laws (form_disc t u) h =
      disc_laws t u (first_and (is_well_formed t) (is_well_formed u) h)
      (second_and (is_well_formed t) (is_well_formed u) h)
  form_laws (form_then l k) h =
      let parts = first_and (is_typed l && is_typed k) (is_same_ty (right_type l) (left_type k)) h in
      then_laws l k (form_laws l (first_and (is_typed l) (is_typed k) parts))
      (form_laws k (second_and (is_typed l) (is_typed k) parts))
      (is_same_ty-equal _ _ (second_and (is_typed l && is_typed k) (is_same_ty (right_type l) (left_type k)) h))
  form_laws (form_rec rows) h =
      let names =
      second_and (are_typed_rows rows) (are_distinct (left_names rows) && are_distinct (right_names rows)) h in
      record_laws rows (record {
        laws = rows_laws rows
            (first_and (are_typed_rows rows) (are_distinct (left_names rows) && are_distinct (right_names rows)) h);
        left_apart = first_and (are_distinct (left_names rows)) (are_distinct (right_names rows)) names;
        right_apart = second_and (are_distinct (left_names rows)) (are_distinct (right_names rows)) names;
        left_sound = left_formed (form_rec rows) h;
        right_sound = right_formed (form_rec rows) h;
      })
  form_laws (form_alt arms) h =
      let names = second_and (are_typed_arms arms) (are_choices (left_arms arms) && are_choices (right_arms arms)) h in
      alternatives_laws arms (record {
        laws = arms_laws arms
            (first_and (are_typed_arms arms) (are_choices (left_arms arms) && are_choices (right_arms arms)) h);
        left_apart =
            choices_distinct (left_arms arms)
            (first_and (are_choices (left_arms arms)) (are_choices (right_arms arms)) names);
        right_apart =
            choices_distinct (right_arms arms)
            (second_and (are_choices (left_arms arms)) (are_choices (right_arms arms)) names);
        left_sound = left_formed (form_alt arms) h;
        right_sound = right_formed (form_alt arms) h;
      })
  form_laws (form_each l) h = each_laws l (form_laws l h)
  form_laws (form_keyed l) h = keyed_laws l (form_laws l h)
  form_laws (form_ordered l) h = ordered_laws l (form_laws l h)
  form_laws (form_part fs) h = typed_partition_laws fs h
  form_laws (form_inv l) h = inv_laws l (form_laws l h)

  rows_laws : (rows : RowTrees) → are_typed_rows rows ≡ true → RowLaws rows
  rows_laws no_rows h = tt
  rows_laws (both a b l rows) h = (
    form_laws l (first_and (is_typed l) (are_typed_rows rows) h),
    rows_laws rows (second_and (is_typed l) (are_typed_rows rows) h),
  )
  rows_laws (only_left a t rows) h = rows_laws rows (second_and (is_well_formed t) (are_typed_rows rows) h)
  rows_laws (only_right b t rows) h = rows_laws rows (second_and (is_well_formed t) (are_typed_rows rows) h)

  arms_laws : (arms : ArmTrees) → are_typed_arms arms ≡ true → ArmLaws arms
  arms_laws no_arms h = tt
  arms_laws (more_arms a b l arms) h = (
    form_laws l (first_and (is_typed l) (are_typed_arms arms) h),
    arms_laws arms (second_and (is_typed l) (are_typed_arms arms) h),
  )

-- ---- what a lens owes its callers

pub formed_types : (l : FormTree) → is_typed l ≡ true → TypesAreWellFormed (left_type l) (right_type l)
formed_types l h = (left_formed l h, right_formed l h)

pub form_starts : (l : FormTree) → is_typed l ≡ true
    → StartTogether (IsConsistent l) (left_type l) (right_type l) (missing l)
form_starts l h = (form_laws l h).starts

pub form_documents : (l : FormTree) → TogetherAreTyped (IsConsistent l) (left_type l) (right_type l)
form_documents l x c y k = let typed = consistent_is_typed l x c y k in (typed.left_has, typed.right_has)

pub form_edits : (l : FormTree) → is_typed l ≡ true → (side : Side) → EditsCarry l side
form_edits l h side = edits_carry l (form_laws l h) side

pub form_empty : (l : FormTree) → EmptyIsKept (translate l)
form_empty l = empty_stays l

pub form_joined : (l : FormTree) → JoinedInTurn (translate l)
form_joined l = words_compose l

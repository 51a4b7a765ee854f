-- Every typed form keeps the equations.
use Rattle.std.proofs.Common.{◌≡◌, true, ◌&&◌}
use Rattle.texts.proofs.Conjunction.{first, second}
use Rattle.doc_values.specs.Types.{are_distinct, are_choices, is_well_formed}
use Rattle.lens_forms.specs.Forms.{FormTree, form_id, form_bij, form_disc, form_then, form_rec, form_alt, form_each, form_keyed, form_ordered, form_part, form_inv, RowTrees, no_rows, both, only_left, only_right, ArmTrees, no_arms, more_arms, left_type, right_type}
use Rattle.lens_forms.specs.Typing.{is_typed, are_typed_rows, are_typed_arms, left_arms, right_arms, left_names, right_names}
use Rattle.doc_values.specs.Types.{is_same_ty}
use Rattle.doc_values.proofs.DistinctNames.{are_choices-distinct}
use Rattle.law_equations.specs.Alike.{KeepsEquations, RowsKeepEquations, ArmsKeepEquations}
use Rattle.law_equations.proofs.KeptByLeaves.{identity_keeps, bijection_keeps, disconnection_keeps}
use Rattle.law_equations.proofs.KeptByCompositions.{inverse_keeps, composition_keeps}
use Rattle.law_equations.proofs.KeptByRecords.{record_keeps}
use Rattle.law_equations.proofs.KeptByAlternatives.{alternatives_keep}
use Rattle.law_equations.proofs.KeptByContainers.{list_keeps, keyed_keeps, tree_keeps}
use Rattle.law_equations.proofs.KeptByPartitions.{partition_keeps}

mutual
  pub typed_keeps : (l : FormTree) → is_typed l ≡ true → KeepsEquations l
  typed_keeps (form_id t) e = identity_keeps t
  typed_keeps (form_bij ps n) e = bijection_keeps ps n
  typed_keeps (form_disc t u) e = disconnection_keeps t u
  typed_keeps (form_then l k) e =
      let lenses = first (is_typed l && is_typed k) (is_same_ty (right_type l) (left_type k)) e in
      composition_keeps l k (typed_keeps l (first (is_typed l) (is_typed k) lenses)) (typed_keeps k (second (is_typed l) (is_typed k) lenses))
  typed_keeps (form_rec rows) e = record_keeps rows (rows_keep rows (first (are_typed_rows rows) (are_distinct (left_names rows) && are_distinct (right_names rows)) e))
  typed_keeps (form_alt arms) e =
      let tags = second (are_typed_arms arms) (are_choices (left_arms arms) && are_choices (right_arms arms)) e in
      alternatives_keep arms (arms_keep arms (first (are_typed_arms arms) (are_choices (left_arms arms) && are_choices (right_arms arms)) e))
      (are_choices-distinct (left_arms arms) (first (are_choices (left_arms arms)) (are_choices (right_arms arms)) tags))
  typed_keeps (form_each l) e = list_keeps l (typed_keeps l e)
  typed_keeps (form_keyed l) e = keyed_keeps l (typed_keeps l e)
  typed_keeps (form_ordered l) e = tree_keeps l (typed_keeps l e)
  typed_keeps (form_part fs) e = partition_keeps fs
  typed_keeps (form_inv l) e = inverse_keeps l (typed_keeps l e)

  rows_keep : (rows : RowTrees) → are_typed_rows rows ≡ true → RowsKeepEquations rows
  rows_keep no_rows e = tt
  rows_keep (both a b l rows) e = (typed_keeps l (first (is_typed l) (are_typed_rows rows) e), rows_keep rows (second (is_typed l) (are_typed_rows rows) e))
  rows_keep (only_left a t rows) e = rows_keep rows (second (is_well_formed t) (are_typed_rows rows) e)
  rows_keep (only_right b t rows) e = rows_keep rows (second (is_well_formed t) (are_typed_rows rows) e)

  arms_keep : (arms : ArmTrees) → are_typed_arms arms ≡ true → ArmsKeepEquations arms
  arms_keep no_arms e = tt
  arms_keep (more_arms a b l arms) e = (typed_keeps l (first (is_typed l) (are_typed_arms arms) e), arms_keep arms (second (is_typed l) (are_typed_arms arms) e))

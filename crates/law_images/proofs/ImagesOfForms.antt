-- The law of images, by induction on the form.
use Rattle.std.proofs.Common.{◌≡◌, true, ◌&&◌}
use Rattle.texts.specs.Keys.{has_name}
use Rattle.texts.proofs.Conjunction.{first, second}
use Rattle.doc_values.specs.Types.{names_of, are_distinct, are_choices, is_well_formed, are_well_formed, is_same_ty}
use Rattle.doc_values.proofs.SameTypes.{is_same_ty-equal}
use Rattle.doc_values.proofs.DistinctNames.{are_choices-distinct}
use Rattle.lens_forms.specs.Forms.{FormTree, form_id, form_bij, form_disc, form_then, form_rec, form_alt, form_each, form_keyed, form_ordered, form_part, form_inv, RowTrees, no_rows, both, only_left, only_right, ArmTrees, no_arms, more_arms, lefts, rights, left_type, right_type}
use Rattle.lens_forms.specs.Typing.{is_typed, are_typed_rows, are_typed_arms, left_names, right_names, left_arms, right_arms}
use Rattle.lens_forms.proofs.TypingLaws.{left_formed, right_formed}
use Rattle.law_images.specs.ImageLaws.{ImageLaw}
use Rattle.law_images.proofs.SidesOfTriples.{formed_on}
use Rattle.law_images.proofs.ImagesOfLeaves.{id_images, disc_images, bij_images}
use Rattle.law_images.proofs.ImagesOfCompositions.{inv_images, then_images}
use Rattle.law_images.proofs.ImagesOfContainers.{each_images, keyed_images, ordered_images}
use Rattle.law_images.proofs.ImagesOfAlternatives.{ArmImages, alt_images}
use Rattle.law_images.proofs.ImagesOfRecords.{RowImages, rec_images}
use Rattle.law_images.proofs.ImagesOfPartitions.{part_images}

mutual
  pub form_images : (l : FormTree) → is_typed l ≡ true → ImageLaw l
  form_images (form_id t) h = id_images t
  form_images (form_bij ps n) h =
      bij_images ps n (left_formed (form_bij ps n) h) (right_formed (form_bij ps n) h) (are_choices-distinct (lefts ps) (first (are_choices (lefts ps)) (are_choices (rights ps) && has_name n (lefts ps)) h))
      (are_choices-distinct (rights ps) (first (are_choices (rights ps)) (has_name n (lefts ps)) (second (are_choices (lefts ps)) (are_choices (rights ps) && has_name n (lefts ps)) h)))
  form_images (form_disc t u) h = disc_images t u (first (is_well_formed t) (is_well_formed u) h) (second (is_well_formed t) (is_well_formed u) h)
  form_images (form_then l k) h =
      let parts = first (is_typed l && is_typed k) (is_same_ty (right_type l) (left_type k)) h in
      then_images l k (is_same_ty-equal (right_type l) (left_type k) (second (is_typed l && is_typed k) (is_same_ty (right_type l) (left_type k)) h))
      (form_images l (first (is_typed l) (is_typed k) parts)) (form_images k (second (is_typed l) (is_typed k) parts))
  form_images (form_rec rows) h =
      let names = second (are_typed_rows rows) (are_distinct (left_names rows) && are_distinct (right_names rows)) h in
      rec_images rows (first (are_distinct (left_names rows)) (are_distinct (right_names rows)) names) (second (are_distinct (left_names rows)) (are_distinct (right_names rows)) names)
      (left_formed (form_rec rows) h) (right_formed (form_rec rows) h) (rows_images rows (first (are_typed_rows rows) (are_distinct (left_names rows) && are_distinct (right_names rows)) h))
  form_images (form_alt arms) h =
      let names = second (are_typed_arms arms) (are_choices (left_arms arms) && are_choices (right_arms arms)) h in
      alt_images arms (are_choices-distinct (left_arms arms) (first (are_choices (left_arms arms)) (are_choices (right_arms arms)) names))
      (are_choices-distinct (right_arms arms) (second (are_choices (left_arms arms)) (are_choices (right_arms arms)) names))
      (arms_images arms (first (are_typed_arms arms) (are_choices (left_arms arms) && are_choices (right_arms arms)) h))
  form_images (form_each l) h = each_images l (formed_on l h) (form_images l h)
  form_images (form_keyed l) h = keyed_images l (formed_on l h) (form_images l h)
  form_images (form_ordered l) h = ordered_images l (formed_on l h) (form_images l h)
  form_images (form_part fs) h =
      part_images fs (record {
        apart = are_choices-distinct (names_of fs) (first (are_choices (names_of fs)) (are_well_formed fs) h);
        left_sound = left_formed (form_part fs) h;
        right_sound = right_formed (form_part fs) h;
      }) (second (are_choices (names_of fs)) (are_well_formed fs) h)
  form_images (form_inv l) h = inv_images l (form_images l h)

  rows_images : (rows : RowTrees) → are_typed_rows rows ≡ true → RowImages rows
  rows_images no_rows h = tt
  rows_images (both a b l rows) h = (form_images l (first (is_typed l) (are_typed_rows rows) h), rows_images rows (second (is_typed l) (are_typed_rows rows) h))
  rows_images (only_left a t rows) h = (first (is_well_formed t) (are_typed_rows rows) h, rows_images rows (second (is_well_formed t) (are_typed_rows rows) h))
  rows_images (only_right b t rows) h = (first (is_well_formed t) (are_typed_rows rows) h, rows_images rows (second (is_well_formed t) (are_typed_rows rows) h))

  arms_images : (arms : ArmTrees) → are_typed_arms arms ≡ true → ArmImages arms
  arms_images no_arms h = tt
  arms_images (more_arms a b l arms) h =
      let here = first (is_typed l) (are_typed_arms arms) h in
      (formed_on l here, form_images l here, arms_images arms (second (is_typed l) (are_typed_arms arms) h))

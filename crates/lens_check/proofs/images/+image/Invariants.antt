use Rattle.std.proofs.Common.{◌≡◌, ◌+◌, ◌*◌}
use Rattle.lens_forms.specs.Forms.{form_tree, rows_tree, arms_tree}
use Rattle.lens_forms.specs.Measures.{form_parts, rows_parts, arms_parts}
use Rattle.lens_core.specs.Complements.{comps_tree, comp_list, comp_count}
use Rattle.lens_core.specs.Sides.{fields_on}
use Rattle.law_images.specs.Image.{image, patterns_by_name}
use Rattle.law_images.specs.Patterns.{pattern_tree}
use Rattle.lens_check.specs.ImageParts.{names_in, patterns_in}
use Rattle.lens_check.proofs.HeldPatterns.{still_imaged, image_list, places_of}
use Rattle.lens_check.proofs.ImageSteps.{Underway}
use Rattle.lens_check.proofs.images.+image.Given as goal

abbrev pub decreases-image_of : goal.decreases-image_of
decreases-image_of l = 2 * form_parts (form_tree l.form.now)

abbrev pub decreases-image_then : goal.decreases-image_then
decreases-image_then l = 2 * form_parts (form_tree l.first.now) + 2 * form_parts (form_tree l.second.now) + 1

abbrev pub decreases-image_record : goal.decreases-image_record
decreases-image_record l = 2 * rows_parts (rows_tree l.rows.now) + 1

abbrev pub decreases-image_of_field : goal.decreases-image_of_field
decreases-image_of_field l = 2 * form_parts (form_tree l.form.now) + 1

abbrev pub decreases-image_alternatives : goal.decreases-image_alternatives
decreases-image_alternatives l = 2 * arms_parts (arms_tree l.arms.now) + 1

abbrev pub decreases-image_arm : goal.decreases-image_arm
decreases-image_arm l = 2 * form_parts (form_tree l.arm.now.2) + 1

abbrev pub decreases-image_held : goal.decreases-image_held
decreases-image_held l = 2 * form_parts (form_tree l.inner.now) + 1

abbrev pub invariant-image_record-loop-row : goal.invariant-image_record-loop-row
invariant-image_record-loop-row l =
    Underway l.row-items l.side (comps_tree l.comps) (patterns_by_name (fields_on l.side (rows_tree l.rows)) (pattern_tree l.pattern)) l.row-index l.pairs (names_in l.fields) (patterns_in l.fields)

abbrev pub invariant-image_held-loop-place : goal.invariant-image_held-loop-place
invariant-image_held-loop-place l =
    still_imaged (image (form_tree l.inner) l.side) (comp_list (comps_tree l.comps)) (places_of (comp_count (comps_tree l.comps)) (pattern_tree l.pattern)) l.place l.images.items
    ≡ image_list (image (form_tree l.inner) l.side) (comp_list (comps_tree l.comps)) (places_of (comp_count (comps_tree l.comps)) (pattern_tree l.pattern))

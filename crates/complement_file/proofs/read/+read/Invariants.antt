use Rattle.std.proofs.Common.{◌+◌, ◌*◌, drop, length, map}
use Rattle.serde_json.specs.View.{items_view, members_view}
use Rattle.lens_forms.specs.Forms.{form_tree, rows_tree, arms_tree}
use Rattle.lens_forms.specs.Measures.{form_parts, rows_parts, arms_parts}
use Rattle.lens_core.specs.Complements.{comp_tree}
use Rattle.complement_file.specs.Reading.{ArePlaces, member_contents}
use Rattle.complement_file.proofs.ReadRows.{RowsRead}
use Rattle.complement_file.proofs.ReadSoFar.{CompsRead}
use Rattle.complement_file.proofs.read.+read.Given as goal

abbrev pub decreases-read : goal.decreases-read
decreases-read l = 3 * form_parts (form_tree l.form.now)

abbrev pub decreases-read_pair : goal.decreases-read_pair
decreases-read_pair l = 3 * (form_parts (form_tree l.first.now) + form_parts (form_tree l.second.now)) + 2

abbrev pub decreases-read_record : goal.decreases-read_record
decreases-read_record l = 3 * rows_parts (rows_tree l.rows.now) + 2

abbrev pub decreases-read_rows : goal.decreases-read_rows
decreases-read_rows l = 3 * rows_parts (rows_tree l.rows.now) + 1

abbrev pub decreases-read_tagged : goal.decreases-read_tagged
decreases-read_tagged l = 3 * arms_parts (arms_tree l.arms.now) + 2

abbrev pub decreases-read_list : goal.decreases-read_list
decreases-read_list l = 3 * form_parts (form_tree l.inner.now) + 2

abbrev pub decreases-read_keyed : goal.decreases-read_keyed
decreases-read_keyed l = 3 * form_parts (form_tree l.inner.now) + 2

abbrev pub decreases-read_nodes : goal.decreases-read_nodes
decreases-read_nodes l = 3 * form_parts (form_tree l.inner.now) + 2

abbrev pub decreases-read_contents : goal.decreases-read_contents
decreases-read_contents l = 3 * form_parts (form_tree l.inner.now) + 1

abbrev pub decreases-read_places : goal.decreases-read_places
decreases-read_places l = 3 * form_parts (form_tree l.inner.now) + 1

-- what has been read, and what is left
abbrev pub invariant-read_rows-loop-row : goal.invariant-read_rows-loop-row
invariant-read_rows-loop-row l = RowsRead l.row-items l.items l.row-index (length l.comps.items) (map comp_tree l.comps.items)

abbrev pub invariant-read_contents-loop-content : goal.invariant-read_contents-loop-content
invariant-read_contents-loop-content l =
    CompsRead (ArePlaces (form_tree l.inner) (member_contents (members_view l.members.entries))) (ArePlaces (form_tree l.inner) (member_contents (members_view l.content-iterator))) (map comp_tree l.comps.items)

abbrev pub invariant-read_places-loop-item : goal.invariant-read_places-loop-item
invariant-read_places-loop-item l =
    CompsRead (ArePlaces (form_tree l.inner) (items_view l.items)) (ArePlaces (form_tree l.inner) (items_view (drop l.item-index l.items))) (map comp_tree l.comps.items)

use Rattle.std.proofs.Common.{◌≡◌, ◌+◌, ◌*◌, length, take, map}
use Rattle.serde_json.specs.View.{view, members_view}
use Rattle.lens_forms.specs.Forms.{form_tree, rows_tree, arms_tree}
use Rattle.lens_forms.specs.Measures.{form_parts, rows_parts, arms_parts}
use Rattle.lens_core.specs.Complements.{comps_tree, comps_of, comp_list}
use Rattle.complement_file.specs.ComplementJson.{tree_of_complement, place_members}
use Rattle.complement_file.proofs.Rows.{AreLeft}
use Rattle.complement_file.proofs.write.+write.Given as goal

abbrev pub decreases-write : goal.decreases-write
decreases-write l = 3 * form_parts (form_tree l.form.now)

abbrev pub decreases-write_record : goal.decreases-write_record
decreases-write_record l = 3 * rows_parts (rows_tree l.rows.now) + 1

abbrev pub decreases-write_tagged : goal.decreases-write_tagged
decreases-write_tagged l = 3 * arms_parts (arms_tree l.arms.now) + 1

abbrev pub decreases-write_places : goal.decreases-write_places
decreases-write_places l = 3 * form_parts (form_tree l.inner.now) + 1

abbrev pub decreases-write_keyed : goal.decreases-write_keyed
decreases-write_keyed l = 3 * form_parts (form_tree l.inner.now) + 1

abbrev pub decreases-write_map : goal.decreases-write_map
decreases-write_map l = 3 * form_parts (form_tree l.inner.now) + 2

abbrev pub decreases-write_nodes : goal.decreases-write_nodes
decreases-write_nodes l = 3 * form_parts (form_tree l.inner.now) + 2

abbrev pub invariant-write_record-loop-row : goal.invariant-write_record-loop-row
invariant-write_record-loop-row l = AreLeft l.row-items (comp_list (comps_tree l.comps)) l.row-index (length l.items.items) (map view l.items.items)

abbrev pub invariant-write_places-loop-i : goal.invariant-write_places-loop-i
invariant-write_places-loop-i l = map view l.items.items ≡ map (tree_of_complement (form_tree l.inner)) (take l.i (comp_list (comps_tree l.comps)))

abbrev pub invariant-write_keyed-loop-i : goal.invariant-write_keyed-loop-i
invariant-write_keyed-loop-i l = members_view l.members.entries ≡ place_members (tree_of_complement (form_tree l.inner)) (take l.i l.keys) (comps_of (take l.i (comp_list (comps_tree l.comps))))

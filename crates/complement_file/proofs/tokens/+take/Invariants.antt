use Rattle.std.proofs.Common.{◌+◌, ◌*◌, length, map}
use Rattle.lens_forms.specs.Forms.{form_tree, rows_tree, arms_tree}
use Rattle.lens_forms.specs.Measures.{form_parts, rows_parts, arms_parts}
use Rattle.lens_core.specs.Complements.{comp_tree}
use Rattle.doc_tokens.specs.MembersAt.{last_of}
use Rattle.complement_file.proofs.TakenParts.{PlacesSoFar, RowsSoFar, ContentsSoFar}
use Rattle.complement_file.proofs.tokens.+take.Given as goal

abbrev pub decreases-take : goal.decreases-take
decreases-take l = 3 * form_parts (form_tree l.form.now)

abbrev pub decreases-take_pair : goal.decreases-take_pair
decreases-take_pair l = 3 * (form_parts (form_tree l.first.now) + form_parts (form_tree l.second.now)) + 2

abbrev pub decreases-take_record : goal.decreases-take_record
decreases-take_record l = 3 * rows_parts (rows_tree l.rows.now) + 2

abbrev pub decreases-take_rows : goal.decreases-take_rows
decreases-take_rows l = 3 * rows_parts (rows_tree l.rows.now) + 1

abbrev pub decreases-take_tagged : goal.decreases-take_tagged
decreases-take_tagged l = 3 * arms_parts (arms_tree l.arms.now) + 2

abbrev pub decreases-take_list : goal.decreases-take_list
decreases-take_list l = 3 * form_parts (form_tree l.inner.now) + 2

abbrev pub decreases-take_keyed : goal.decreases-take_keyed
decreases-take_keyed l = 3 * form_parts (form_tree l.inner.now) + 2

abbrev pub decreases-take_nodes : goal.decreases-take_nodes
decreases-take_nodes l = 3 * form_parts (form_tree l.inner.now) + 2

abbrev pub decreases-take_contents : goal.decreases-take_contents
decreases-take_contents l = 3 * form_parts (form_tree l.inner.now) + 1

abbrev pub decreases-take_places : goal.decreases-take_places
decreases-take_places l = 3 * form_parts (form_tree l.inner.now) + 1

-- with what was taken, what is taken from now on is taken from the first token on
abbrev pub invariant-take_places-loop-reader : goal.invariant-take_places-loop-reader
invariant-take_places-loop-reader l = PlacesSoFar (form_tree l.inner) l.depth l.initial.reader l.reader (map comp_tree l.comps.items)

abbrev pub decreases-take_places-loop-reader : goal.decreases-take_places-loop-reader
decreases-take_places-loop-reader l = length l.reader

abbrev pub invariant-take_contents-loop-comps : goal.invariant-take_contents-loop-comps
invariant-take_contents-loop-comps l = ContentsSoFar (form_tree l.inner) l.depth l.initial.reader l.reader l.names.items (map comp_tree l.comps.items) (last_of l.names.items)

abbrev pub decreases-take_contents-loop-comps : goal.decreases-take_contents-loop-comps
decreases-take_contents-loop-comps l = length l.reader

abbrev pub invariant-take_rows-loop-row : goal.invariant-take_rows-loop-row
invariant-take_rows-loop-row l = RowsSoFar l.row-items l.row-index l.depth l.initial.reader l.reader (map comp_tree l.comps.items)

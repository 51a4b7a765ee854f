use Rattle.std.proofs.Common.{◌+◌, ◌*◌, length, map}
use Rattle.program_terms.specs.Views.{field_tree}
use Rattle.program_grammar.specs.Reading.{list_at, typed_at, type_at}
use Rattle.program_reader.proofs.ListLoop.{IsSoFar}
use Rattle.program_reader.proofs.types.+types.Given as goal

abbrev pub decreases-read_type : goal.decreases-read_type
decreases-read_type l = 8 * l.room

abbrev pub decreases-read_inner_type : goal.decreases-read_inner_type
decreases-read_inner_type l = 8 * l.room + 1

abbrev pub decreases-read_field : goal.decreases-read_field
decreases-read_field l = 8 * l.room + 1

abbrev pub decreases-read_fields : goal.decreases-read_fields
decreases-read_fields l = 8 * l.room + 2

abbrev pub decreases-read_closed_fields : goal.decreases-read_closed_fields
decreases-read_closed_fields l = 8 * l.room + 3

abbrev pub decreases-read_perhaps_fields : goal.decreases-read_perhaps_fields
decreases-read_perhaps_fields l = 8 * l.room + 4

abbrev pub decreases-read_mark_type : goal.decreases-read_mark_type
decreases-read_mark_type l = 8 * l.room + 5

abbrev pub decreases-read_word_type : goal.decreases-read_word_type
decreases-read_word_type l = 8 * l.room + 5

abbrev pub decreases-read_begun_type : goal.decreases-read_begun_type
decreases-read_begun_type l = 8 * l.room + 6

abbrev pub invariant-read_fields-fields : goal.invariant-read_fields-fields
invariant-read_fields-fields l = IsSoFar (typed_at (type_at l.room)) (map field_tree l.fields.items) l.reader (list_at (typed_at (type_at l.room)) l.fn.reader)

abbrev pub decreases-read_fields-fields : goal.decreases-read_fields-fields
decreases-read_fields-fields l = length l.reader.1

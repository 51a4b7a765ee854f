use Rattle.std.proofs.Common.{◌≡◌, ◌+◌, ◌*◌, map, length}
use Rattle.edit_module.specs.Views.{primitive_tree}
use Rattle.json_tokens.specs.TreesAt.{read_items_at}
use Rattle.edit_json.specs.WordJson.{word_of_items}
use Rattle.edit_tokens.proofs.ReadingWords.{onto_word}
use Rattle.edit_tokens.proofs.word_tokens.+take.Given as goal

abbrev pub decreases-take_word : goal.decreases-take_word
decreases-take_word l = 5 * l.depth

abbrev pub decreases-take_primitives : goal.decreases-take_primitives
decreases-take_primitives l = 5 * l.depth + 4

abbrev pub decreases-take_primitive : goal.decreases-take_primitive
decreases-take_primitive l = 5 * l.depth + 3

abbrev pub decreases-take_content : goal.decreases-take_content
decreases-take_content l = 5 * l.depth + 2

abbrev pub decreases-take_at : goal.decreases-take_at
decreases-take_at l = 5 * l.depth + 1

abbrev pub decreases-take_stay : goal.decreases-take_stay
decreases-take_stay l = 5 * l.depth + 1

abbrev pub decreases-take_switch : goal.decreases-take_switch
decreases-take_switch l = 5 * l.depth + 1

abbrev pub decreases-take_mod : goal.decreases-take_mod
decreases-take_mod l = 5 * l.depth + 1

-- the primitives so far, and those that are left, are those of all
abbrev pub invariant-take_primitives-loop-alloc : goal.invariant-take_primitives-loop-alloc
invariant-take_primitives-loop-alloc l =
    read_items_at word_of_items l.depth l.initial.reader ≡ onto_word (map primitive_tree l.primitives.items) (read_items_at word_of_items l.depth l.reader)

abbrev pub decreases-take_primitives-loop-alloc : goal.decreases-take_primitives-loop-alloc
decreases-take_primitives-loop-alloc l = length l.reader

use Rattle.std.proofs.Common.{◌≡◌, ◌+◌, ◌*◌, map, drop, option_map}
use Rattle.serde_json.specs.Data.{depth, items_depth}
use Rattle.serde_json.specs.View.{view, items_view}
use Rattle.edit_module.specs.Views.{primitive_tree}
use Rattle.edit_json.specs.WordJson.{word_of_items}
use Rattle.edit_json.proofs.Reading.{then_word}
use Rattle.edit_json.proofs.read.+read.Given as goal

abbrev pub decreases-read : goal.decreases-read
decreases-read l = 2 * depth (view l.tree.now)

abbrev pub decreases-read_items : goal.decreases-read_items
decreases-read_items l = 2 * items_depth (items_view l.items.now) + 1

abbrev pub decreases-read_primitive : goal.decreases-read_primitive
decreases-read_primitive l = 2 * depth (view l.tree.now)

abbrev pub decreases-read_content : goal.decreases-read_content
decreases-read_content l = 2 * depth (view l.content.now) + 1

abbrev pub decreases-read_at : goal.decreases-read_at
decreases-read_at l = 2 * depth (view l.content.now)

abbrev pub decreases-read_stay : goal.decreases-read_stay
decreases-read_stay l = 2 * depth (view l.content.now)

abbrev pub decreases-read_switch : goal.decreases-read_switch
decreases-read_switch l = 2 * depth (view l.content.now)

abbrev pub decreases-read_mod : goal.decreases-read_mod
decreases-read_mod l = 2 * depth (view l.content.now)

-- the primitives so far, and those of what is left, are those of all
abbrev pub invariant-read_items-loop-item : goal.invariant-read_items-loop-item
invariant-read_items-loop-item l =
    word_of_items (items_view l.items) ≡ option_map (then_word (map primitive_tree l.primitives.items)) (word_of_items (items_view (drop l.item-index l.items)))

use Rattle.std.proofs.Common.{◌≡◌, ◌+◌, ◌*◌, map, drop}
use Rattle.doc_values.specs.Types.{ty_tree}
use Rattle.edit_module.specs.Depths.{primitive_depth, word_depth}
use Rattle.edit_module.specs.Views.{primitive_tree, word_tree}
use Rattle.edit_module.specs.Words.{word_of}
use Rattle.bridge_core.specs.Bridges.{bridge_tree}
use Rattle.bridge_core.specs.Carried.{in_front, carry}
use Rattle.bridge_core.proofs.carrying.+walk.Given as goal

-- a primitive is less deep than its word, and its inner word is as deep as it

abbrev pub decreases-walk : goal.decreases-walk
decreases-walk l = 8 * word_depth (word_tree l.word.now)

abbrev pub decreases-stayed : goal.decreases-stayed
decreases-stayed l = 8 * word_depth (word_tree l.word.now) + 2

abbrev pub decreases-on_record : goal.decreases-on_record
decreases-on_record l = 8 * primitive_depth (primitive_tree l.primitive.now) + 3

abbrev pub decreases-on_arm : goal.decreases-on_arm
decreases-on_arm l = 8 * primitive_depth (primitive_tree l.primitive.now) + 3

abbrev pub decreases-on_item : goal.decreases-on_item
decreases-on_item l = 8 * word_depth (word_tree l.word.now) + 2

abbrev pub decreases-on_list : goal.decreases-on_list
decreases-on_list l = 8 * primitive_depth (primitive_tree l.primitive.now) + 3

abbrev pub decreases-step : goal.decreases-step
decreases-step l = 8 * primitive_depth (primitive_tree l.primitive.now) + 4

abbrev pub invariant-walk-loop-i : goal.invariant-walk-loop-i
invariant-walk-loop-i l =
    in_front (word_tree l.current.word) (carry (ty_tree l.ty) (bridge_tree l.current.bridge) (word_of (map primitive_tree (drop l.i l.primitives))))
    ≡ carry (ty_tree l.ty) (bridge_tree l.bridge) (word_of (map primitive_tree l.primitives))

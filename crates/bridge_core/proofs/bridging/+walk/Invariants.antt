use Rattle.std.proofs.Common.{◌≡◌, ◌+◌, ◌*◌, true, map, drop}
use Rattle.doc_values.specs.Documents.{doc_tree}
use Rattle.doc_values.specs.Types.{ty_tree}
use Rattle.doc_values.specs.Typing.{has}
use Rattle.edit_module.specs.Action.{act, later}
use Rattle.edit_module.specs.Depths.{primitive_depth, word_depth}
use Rattle.edit_module.specs.Views.{primitive_tree, word_tree}
use Rattle.edit_module.specs.Words.{word_of}
use Rattle.bridge_core.specs.Bridges.{bridge_tree}
use Rattle.bridge_core.specs.Bridged.{bridge}
use Rattle.bridge_core.proofs.bridging.+walk.Given as goal

-- a primitive is less deep than its word, and its inner word is as deep as it

abbrev pub decreases-walk : goal.decreases-walk
decreases-walk l = 8 * word_depth (word_tree l.word.now)

abbrev pub decreases-inside : goal.decreases-inside
decreases-inside l = 8 * word_depth (word_tree l.word.now) + 1

abbrev pub decreases-at_field : goal.decreases-at_field
decreases-at_field l = 8 * word_depth (word_tree l.word.now) + 3

abbrev pub decreases-at_tag : goal.decreases-at_tag
decreases-at_tag l = 8 * word_depth (word_tree l.word.now) + 3

abbrev pub decreases-at_item : goal.decreases-at_item
decreases-at_item l = 8 * word_depth (word_tree l.word.now) + 2

abbrev pub decreases-at_place : goal.decreases-at_place
decreases-at_place l = 8 * word_depth (word_tree l.word.now) + 3

abbrev pub decreases-step : goal.decreases-step
decreases-step l = 8 * primitive_depth (primitive_tree l.primitive.now) + 4

abbrev pub invariant-walk-loop-i : goal.invariant-walk-loop-i
invariant-walk-loop-i l = record {
  typed : has (ty_tree l.ty) (doc_tree l.current.value) ≡ true;
  left :
      later l.i (act (ty_tree l.ty) (word_of (map primitive_tree (drop l.i l.primitives))) (doc_tree l.current.value))
      ≡ act (ty_tree l.ty) (word_of (map primitive_tree l.primitives)) (doc_tree l.doc);
  over :
      bridge (ty_tree l.ty) (word_of (map primitive_tree (drop l.i l.primitives))) (doc_tree l.current.value) (bridge_tree l.current.bridge)
      ≡ bridge (ty_tree l.ty) (word_of (map primitive_tree l.primitives)) (doc_tree l.doc) (bridge_tree l.before);
}

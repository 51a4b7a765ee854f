use Rattle.std.proofs.Common.{ap, arith}
use Rattle.edit_module.specs.Views.{primitive_tree}
use Rattle.edit_json.specs.Depths.{primitive_depth, word_depth}
use Rattle.edit_json.proofs.Writing.{primitive_within}
use Rattle.edit_json.proofs.compact.+put.Goals as goal

pub put_word-put_primitive-requires : goal.put_word-put_primitive-requires
put_word-put_primitive-requires t c =
    let within = primitive_within c.as_slice-primitive-items.result.now c.loop-primitive.primitive-index c.primitive-item.result c.loop-primitive-test.true in
    let same = ap (λ p. primitive_depth (primitive_tree p)) c.primitive-item.is in
    let all = ap word_depth c.as_slice-primitive-items.ensures in
    omega (arith, within, same, all, c.decreases)

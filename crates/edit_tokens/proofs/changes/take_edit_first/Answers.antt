use Rattle.std.proofs.Common.{◌-◌, refl, arith}
use Rattle.edit_module.specs.Views.{word_tree}
use Rattle.edit_tokens.proofs.ReadingChanges.{edit_first}
use Rattle.edit_tokens.proofs.changes.take_edit_first.Goals as goal

pub returns : goal.returns
returns c before key =
    edit_first c.args.depth before c.args.reader.now c.take_word.new.reader c.takes_key.new.reader c.take_side.new.reader c.closes_object.new.reader (word_tree c.in_ok-word.word) c.in_ok-side.side (omega arith) key
    c.in_ok-word.ensures (c.if-not-takes_key.ensures refl) (c.in_ok-side.ensures (c.args.depth - 1)) (c.if-not-closes_object.ensures refl)

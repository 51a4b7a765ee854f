use Rattle.std.proofs.Common.{refl}
use Rattle.edit_module.specs.Views.{entry_tree}
use Rattle.store_records.proofs.ChangesTaken.{single_taken}
use Rattle.store_records.proofs.tokens.take_single.Goals as goal

pub returns : goal.returns
returns c before key = single_taken before c.args.reader.now _ _ (entry_tree c.in_ok-entry.entry) key c.in_ok-entry.ensures (c.if-not-closes_object.ensures refl)

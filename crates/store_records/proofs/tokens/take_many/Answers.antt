use Rattle.std.proofs.Common.{◌∷◌}
use Rattle.json.specs.Token.{begin_object}
use Rattle.edit_module.specs.Views.{entry_trees}
use Rattle.store_records.proofs.ChangesTaken.{group_taken}
use Rattle.store_records.proofs.tokens.take_many.Goals as goal

pub returns : goal.returns
returns c before key = group_taken (begin_object ∷ before) c.take_group.new.reader (entry_trees c.in_ok-entries.entries) (c.in_ok-entries.ensures before key)

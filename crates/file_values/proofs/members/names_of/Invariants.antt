use Rattle.std.proofs.Common.{◌≡◌, ◌++◌}
use Rattle.json.specs.Strict.{keys}
use Rattle.file_values.specs.Reading.{lent_members}
use Rattle.file_values.proofs.members.names_of.Given as goal

abbrev pub invariant-loop-name : goal.invariant-loop-name
invariant-loop-name l = keys (lent_members l.members.entries) ≡ l.names.items ++ keys (lent_members l.name-iterator)

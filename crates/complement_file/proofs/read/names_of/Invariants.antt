use Rattle.std.proofs.Common.{◌≡◌, ◌++◌}
use Rattle.serde_json.specs.View.{members_view}
use Rattle.value_json.specs.DocumentJson.{member_names}
use Rattle.complement_file.proofs.read.names_of.Given as goal

abbrev pub invariant-loop-name : goal.invariant-loop-name
invariant-loop-name l = member_names (members_view l.members.entries) ≡ l.names.items ++ member_names (members_view l.name-iterator)

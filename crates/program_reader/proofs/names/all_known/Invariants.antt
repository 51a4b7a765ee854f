use Rattle.std.proofs.Common.{◌≡◌, drop}
use Rattle.program_terms.specs.Views.{definitions_tree}
use Rattle.program_reader.specs.Known.{first_unknown_among}
use Rattle.program_reader.proofs.names.all_known.Given as goal

abbrev pub invariant-loop-mention : goal.invariant-loop-mention
invariant-loop-mention l = first_unknown_among (definitions_tree l.known) (drop l.mention-index l.mentions) ≡ first_unknown_among (definitions_tree l.known) l.mentions

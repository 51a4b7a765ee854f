use Rattle.std.proofs.Common.{◌≡◌, ◌++◌, drop, List, ℕ, string_bytes}
use Rattle.program_terms.specs.Views.{program_tree}
use Rattle.program_writing.specs.Canonical.{put_definitions}
use Rattle.program_writing.proofs.program_text.put_definitions.Given as goal

abbrev pub invariant-loop-at : goal.invariant-loop-at
invariant-loop-at l = (rest : List ℕ) → string_bytes l.out ++ put_definitions (drop l.at (program_tree l.program).definitions) rest ≡ string_bytes l.fn.out ++ put_definitions (program_tree l.program).definitions rest

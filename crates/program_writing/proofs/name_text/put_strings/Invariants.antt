use Rattle.std.proofs.Common.{◌≡◌, ◌++◌, [], drop, List, ℕ, string_bytes}
use Rattle.program_writing.specs.Canonical.{put_strings}
use Rattle.program_writing.specs.Puts.{comma}
use Rattle.program_writing.proofs.name_text.put_strings.Given as goal

abbrev pub invariant-loop-name : goal.invariant-loop-name
invariant-loop-name l = (rest : List ℕ) → string_bytes l.out ++ put_strings (comma l.first) (drop l.name-index l.names) rest ≡ string_bytes l.fn.out ++ put_strings [] l.names rest

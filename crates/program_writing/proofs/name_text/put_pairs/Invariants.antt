use Rattle.std.proofs.Common.{◌≡◌, ◌++◌, [], drop, List, ℕ, string_bytes}
use Rattle.program_writing.specs.Canonical.{put_pairs}
use Rattle.program_writing.specs.Puts.{comma}
use Rattle.program_writing.proofs.name_text.put_pairs.Given as goal

abbrev pub invariant-loop-pair : goal.invariant-loop-pair
invariant-loop-pair l = (rest : List ℕ) → string_bytes l.out ++ put_pairs (comma l.first) (drop l.pair-index l.pairs) rest ≡ string_bytes l.fn.out ++ put_pairs [] l.pairs rest

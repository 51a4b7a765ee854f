-- Reading a program stops at the unexpected token.
use Rattle.std.proofs.Common.{◌≡◌, ℕ, List, Option, Some, None, Result, Ok, Err, sym, ap, ◌∙◌}
use Rattle.program_tokens.specs.declared.token.PlacedToken.{PlacedToken}
use Rattle.program_grammar.specs.Grammar.{IsViablePrefix, program_and_end}
use Rattle.program_grammar.specs.Mentions.{NotedProgram}
use Rattle.program_grammar.specs.Unexpected.{without_offsets, IsUnexpectedToken}
use Rattle.program_grammar.specs.Reading.{program_at}
use Rattle.law_prefixes.proofs.ProgramReading.{fault, program_stops}
use Rattle.law_prefixes.proofs.Unexpected.{stops_at_unexpected, unexpected_stops, all_fit, not_viable}

pub stops_there : (ts : List PlacedToken) (at : ℕ) → program_at ts ≡ Err (Some at) → IsUnexpectedToken program_and_end ts at
stops_there ts at e = stops_at_unexpected program_and_end ts at (tt, tt) (program_stops ts ∙ ap fault e)

failed_so : (r : Result NotedProgram (Option ℕ)) (at : ℕ) → fault r ≡ Some at → r ≡ Err (Some at)
failed_so (Ok p) at e = absurd cc
failed_so (Err d) at e = ap Err e

pub only_there : (ts : List PlacedToken) (at : ℕ) → IsUnexpectedToken program_and_end ts at → program_at ts ≡ Err (Some at)
only_there ts at m = failed_so (program_at ts) at (sym (program_stops ts) ∙ unexpected_stops program_and_end ts at (tt, tt) m)

pub unfinished : (ts : List PlacedToken) → program_at ts ≡ Err None → IsViablePrefix program_and_end (without_offsets ts)
unfinished ts e = all_fit program_and_end ts (program_stops ts ∙ ap fault e)

pub read : (ts : List PlacedToken) (p : NotedProgram) → program_at ts ≡ Ok p → IsViablePrefix program_and_end (without_offsets ts)
read ts p e = all_fit program_and_end ts (program_stops ts ∙ ap fault e)

pub no_unexpected_token : (ts : List PlacedToken) (at : ℕ) → IsViablePrefix program_and_end (without_offsets ts) → program_at ts ≡ Err (Some at) → ⊥
no_unexpected_token ts at f e = not_viable program_and_end ts at (stops_there ts at e) f

-- What is printed is spelled as what was read.
use Rattle.std.proofs.Common.{◌≡◌, ℕ, List, None, sym}
use Rattle.program_tokens.specs.Tokens.{tokens_of}
use Rattle.program_grammar.specs.Mentions.{NotedProgram, without_notes}
use Rattle.program_grammar.specs.Names.{first_fault}
use Rattle.program_grammar.specs.Spelling.{IsProgram}
use Rattle.program_writing.specs.Canonical.{canonical}
use Rattle.program_writing.proofs.FirstFault.{still_faultless}
use Rattle.program_writing.proofs.WritableSpelling.{program_kept}
use Rattle.program_writing.proofs.CanonicalTokens.{program_spelt}

pub program_again : (n : NotedProgram) (text : List ℕ) → IsProgram n (tokens_of text) → first_fault n ≡ None
    → (m : NotedProgram) × (without_notes m ≡ without_notes n) × IsProgram m (tokens_of (canonical (without_notes n))) × (first_fault m ≡ None)
program_again n text h none =
    let printed = program_spelt (without_notes n) (program_kept n text h) in
    (printed.0, printed.1, printed.2, still_faultless n printed.0 (tokens_of text) (tokens_of (canonical (without_notes n))) h printed.2 (sym printed.1) none)

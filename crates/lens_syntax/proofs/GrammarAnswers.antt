-- The result that computes says of a text what the grammar says of it, and it alone.
use Rattle.std.proofs.Common.{◌≡◌, ℕ, List, Option, Some, None, Result, Ok, Err, refl, sym, ap, subst, ◌∙◌}
use Rattle.program_tokens.specs.Tokens.{tokens_of}
use Rattle.program_tokens.specs.declared.token.PlacedToken.{PlacedToken}
use Rattle.program_terms.specs.Terms.{ProgramTree}
use Rattle.program_grammar.specs.Mentions.{NotedProgram, without_notes}
use Rattle.program_grammar.specs.Names.{first_fault}
use Rattle.program_grammar.specs.Spelling.{IsProgram}
use Rattle.program_grammar.specs.Reading.{program_at}
use Rattle.program_grammar.specs.declared.mention.NameFault.{NameFault}
use Rattle.program_grammar.specs.declared.mention.NameFault.TheVariants.{Unknown, Repeated}
use Rattle.program_reader.specs.Causes.{ReadCause, program_or_cause, program_of, if_no_fault}
use Rattle.program_reader.specs.Causes as tokens
use Rattle.law_spellings.proofs.Programs.{program_found, program_again, one_program, no_program}
use Rattle.law_prefixes.proofs.ReadingLaws.{stops_there, only_there}
use Rattle.law_prefixes.proofs.TextEnd.{a_text_ends}
use Rattle.program_writing.specs.Canonical.{canonical}
use Rattle.program_writing.specs.Writable.{IsWritable}
use Rattle.program_writing.proofs.CanonicalTokens.{program_spelt}
use Rattle.program_writing.proofs.WritableSpelling.{program_kept}
use Rattle.program_writing.proofs.FirstFault.{still_faultless}
use Rattle.lens_syntax.specs.Programs.{ProgramCause, too_long, not_a_program, unknown_name, repeated_name, IsProgramOf, Tells, text_result, unbounded, Gives, TellsResult}
use Rattle.lens_syntax.specs.declared.fault.ProgramFault.{ProgramFault}
use Rattle.lens_syntax.specs.declared.fault.ProgramFault.TheVariants.{ProgramTooLong, NotAProgram, UnknownName, RepeatedName, NoMemory}

-- a program that was read, by the first fault of its names
by_names : (text : List ℕ) (p : NotedProgram) → IsProgram p (tokens_of text) → (o : Option NameFault) → first_fault p ≡ o → Tells text (text_result text (if_no_fault o (without_notes p)))
by_names text p spelled None e = record { with_notes = p; is = refl; spelled = spelled; names = e }
by_names text p spelled (Some (Unknown at)) e = record { with_notes = p; spelled = spelled; first = e }
by_names text p spelled (Some (Repeated at)) e = record { with_notes = p; spelled = spelled; first = e }

by_reading : (text : List ℕ) (r : Result NotedProgram (Option ℕ)) → program_at (tokens_of text) ≡ r → Tells text (text_result text (program_or_cause r))
by_reading text (Ok p) e = by_names text p (program_found (tokens_of text) p e) (first_fault p) refl
by_reading text (Err (Some at)) e = record { unexpected = stops_there (tokens_of text) at e; none = λ p spelled. no_program (tokens_of text) (Some at) p e spelled }
by_reading text (Err None) e = absurd (a_text_ends text e)

unbounded_tells : (text : List ℕ) → Tells text (unbounded text)
unbounded_tells text = by_reading text (program_at (tokens_of text)) refl

pub tells : (text : List ℕ) (r : Result ProgramTree ProgramCause) → unbounded text ≡ r → Tells text r
tells text r e = subst (Tells text) e (unbounded_tells text)

-- so does what the code returns
pub result_tells : {X : Type 0} (view : X → ProgramTree) (text : List ℕ) (r : Result X ProgramFault) → Gives view r (unbounded text) → TellsResult view text r
result_tells view text (Ok x) e = tells text (Ok (view x)) e
result_tells view text (Err ProgramTooLong) e = tells text (Err too_long) e
result_tells view text (Err (NotAProgram at)) e = tells text (Err (not_a_program at)) e
result_tells view text (Err (UnknownName at)) e = tells text (Err (unknown_name at)) e
result_tells view text (Err (RepeatedName at)) e = tells text (Err (repeated_name at)) e
result_tells view text (Err NoMemory) e = tt

-- what reading the tokens gives
pub tokens_tell : (text : List ℕ) (ts : List PlacedToken) (r : Result ProgramTree ReadCause) → ts ≡ tokens_of text → program_of ts ≡ r → Tells text (text_result text r)
tokens_tell text ts r is e = subst (Tells text) (ap (λ us. text_result text (program_of us)) (sym is) ∙ ap (text_result text) e) (unbounded_tells text)

-- the tokens of a text never run out

ended_by_names : (o : Option NameFault) (p : ProgramTree) → if_no_fault o p ≡ Err tokens.ended → ⊥
ended_by_names None p e = absurd cc
ended_by_names (Some (Unknown at)) p e = absurd cc
ended_by_names (Some (Repeated at)) p e = absurd cc

ended_by_reading : (text : List ℕ) (r : Result NotedProgram (Option ℕ)) → program_at (tokens_of text) ≡ r → program_or_cause r ≡ Err tokens.ended → ⊥
ended_by_reading text (Ok p) e h = ended_by_names (first_fault p) (without_notes p) h
ended_by_reading text (Err (Some at)) e h = absurd cc
ended_by_reading text (Err None) e h = a_text_ends text e

pub never_ended : (text : List ℕ) (ts : List PlacedToken) → ts ≡ tokens_of text → program_of ts ≡ Err tokens.ended → ⊥
never_ended text ts is h = ended_by_reading text (program_at (tokens_of text)) refl (subst (λ us. program_of us ≡ Err tokens.ended) is h)

-- a result that says what the grammar says of a text is the one that computes

by_spelling : (text : List ℕ) (n : NotedProgram) (o : Option NameFault) → IsProgram n (tokens_of text) → first_fault n ≡ o → unbounded text ≡ text_result text (if_no_fault o (without_notes n))
by_spelling text n o spelled first =
    ap (λ r. text_result text (program_or_cause r)) (program_again (tokens_of text) n spelled) ∙ ap (λ o. text_result text (if_no_fault o (without_notes n))) first

pub tells_only : (text : List ℕ) (r : Result ProgramTree ProgramCause) → Tells text r → unbounded text ≡ r
tells_only text (Ok program) h = by_spelling text h.with_notes None h.spelled h.names ∙ ap Ok h.is
tells_only text (Err too_long) h = absurd h
tells_only text (Err (not_a_program at)) h = ap (λ r. text_result text (program_or_cause r)) (only_there (tokens_of text) at h.unexpected)
tells_only text (Err (unknown_name at)) h = by_spelling text h.with_notes (Some (Unknown at)) h.spelled h.first
tells_only text (Err (repeated_name at)) h = by_spelling text h.with_notes (Some (Repeated at)) h.spelled h.first

-- printing

pub one_of_text : (text : List ℕ) (one other : ProgramTree) → IsProgramOf text one → IsProgramOf text other → one ≡ other
one_of_text text one other p q = sym p.is ∙ ap without_notes (one_program (tokens_of text) p.with_notes q.with_notes p.spelled q.spelled) ∙ q.is

read_of_read : (text : List ℕ) (program : ProgramTree) → IsProgramOf text program → unbounded (canonical program) ≡ Ok program
read_of_read text program r =
    let writable = subst IsWritable r.is (program_kept r.with_notes text r.spelled) in
    let again = program_spelt program writable in
    let good = still_faultless r.with_notes again.0 (tokens_of text) (tokens_of (canonical program)) r.spelled again.2 (r.is ∙ sym again.1) r.names in
    by_spelling (canonical program) again.0 None again.2 good ∙ ap Ok again.1

pub read_again : (text : List ℕ) (program : ProgramTree) → unbounded text ≡ Ok program → unbounded (canonical program) ≡ Ok program
read_again text program e = read_of_read text program (tells text (Ok program) e)

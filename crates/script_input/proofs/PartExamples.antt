-- The definitions, tried on small examples.
use Rattle.std.proofs.Common.{◌≡◌, [], ◌∷◌, ◌++◌, true, false, codes, refl}
use Rattle.edit_journal.specs.declared.line.Line.TheVariants.{Text}
use Rattle.script_input.specs.Coming.{ended_lines, has_separator, journal_lines}
use Rattle.script_input.specs.Lines.{cut, is_separator, program_part, journal}

-- lines keep their LF when a text is cut; what follows the last one is a line where it is not empty
cut_twice : cut (codes "ab" ++ 10 ∷ 10 ∷ codes "c") ≡ (codes "ab" ++ 10 ∷ []) ∷ (10 ∷ []) ∷ codes "c" ∷ []
cut_twice = refl

cut_at_the_end : cut (codes "a" ++ 10 ∷ []) ≡ (codes "a" ++ 10 ∷ []) ∷ []
cut_at_the_end = refl

-- a separator may have a CR at its end, and nothing else
separator_with_cr : is_separator (codes "---" ++ 13 ∷ []) ≡ true
separator_with_cr = refl

separator_with_space : is_separator (codes "--- ") ≡ false
separator_with_space = refl

-- the first separator counts, and blank lines are lines of the journal too
parts : program_part (codes "p" ++ 10 ∷ codes "---" ++ 10 ∷ 32 ∷ 13 ∷ 10 ∷ codes "---") ≡ codes "p" ++ 10 ∷ []
parts = refl

lines : journal (codes "p" ++ 10 ∷ codes "---" ++ 10 ∷ 32 ∷ 13 ∷ 10 ∷ codes "---") ≡ Text (32 ∷ 13 ∷ []) ∷ Text (codes "---") ∷ []
lines = refl

no_separator : journal (codes "p" ++ 10 ∷ codes "q") ≡ []
no_separator = refl

-- a line has ended once its LF has come, the separator too
ended_line : ended_lines (codes "p" ++ 10 ∷ codes "---") ≡ Text (codes "p") ∷ []
ended_line = refl

separator_not_ended : has_separator (codes "p" ++ 10 ∷ codes "---") ≡ false
separator_not_ended = refl

ended_journal : journal_lines (codes "p" ++ 10 ∷ codes "---" ++ 10 ∷ codes "a" ++ 10 ∷ codes "b") ≡ Text (codes "a") ∷ []
ended_journal = refl

-- A run over more lines answers the first ones first.
use Rattle.std.proofs.Common.{◌≡◌, ℕ, ◌+◌, List, [], ◌∷◌, ◌++◌, Bool, true, false, cond, Option, None, Some, refl, sym, ap, ◌∙◌, append_assoc}
use Rattle.std.specs.Prelude.{option_map, option_and_then}
use Rattle.value_json.proofs.Facts.{map_some}
use Rattle.edit_journal.specs.Lines.{is_blank}
use Rattle.edit_journal.specs.declared.line.Line.{Line}
use Rattle.run_scripts.specs.LineRuns.{answers_text, run_lines}
use Rattle.run_scripts.specs.Answers.{Answer}
use Rattle.law_reports.specs.Beginnings.{BeginsWith}

module _ {T : Type 0} where
  -- the answers to the first steps are the first answers
  pub answers-begin : (steps more : List (T × Answer)) → BeginsWith (answers_text (steps ++ more)) (answers_text steps)
  answers-begin [] more = record { rest = answers_text more; is = refl }
  answers-begin (s ∷ steps) more =
      let on = answers-begin steps more in
      record { rest = on.rest; is = ap (λ l. s.1.line ++ l) on.is ∙ sym (append_assoc s.1.line (answers_text steps) on.rest) }

module _ {T : Type 0} (answer : T → ℕ → Line → Option (T × Answer)) where
  -- the steps of a run over these lines are the first of those over these and more
  abbrev Begins : List Line → List Line → Type 0
  Begins lines more = (t : T) (n : ℕ) (steps whole : List (T × Answer)) → run_lines answer t n lines ≡ Some steps → run_lines answer t n (lines ++ more) ≡ Some whole → BeginsWith whole steps

  -- a step, and then those over these lines
  abbrev after : ℕ → List Line → T × Answer → Option (List (T × Answer))
  after n lines s = option_map (λ all. s ∷ all) (run_lines answer s.0 n lines)

  by_answer : (n : ℕ) (lines more : List Line) → Begins lines more → (o : Option (T × Answer)) (steps whole : List (T × Answer))
      → option_and_then (after n lines) o ≡ Some steps → option_and_then (after n (lines ++ more)) o ≡ Some whole → BeginsWith whole steps
  by_answer n lines more rest None steps whole h k = cc
  by_answer n lines more rest (Some s) steps whole h k =
      let one = map_some (λ (all : List (T × Answer)). s ∷ all) (run_lines answer s.0 n lines) steps h in
      let all = map_some (λ (l : List (T × Answer)). s ∷ l) (run_lines answer s.0 n (lines ++ more)) whole k in
      let on = rest s.0 n one.0 all.0 one.1 all.1 in
      record { rest = on.rest; is = sym all.2 ∙ ap (λ l. s ∷ l) on.is ∙ ap (λ l. l ++ on.rest) one.2 }

  by_blank : (lines more : List Line) → Begins lines more → (t : T) (n : ℕ) (line : Line) (blank : Bool) (steps whole : List (T × Answer))
      → cond blank (run_lines answer t n lines) (option_and_then (after (n + 1) lines) (answer t (n + 1) line)) ≡ Some steps
      → cond blank (run_lines answer t n (lines ++ more)) (option_and_then (after (n + 1) (lines ++ more)) (answer t (n + 1) line)) ≡ Some whole
      → BeginsWith whole steps
  by_blank lines more rest t n line true steps whole h k = rest t n steps whole h k
  by_blank lines more rest t n line false steps whole h k = by_answer (n + 1) lines more rest (answer t (n + 1) line) steps whole h k

  pub run-begins : (lines more : List Line) → Begins lines more
  run-begins [] more t n steps whole h k = let same : [] ≡ steps = cc in record { rest = whole; is = ap (λ l. l ++ whole) same }
  run-begins (line ∷ lines) more t n steps whole h k = by_blank lines more (run-begins lines more) t n line (is_blank line) steps whole h k

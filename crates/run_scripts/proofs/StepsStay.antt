-- Every run stays in step, if each step does.
use Rattle.std.proofs.Common.{◌≡◌, ℕ, ◌+◌, List, [], ◌∷◌, Bool, true, false, cond, Option, Some, option_map, option_and_then, map, refl, ap, ◌∙◌}
use Rattle.std.specs.List.{All}
use Rattle.std.proofs.lemmas.List.Elements.{All-nil, All-cons}
use Rattle.edit_journal.specs.Lines.{is_blank}
use Rattle.edit_journal.specs.declared.line.Line.{Line}
use Rattle.run_scripts.specs.LineRuns.{run_lines}
use Rattle.run_scripts.specs.Answers.{Answer}
use Rattle.run_scripts.specs.ScriptEnds.{StaysInStep}

-- Each item is answered from a state that is in step, and the next state is in step.
abbrev pub EachStepStays : {T : Type 0} → (T → ℕ → Line → Option (T × Answer)) → (T → Type 0) → Type 0
EachStepStays {T} answer is_kept = (t : T) (n : ℕ) (line : Line) → is_blank line ≡ false → is_kept t → (s : T × Answer) × (answer t n line ≡ Some s) × is_kept s.0

module _ {T : Type 0} (answer : T → ℕ → Line → Option (T × Answer)) (is_kept : T → Type 0) (steps : EachStepStays answer is_kept) where
  -- the run over these lines goes on to its end, and each state after an item is in step
  abbrev Runs : List Line → T → ℕ → Type 0
  Runs lines t n = (all : List (T × Answer)) × (run_lines answer t n lines ≡ Some all) × All is_kept (map (λ s. s.0) all)

  one_line : (line : Line) (lines : List Line) → ((t : T) (n : ℕ) → is_kept t → Runs lines t n) → (t : T) (n : ℕ) → is_kept t → (blank : Bool) → is_blank line ≡ blank
      → Runs (line ∷ lines) t n
  one_line line lines rest t n kept true e =
      let more : T × Answer → Option (List (T × Answer)) = λ s. option_map (λ all. s ∷ all) (run_lines answer s.0 (n + 1) lines) in
      let r = rest t n kept in
      (r.0, ap (λ b. cond b (run_lines answer t n lines) (option_and_then more (answer t (n + 1) line))) e ∙ r.1, r.2)
  one_line line lines rest t n kept false e =
      let more : T × Answer → Option (List (T × Answer)) = λ s. option_map (λ all. s ∷ all) (run_lines answer s.0 (n + 1) lines) in
      let s = steps t (n + 1) line e kept in
      let r = rest s.0.0 (n + 1) s.2 in (
        s.0 ∷ r.0,
        ap (λ b. cond b (run_lines answer t n lines) (option_and_then more (answer t (n + 1) line))) e
            ∙ ap (λ o. option_and_then more o) s.1
            ∙ ap (λ o. option_map (λ all. s.0 ∷ all) o) r.1,
        All-cons is_kept s.0.0 (map (λ x. x.0) r.0) s.2 r.2,
      )

  runs : (lines : List Line) (t : T) (n : ℕ) → is_kept t → Runs lines t n
  runs [] t n kept = ([], refl, All-nil is_kept)
  runs (line ∷ lines) t n kept = one_line line lines (runs lines) t n kept (is_blank line) refl

  pub every_run : (t : T) → is_kept t → (lines : List Line) → StaysInStep answer is_kept t lines
  every_run t kept lines =
      let r = runs lines t 0 kept in
      (t ∷ map (λ s. s.0) r.0, ap (λ o. option_map (λ all. t ∷ map (λ s. s.0) all) o) r.1, All-cons is_kept t (map (λ s. s.0) r.0) kept r.2)

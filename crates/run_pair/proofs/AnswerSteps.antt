-- The answer line of an item is that of the answer.
use Rattle.std.proofs.Common.{◌≡◌, ℕ, List, ◌++◌, Bool, Option, Some, option_map, sym, ap, ◌∙◌}
use Rattle.std.specs.Prelude.{IfSome}
use Rattle.edit_session.specs.Run.{is_refused}
use Rattle.edit_session.specs.Step.{TripleTree}
use Rattle.run_answers.proofs.AnswersHaveLines.{has_tree, is_so}
use Rattle.run_answers.specs.AnswerLines.{HasAnswerLine}
use Rattle.run_answers.specs.Answers.{answer_line}
use Rattle.run_answers.specs.ItemRuns.{JournalAnswer}
use Rattle.run_answers.specs.ItemViews.{answer_tree, step_with}
use Rattle.run_answers.specs.declared.answers.PairAnswer.{PairAnswer}
use Rattle.lens_forms.specs.Forms.{FormTree}
use Rattle.run_scripts.specs.Answers as stream
use Rattle.run_pair.specs.Runs.{numbered}

-- the answer line with whether the item was refused
abbrev answer_of : List ℕ → Bool → stream.Answer
answer_of line refused = record { line = line; refused = refused }

abbrev Made : Type 0
Made = Option ((FormTree × TripleTree) × stream.Answer)

module _ (form form' : FormTree) (t : TripleTree) (n : ℕ) (old new : List ℕ) (refused : Bool) (taken : Option (TripleTree × JournalAnswer)) (same : form' ≡ form) where
  pub answered_line : (a : PairAnswer) → HasAnswerLine a → taken ≡ step_with t a
      → IfSome (answer_tree a) (λ x. new ≡ old ++ answer_line n x) → IfSome (answer_tree a) (λ x. refused ≡ is_refused x)
      → stream.AddsAnswer (option_map (numbered form n) taken) (form', t) old new refused
  answered_line a has is line_is refused_is =
      let tree = has_tree a has in
      let x = tree.0 in
      let by_refused = is_so (λ (y : JournalAnswer). refused ≡ is_refused y) (answer_tree a) x tree.1 refused_is in
      record {
        line = answer_line n x;
        answers = ap (option_map (numbered form n)) (is ∙ ap (option_map (λ (y : JournalAnswer). (t, y))) tree.1)
            ∙ ap (λ f. let r : Made = Some ((f, t), answer_of (answer_line n x) (is_refused x)) in r) (sym same)
            ∙ ap (λ b. let r : Made = Some ((form', t), answer_of (answer_line n x) b) in r) (sym by_refused);
        adds = is_so (λ (y : JournalAnswer). new ≡ old ++ answer_line n y) (answer_tree a) x tree.1 line_is;
      }

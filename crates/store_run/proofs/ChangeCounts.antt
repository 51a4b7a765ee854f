-- How many changes a store has behind a run.
use Rattle.std.proofs.Common.{◌≡◌, ℕ, suc, ◌+◌, List, [], ◌∷◌, ◌++◌, length, Option, Some, None, Ok, refl, sym, ap, subst, ◌∙◌, append_assoc, append-nil, arith}
use Rattle.std.specs.Prelude.{option_to_list}
use Rattle.edit_journal.specs.declared.line.Line.{Line}
use Rattle.store_run.specs.StoreRuns.{AreSteps, kept_of}
use Rattle.store_run.specs.declared.session.StoredAnswer.{StoredAnswer}
use Rattle.store_run.specs.declared.session.StoredSession as OfSession

abbrev Payloads : Type 0
Payloads = List (List ℕ)

module _ {A : Type 0} (session : OfSession.Ghosts A)
    (version_stands : (ps : Payloads) (t : session.State) (v : List ℕ) → session.stands_for ps ≡ Ok (t, Some v) → session.stands_for (ps ++ v ∷ []) ≡ Ok (t, None))
    (change_stands : (ps : Payloads) (t t' : session.State) (n : ℕ) (line : Line) (a : StoredAnswer) (p : List ℕ) → session.stands_for ps ≡ Ok (t, None) → session.answer t n line ≡ Some (t', a) → session.is_step t n line (t', a) → a.payload ≡ Some p
    → session.stands_for (ps ++ p ∷ []) ≡ Ok (t', None))
    (refused_stays : (t t' : session.State) (n : ℕ) (line : Line) (a : StoredAnswer) → session.answer t n line ≡ Some (t', a) → a.payload ≡ None → t' ≡ t)
    (version_counts : (ps : Payloads) (t : session.State) (v : List ℕ) → session.stands_for ps ≡ Ok (t, Some v) → session.count_of (ps ++ v ∷ []) ≡ session.count_of ps)
    (change_counts : (ps : Payloads) (t t' : session.State) (n : ℕ) (line : Line) (a : StoredAnswer) (p : List ℕ) → session.stands_for ps ≡ Ok (t, None) → session.answer t n line ≡ Some (t', a) → session.is_step t n line (t', a) → a.payload ≡ Some p
    → session.count_of (ps ++ p ∷ []) ≡ session.count_of ps + 1) where
  count_step : (before : Payloads) (t : session.State) (s : session.State × StoredAnswer) (steps : List (session.State × StoredAnswer)) → session.stands_for before ≡ Ok (t, None) → (n : ℕ) × (line : Line) × (session.answer t n line ≡ Some s) × session.is_step t n line s
      → (o : Option (List ℕ)) → s.1.payload ≡ o
      → ((before' : Payloads) → session.stands_for before' ≡ Ok (s.0, None) → session.count_of (before' ++ kept_of steps) ≡ session.count_of before' + length (kept_of steps))
      → session.count_of (before ++ (option_to_list o ++ kept_of steps)) ≡ session.count_of before + length (option_to_list o ++ kept_of steps)
  count_step before t s steps h step None is more =
      let stays : s.0 ≡ t = refused_stays t s.0 step.0 step.1 s.1 step.2 is in
      more before (subst (λ (u : session.State). session.stands_for before ≡ Ok (u, None)) (sym stays) h)
  count_step before t s steps h step (Some q) is more =
      let one = change_counts before t s.0 step.0 step.1 s.1 q h step.2 step.3 is in
      let rest = more (before ++ q ∷ []) (change_stands before t s.0 step.0 step.1 s.1 q h step.2 step.3 is) in
      let all : session.count_of ((before ++ q ∷ []) ++ kept_of steps) ≡ session.count_of before + suc (length (kept_of steps)) = omega (arith, one, rest) in
      ap session.count_of (sym (append_assoc before (q ∷ []) (kept_of steps))) ∙ all

  all_count : (before : Payloads) (t : session.State) (steps : List (session.State × StoredAnswer)) → session.stands_for before ≡ Ok (t, None) → AreSteps session t steps → session.count_of (before ++ kept_of steps) ≡ session.count_of before + length (kept_of steps)
  all_count before t [] h chain =
      let same : session.count_of before ≡ session.count_of before + 0 = omega arith in
      ap session.count_of (append-nil before) ∙ same
  all_count before t (s ∷ steps) h chain = count_step before t s steps h chain.0 s.1.payload refl (λ before' h'. all_count before' s.0 steps h' chain.1)

  -- with the version record
  pub whole_counts : (before : Payloads) (t : session.State) (version : Option (List ℕ)) (steps : List (session.State × StoredAnswer)) → session.stands_for before ≡ Ok (t, version) → AreSteps session t steps
      → session.count_of ((before ++ option_to_list version) ++ kept_of steps) ≡ session.count_of before + length (kept_of steps)
  whole_counts before t None steps h chain = ap (λ (b : Payloads). session.count_of (b ++ kept_of steps)) (append-nil before) ∙ all_count before t steps h chain
  whole_counts before t (Some v) steps h chain =
      all_count (before ++ v ∷ []) t steps (version_stands before t v h) chain ∙ ap (λ (n : ℕ). n + length (kept_of steps)) (version_counts before t v h)

-- Runs over some lines and then over others.
use Rattle.std.proofs.Common.{◌≡◌, ℕ, ◌+◌, List, [], ◌∷◌, ◌++◌, Bool, true, false, cond, ◌||◌, not, Option, Some, None, refl, sym, ap, subst, ◌∙◌, append_assoc, append-nil}
use Rattle.std.specs.Prelude.{option_map, option_and_then, option_to_list, is_some}
use Rattle.edit_journal.specs.Lines.{is_blank}
use Rattle.edit_journal.specs.declared.line.Line.{Line}
use Rattle.store_run.specs.StoreRuns.{run_in_store, StoreGoesOver, AreSteps, AreAnswers, last_stored, any_line_refused, text_of, kept_of}
use Rattle.store_run.specs.declared.session.StoredAnswer.{StoredAnswer}
use Rattle.store_run.specs.declared.session.StoredSession as OfSession
use Rattle.texts.proofs.Tests.{or_grouped}

module _ {State : Type 0} where
  pub text_append : (xs ys : List (State × StoredAnswer)) → text_of (xs ++ ys) ≡ text_of xs ++ text_of ys
  text_append [] ys = refl
  text_append (x ∷ xs) ys = ap (λ (l : List ℕ). x.1.line ++ l) (text_append xs ys) ∙ sym (append_assoc x.1.line (text_of xs) (text_of ys))

  pub kept_append : (xs ys : List (State × StoredAnswer)) → kept_of (xs ++ ys) ≡ kept_of xs ++ kept_of ys
  kept_append [] ys = refl
  kept_append (x ∷ xs) ys = ap (λ (l : List (List ℕ)). option_to_list x.1.payload ++ l) (kept_append xs ys) ∙ sym (append_assoc (option_to_list x.1.payload) (kept_of xs) (kept_of ys))

  pub refused_append : (xs ys : List (State × StoredAnswer)) → any_line_refused (xs ++ ys) ≡ (any_line_refused xs || any_line_refused ys)
  refused_append [] ys = refl
  refused_append (x ∷ xs) ys = ap (λ b. not (is_some x.1.payload) || b) (refused_append xs ys) ∙ or_grouped (not (is_some x.1.payload)) (any_line_refused xs) (any_line_refused ys)

  pub refused_then : (b : Bool) (b' : Bool) (b'' : Bool) (xs ys : List (State × StoredAnswer)) → b' ≡ (b || any_line_refused xs) → b'' ≡ (b' || any_line_refused ys) → b'' ≡ (b || any_line_refused (xs ++ ys))
  refused_then b b' b'' xs ys e f =
      f ∙ ap (λ x. x || any_line_refused ys) e ∙ sym (or_grouped b (any_line_refused xs) (any_line_refused ys)) ∙ ap (λ x. b || x) (sym (refused_append xs ys))

  pub are_append : (xs ys : List (State × StoredAnswer)) → AreAnswers xs → AreAnswers ys → AreAnswers (xs ++ ys)
  are_append [] ys h k = k
  are_append (x ∷ xs) ys h k = (h.0, are_append xs ys h.1 k)

  pub last_append : (t : State) (xs ys : List (State × StoredAnswer)) → last_stored t (xs ++ ys) ≡ last_stored (last_stored t xs) ys
  last_append t [] ys = refl
  last_append t (x ∷ xs) ys = last_append x.0 xs ys

  map_nil : (o : Option (List (State × StoredAnswer))) → o ≡ option_map (λ rest. [] ++ rest) o
  map_nil None = refl
  map_nil (Some steps) = refl

  map_steps : (xs ys : List (State × StoredAnswer)) (o : Option (List (State × StoredAnswer))) → option_map (λ rest. xs ++ rest) (option_map (λ rest. ys ++ rest) o) ≡ option_map (λ rest. (xs ++ ys) ++ rest) o
  map_steps xs ys None = refl
  map_steps xs ys (Some steps) = ap (λ (l : List (State × StoredAnswer)). Some l) (sym (append_assoc xs ys steps))

module _ {A : Type 0} (session : OfSession.Ghosts A) where
  pub goes_none : (t : session.State) (n : ℕ) → StoreGoesOver session t n [] [] t n
  goes_none t n = λ more. map_nil (run_in_store session t n more)

  pub goes_then : (t t' t'' : session.State) (n n' n'' : ℕ) (lines more : List Line) (xs ys : List (session.State × StoredAnswer)) → StoreGoesOver session t n lines xs t' n' → StoreGoesOver session t' n' more ys t'' n''
      → StoreGoesOver session t n (lines ++ more) (xs ++ ys) t'' n''
  goes_then t t' t'' n n' n'' lines more xs ys h k = λ rest.
      ap (run_in_store session t n) (append_assoc lines more rest) ∙ h (more ++ rest) ∙ ap (option_map (λ (l : List (session.State × StoredAnswer)). xs ++ l)) (k rest) ∙ map_steps xs ys (run_in_store session t'' n'' rest)

  pub goes_blank : (t : session.State) (n : ℕ) (line : Line) → is_blank line ≡ true → StoreGoesOver session t n (line ∷ []) [] t n
  goes_blank t n line blank = λ more.
      ap (λ b. cond b (run_in_store session t n more) (option_and_then (λ s. option_map (λ steps. s ∷ steps) (run_in_store session s.0 (n + 1) more)) (session.answer t (n + 1) line))) blank ∙ map_nil (run_in_store session t n more)

  pub goes_one : (t t' : session.State) (n : ℕ) (line : Line) (a : StoredAnswer) → is_blank line ≡ false → session.answer t (n + 1) line ≡ Some (t', a) → StoreGoesOver session t n (line ∷ []) ((t', a) ∷ []) t' (n + 1)
  goes_one t t' n line a full e = λ more.
      ap (λ b. cond b (run_in_store session t n more) (option_and_then (λ s. option_map (λ steps. s ∷ steps) (run_in_store session s.0 (n + 1) more)) (session.answer t (n + 1) line))) full
      ∙ ap (option_and_then (λ (s : session.State × StoredAnswer). option_map (λ (steps : List (session.State × StoredAnswer)). s ∷ steps) (run_in_store session s.0 (n + 1) more))) e

  -- with no lines behind, the steps are the run
  pub goes_run : (t t' : session.State) (n n' : ℕ) (lines : List Line) (steps : List (session.State × StoredAnswer)) → StoreGoesOver session t n lines steps t' n' → run_in_store session t n lines ≡ Some steps
  goes_run t t' n n' lines steps h =
      ap (run_in_store session t n) (sym (append-nil lines)) ∙ h [] ∙ ap (λ (l : List (session.State × StoredAnswer)). Some l) (append-nil steps)

  -- steps and then others from the triple behind them
  pub chain_append : (t t' : session.State) (xs ys : List (session.State × StoredAnswer)) → last_stored t xs ≡ t' → AreSteps session t xs → AreSteps session t' ys → AreSteps session t (xs ++ ys)
  chain_append t t' [] ys e h k = subst (λ (u : session.State). AreSteps session u ys) (sym e) k
  chain_append t t' (x ∷ xs) ys e h k = (h.0, chain_append x.0 t' xs ys e h.1 k)

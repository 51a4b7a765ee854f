-- The first steps of a run are the run of first lines.
use Rattle.std.proofs.Common.{◌≡◌, ℕ, ◌+◌, List, [], ◌∷◌, ◌++◌, Bool, true, false, cond, Option, Some, refl, ap, ◌∙◌}
use Rattle.edit_journal.specs.Lines.{is_blank}
use Rattle.edit_journal.specs.declared.line.Line.{Line}
use Rattle.store_run.specs.StoreRuns.{run_in_store}
use Rattle.store_run.specs.declared.session.StoredAnswer.{StoredAnswer}
use Rattle.store_run.specs.declared.session.StoredSession as OfSession
use Rattle.law_stores.proofs.Sequences.{put_first, first_made, first_is}

module _ {A : Type 0} (session : OfSession.Ghosts A) where
  -- these steps are the run of the first ones of these lines
  pub record FirstLines (t : session.State) (n : ℕ) (lines : List Line) (steps : List (session.State × StoredAnswer)) : Type 0 where
    pub first : List Line
    pub rest : List Line
    pub parts : lines ≡ first ++ rest
    pub is_run : run_in_store session t n first ≡ Some steps

  -- the run over the lines behind a first one
  abbrev others : ℕ → List Line → session.State × StoredAnswer → Option (List (session.State × StoredAnswer))
  others n lines s = run_in_store session s.0 (n + 1) lines

  by_blank : (t : session.State) (n : ℕ) (line : Line) (lines : List Line) (x : session.State × StoredAnswer) (xs ys : List (session.State × StoredAnswer)) (b : Bool) → is_blank line ≡ b
      → cond b (run_in_store session t n lines) (put_first (others n lines) (session.answer t (n + 1) line)) ≡ Some (x ∷ (xs ++ ys))
      → (run_in_store session t n lines ≡ Some (x ∷ (xs ++ ys)) → FirstLines t n lines (x ∷ xs))
      → (run_in_store session x.0 (n + 1) lines ≡ Some (xs ++ ys) → FirstLines x.0 (n + 1) lines xs)
      → FirstLines t n (line ∷ lines) (x ∷ xs)
  by_blank t n line lines x xs ys true e h skipped taken =
      let k = skipped h in
      record {
        first = line ∷ k.first;
        rest = k.rest;
        parts = ap (λ l. line ∷ l) k.parts;
        is_run = ap (λ b. cond b (run_in_store session t n k.first) (put_first (others n k.first) (session.answer t (n + 1) line))) e ∙ k.is_run;
      }
  by_blank t n line lines x xs ys false e h skipped taken =
      let is = first_is (others n lines) (session.answer t (n + 1) line) x (xs ++ ys) h in
      let k = taken is.1 in
      record {
        first = line ∷ k.first;
        rest = k.rest;
        parts = ap (λ l. line ∷ l) k.parts;
        is_run =
            ap (λ b. cond b (run_in_store session t n k.first) (put_first (others n k.first) (session.answer t (n + 1) line))) e
            ∙ first_made (others n k.first) (session.answer t (n + 1) line) x xs is.0 k.is_run;
      }

  pub first_lines : (t : session.State) (n : ℕ) (lines : List Line) (xs ys : List (session.State × StoredAnswer)) → run_in_store session t n lines ≡ Some (xs ++ ys) → FirstLines t n lines xs
  first_lines t n lines [] ys h = record { first = []; rest = lines; parts = refl; is_run = refl }
  first_lines t n [] (x ∷ xs) ys h = cc
  first_lines t n (line ∷ lines) (x ∷ xs) ys h =
      by_blank t n line lines x xs ys (is_blank line) refl h (λ k. first_lines t n lines (x ∷ xs) ys k) (λ k. first_lines x.0 (n + 1) lines xs ys k)

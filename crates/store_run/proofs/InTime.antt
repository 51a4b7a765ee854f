-- Lines that are answered before more is asked for.
use Rattle.std.proofs.Common.{◌≡◌, ◌≤◌, ◌+◌, ◌-◌, inl, inr, ℕ, List, [], ◌∷◌, ◌++◌, length, take, drop, Bool, true, false, cond, Option, Some, None, refl, sym, ap, subst, ◌∙◌, append_assoc, append-nil, arith, length-append}
use Rattle.std.specs.Io.{StartsWith}
use Rattle.std.specs.Prelude.{option_map, option_and_then, option_to_list}
use Rattle.std.proofs.lemmas.List.{length-take, take-append-drop, take-append-le}
use Rattle.std.proofs.lemmas.Option.{same_Some}
use Rattle.std.proofs.Math.Seq.{take-append_seam, take-length}
use Rattle.std.proofs.KnownBytes.{Consumes-nil}
use Rattle.lens_io.specs.Calls.{Took, IsUnasked}
use Rattle.lens_io.specs.declared.source.Source as OfSource
use Rattle.edit_journal.specs.Lines.{is_blank}
use Rattle.edit_journal.specs.Pieces.{FedLines, nothing_fed, fed, lines_of, last_line}
use Rattle.edit_journal.specs.declared.line.Line.{Line}
use Rattle.edit_journal.proofs.Feeding.{lines_at, joins, in_front, all_lines_given}
use Rattle.script_input.specs.Taking.{GaveFew}
use Rattle.script_input.specs.Coming.{ended_lines}
use Rattle.store_run.specs.StoreRuns.{run_in_store, StoreGoesOver, AreAnsweredIn, text_of}
use Rattle.store_run.specs.declared.session.StoredAnswer.{StoredAnswer}
use Rattle.store_run.specs.declared.session.StoredSession as OfSession
use Rattle.store_run.proofs.RunParts.{text_append, goes_run}

-- ---- what a text starts with

pub starts_longer : (xs more front : List ℕ) → StartsWith xs front → StartsWith (xs ++ more) front
starts_longer xs more front h =
    let fits : length front ≤ length xs = omega (arith, ap length h, length-take (length front) xs) in
    take-append-le (length front) xs more fits ∙ h

starts_shorter : (text xs ys : List ℕ) → StartsWith text (xs ++ ys) → StartsWith text xs
starts_shorter text xs ys h =
    let n = length (xs ++ ys) in
    let whole : text ≡ xs ++ (ys ++ drop n text) = sym (take-append-drop n text) ∙ ap (λ (l : List ℕ). l ++ drop n text) h ∙ append_assoc xs ys (drop n text) in
    ap (take (length xs)) whole ∙ take-append_seam xs (ys ++ drop n text)

-- ---- the lines of the first of some bytes

ended_then : (earlier piece : List ℕ) → ended_lines (earlier ++ piece) ≡ ended_lines earlier ++ (fed (lines_at [] (fed nothing_fed earlier).begun) piece).ended
ended_then earlier piece =
    ap (λ (f : FedLines). f.ended) (
    sym (joins nothing_fed earlier piece)
    ∙ ap (λ (e : List Line). fed (lines_at e (fed nothing_fed earlier).begun) piece) (sym (append-nil (ended_lines earlier)))
    ∙ in_front (ended_lines earlier) [] (fed nothing_fed earlier).begun piece)

-- the lines that had ended in the first of these bytes are the first of those that have ended
ended_first : (n : ℕ) (bytes : List ℕ) → (later : List Line) × (ended_lines bytes ≡ ended_lines (take n bytes) ++ later)
ended_first n bytes = (
  (fed (lines_at [] (fed nothing_fed (take n bytes)).begun) (drop n bytes)).ended,
  ap ended_lines (sym (take-append-drop n bytes)) ∙ ended_then (take n bytes) (drop n bytes),
)

-- ---- the run over the first of some lines

module _ {A : Type 0} (session : OfSession.Ghosts A) where
  record RunsFirst (t : session.State) (n : ℕ) (xs : List Line) (steps : List (session.State × StoredAnswer)) : Type 0 where
    front : List (session.State × StoredAnswer)
    rest : List (session.State × StoredAnswer)
    is_run : run_in_store session t n xs ≡ Some front
    parts : steps ≡ front ++ rest

  -- one step more in front
  behind_step : (t : session.State) (n : ℕ) (x : Line) (xs ys : List Line) (steps : List (session.State × StoredAnswer)) (s : session.State × StoredAnswer) (r : Option (List (session.State × StoredAnswer))) → is_blank x ≡ false
      → session.answer t (n + 1) x ≡ Some s → run_in_store session s.0 (n + 1) (xs ++ ys) ≡ r
      → ((later : List (session.State × StoredAnswer)) → run_in_store session s.0 (n + 1) (xs ++ ys) ≡ Some later → RunsFirst s.0 (n + 1) xs later)
      → option_map (λ (steps : List (session.State × StoredAnswer)). s ∷ steps) r ≡ Some steps → RunsFirst t n (x ∷ xs) steps
  behind_step t n x xs ys steps s None full a is more e = cc
  behind_step t n x xs ys steps s (Some later) full a is more e =
      let f = more later is in
      record {
        front = s ∷ f.front;
        rest = f.rest;
        is_run =
            ap (λ b. cond b (run_in_store session t n xs) (option_and_then (λ s. option_map (λ steps. s ∷ steps) (run_in_store session s.0 (n + 1) xs)) (session.answer t (n + 1) x))) full
            ∙ ap (option_and_then (λ (s : session.State × StoredAnswer). option_map (λ (steps : List (session.State × StoredAnswer)). s ∷ steps) (run_in_store session s.0 (n + 1) xs))) a
            ∙ ap (option_map (λ (steps : List (session.State × StoredAnswer)). s ∷ steps)) f.is_run;
        parts = sym (same_Some (s ∷ later) steps e) ∙ ap (λ (l : List (session.State × StoredAnswer)). s ∷ l) f.parts;
      }

  -- a line that is not blank
  at_item : (t : session.State) (n : ℕ) (x : Line) (xs ys : List Line) (steps : List (session.State × StoredAnswer)) (o : Option (session.State × StoredAnswer)) → is_blank x ≡ false → session.answer t (n + 1) x ≡ o
      → ((s : session.State × StoredAnswer) (later : List (session.State × StoredAnswer)) → run_in_store session s.0 (n + 1) (xs ++ ys) ≡ Some later → RunsFirst s.0 (n + 1) xs later)
      → option_and_then (λ (s : session.State × StoredAnswer). option_map (λ (steps : List (session.State × StoredAnswer)). s ∷ steps) (run_in_store session s.0 (n + 1) (xs ++ ys))) o ≡ Some steps
      → RunsFirst t n (x ∷ xs) steps
  at_item t n x xs ys steps None full a more e = cc
  at_item t n x xs ys steps (Some s) full a more e = behind_step t n x xs ys steps s (run_in_store session s.0 (n + 1) (xs ++ ys)) full a refl (more s) e

  at_line : (t : session.State) (n : ℕ) (x : Line) (xs ys : List Line) (steps : List (session.State × StoredAnswer)) (b : Bool) → is_blank x ≡ b
      → ((later : List (session.State × StoredAnswer)) → run_in_store session t n (xs ++ ys) ≡ Some later → RunsFirst t n xs later)
      → ((s : session.State × StoredAnswer) (later : List (session.State × StoredAnswer)) → run_in_store session s.0 (n + 1) (xs ++ ys) ≡ Some later → RunsFirst s.0 (n + 1) xs later)
      → cond b (run_in_store session t n (xs ++ ys)) (option_and_then (λ (s : session.State × StoredAnswer). option_map (λ (steps : List (session.State × StoredAnswer)). s ∷ steps) (run_in_store session s.0 (n + 1) (xs ++ ys))) (session.answer t (n + 1) x)) ≡ Some steps
      → RunsFirst t n (x ∷ xs) steps
  at_line t n x xs ys steps true blank same more e =
      let f = same steps e in
      record {
        front = f.front;
        rest = f.rest;
        is_run = ap (λ b. cond b (run_in_store session t n xs) (option_and_then (λ s. option_map (λ steps. s ∷ steps) (run_in_store session s.0 (n + 1) xs)) (session.answer t (n + 1) x))) blank ∙ f.is_run;
        parts = f.parts;
      }
  at_line t n x xs ys steps false full same more e = at_item t n x xs ys steps (session.answer t (n + 1) x) full refl more e

  runs_first : (t : session.State) (n : ℕ) (xs ys : List Line) (steps : List (session.State × StoredAnswer)) → run_in_store session t n (xs ++ ys) ≡ Some steps → RunsFirst t n xs steps
  runs_first t n [] ys steps e = record { front = []; rest = steps; is_run = refl; parts = refl }
  runs_first t n (x ∷ xs) ys steps e = at_line t n x xs ys steps (is_blank x) refl (λ later h. runs_first t n xs ys later h) (λ s later h. runs_first s.0 (n + 1) xs ys later h) e

  -- ---- answers to the first of some lines

  module _ (t : session.State) (n : ℕ) where
    pub answered_first : (xs ys : List Line) (text : List ℕ) → AreAnsweredIn session t n (xs ++ ys) text → AreAnsweredIn session t n xs text
    answered_first xs ys text a =
        let f = runs_first t n xs ys a.steps a.is_run in
        record {
          steps = f.front;
          is_run = f.is_run;
          written = starts_shorter text (text_of f.front) (text_of f.rest) (subst (StartsWith text) (ap text_of f.parts ∙ text_append f.front f.rest) a.written);
        }

    -- in a text that goes on
    pub answered_longer : (lines : List Line) (text more : List ℕ) → AreAnsweredIn session t n lines text → AreAnsweredIn session t n lines (text ++ more)
    answered_longer lines text more a = record { steps = a.steps; is_run = a.is_run; written = starts_longer text more (text_of a.steps) a.written }

    -- these steps answer the lines, and no more
    pub answered_by : (t' : session.State) (n' : ℕ) (lines : List Line) (steps : List (session.State × StoredAnswer)) → StoreGoesOver session t n lines steps t' n' → AreAnsweredIn session t n lines (text_of steps)
    answered_by t' n' lines steps goes = record { steps = steps; is_run = goes_run session t t' n n' lines steps goes; written = take-length (text_of steps) }

    -- all lines that have ended are answered, so those that had ended before are
    pub answered_take : (m : ℕ) (bytes text : List ℕ) → AreAnsweredIn session t n (ended_lines bytes) text → AreAnsweredIn session t n (ended_lines (take m bytes)) text
    answered_take m bytes text a =
        let e = ended_first m bytes in
        answered_first (ended_lines (take m bytes)) e.0 text (subst (λ (x : List Line). AreAnsweredIn session t n x text) e.1 a)

    -- all lines are answered, so those that an LF has ended are
    pub answered_ended : (bytes text : List ℕ) → AreAnsweredIn session t n (lines_of bytes) text → AreAnsweredIn session t n (ended_lines bytes) text
    answered_ended bytes text a =
        answered_first (ended_lines bytes) (option_to_list (last_line (fed nothing_fed bytes).begun)) text
        (subst (λ (x : List Line). AreAnsweredIn session t n x text) (sym (all_lines_given bytes)) a)

-- ---- the calls of a source

-- a source that was not called gave nothing
pub took_none : {S : Type 0} (source : OfSource.Ghosts S) (s s' : S) → IsUnasked source s s' → Took source s s' []
took_none source s s' unasked = subst (λ x. Took source s x []) (sym unasked) (Consumes-nil (source.left s))

-- the last call gave few, or there was none and the one before it did
pub few_more : {S : Type 0} (source : OfSource.Ghosts S) (s s' s'' : S) (room mid : ℕ) → mid ≡ room → GaveFew source s s' room → GaveFew source s' s'' mid → GaveFew source s s'' room
few_more source s s' s'' room mid e before (inr few) = inr (omega (arith, few, e))
few_more source s s' s'' room mid e (inl same) (inl now) = inl (now ∙ same)
few_more source s s' s'' room mid e (inr few) (inl now) = inr (subst (λ x. source.last x ≤ room) (sym now) few)

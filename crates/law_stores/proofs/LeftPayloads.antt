-- The payloads that a call leaves in an image stand for a state of its run.
use Rattle.std.proofs.Common.{arith, ◌≡◌, ◌⊎◌, inl, inr, ℕ, ◌+◌, ◌≤◌, List, [], ◌++◌, length, length-append, Option, None, Some, Ok, refl, sym, ap, subst, ◌∙◌, append_assoc, append-nil}
use Rattle.std.specs.Prelude.{option_to_list}
use Rattle.edit_journal.specs.declared.line.Line.{Line}
use Rattle.gate_log.specs.LogOnDisk.{HoldsPayloads}
use Rattle.store_run.proofs.OkLineCounts.{few_kept}
use Rattle.store_run.specs.Crash.{IsAcknowledged}
use Rattle.store_run.specs.OkLines.{ok_lines}
use Rattle.store_run.specs.StoreRuns.{run_in_store, last_stored, kept_of}
use Rattle.store_run.specs.declared.session.StoredAnswer.{StoredAnswer}
use Rattle.store_run.specs.declared.session.StoredSession as OfSession
use Rattle.law_stores.proofs.FirstLines.{FirstLines, first_lines}

abbrev Payloads : Type 0
Payloads = List (List ℕ)

module _ {A : Type 0} (session : OfSession.Ghosts A) (before : Payloads) (t : session.State) (version : Option (List ℕ)) where
  -- The image holds payloads that stand for the state behind some steps, the run of the first ones of these lines. They are those
  -- from before, the version record, and those that the steps kept: at least as many as the `ok` lines that were given, and at most one more.
  pub record LeavesPayloads (lines : List Line) (given image : List ℕ) : Type 0 where
    pub payloads : Payloads
    pub holds : HoldsPayloads payloads image
    pub steps : List (session.State × StoredAnswer)
    pub run_of : FirstLines session t 0 lines steps
    pub still : Option (List ℕ)
    pub stands : session.stands_for payloads ≡ Ok (last_stored t steps, still)
    pub stored : payloads ++ option_to_list still ≡ (before ++ option_to_list version) ++ kept_of steps
    pub version_is : (payloads ≡ before) ⊎ (still ≡ None)
    pub least : ok_lines given ≤ length (kept_of steps)
    pub most : length (kept_of steps) ≤ ok_lines given + 1

  -- some steps, and what stands behind the first payloads that they kept
  abbrev StandsBehind : List (session.State × StoredAnswer) → Payloads → Type 0
  StandsBehind steps front = (xs : List (session.State × StoredAnswer)) × (ys : List (session.State × StoredAnswer)) × (v : Option (List ℕ))
      × (steps ≡ xs ++ ys) × (session.stands_for (before ++ front) ≡ Ok (last_stored t xs, v))
      × (front ++ option_to_list v ≡ option_to_list version ++ kept_of xs) × ((front ≡ []) ⊎ (v ≡ None))

  same_front : (front : Payloads) → front ≡ [] → before ++ front ≡ before
  same_front front h = ap (λ l. before ++ l) h ∙ append-nil before

  module _ (lines : List Line) (given image : List ℕ) (steps : List (session.State × StoredAnswer)) (is_run : run_in_store session t 0 lines ≡ Some steps) where
    leaves_front : (front : Payloads) (s : StandsBehind steps front) → HoldsPayloads (before ++ front) image
        → ok_lines given ≤ length (kept_of s.0) → length (kept_of s.0) ≤ ok_lines given + 1 → LeavesPayloads lines given image
    leaves_front front s holds least most = record {
      payloads = before ++ front;
      holds = holds;
      steps = s.0;
      run_of = first_lines session t 0 lines s.0 s.1 (is_run ∙ ap (λ (l : List (session.State × StoredAnswer)). Some l) s.3);
      still = s.2;
      stands = s.4;
      stored =
          append_assoc before front (option_to_list s.2) ∙ ap (λ l. before ++ l) s.5
          ∙ sym (append_assoc before (option_to_list version) (kept_of s.0));
      version_is = elim s.6 [ inl none ↦ inl (same_front front none) | inr none ↦ inr none ];
      least = least;
      most = most;
    }

    -- no `ok` line was written, and the image holds the payloads from before
    leaves_none : StandsBehind steps [] → ok_lines given ≡ 0 → HoldsPayloads before image → LeavesPayloads lines given image
    leaves_none s none holds =
        let counts = ap length s.5 in
        let together = length-append (option_to_list version) (kept_of s.0) in
        let one = few_kept s.2 in
        leaves_front [] s (subst (λ l. HoldsPayloads l image) (sym (append-nil before)) holds) (omega (arith, none)) (omega (arith, counts, together, one))

    -- the image holds the version record, and payloads behind it
    module _ (a : IsAcknowledged (before ++ option_to_list version) (kept_of steps) given image) (s : StandsBehind steps (option_to_list version ++ a.front)) where
      counted : length (option_to_list version) + length a.front + length (option_to_list s.2) ≡ length (option_to_list version) + length (kept_of s.0)
      counted =
          let whole = length-append (option_to_list version ++ a.front) (option_to_list s.2) in
          let front = length-append (option_to_list version) a.front in
          let kept = length-append (option_to_list version) (kept_of s.0) in
          let same = ap length s.5 in
          omega (arith, whole, front, kept, same)

      few : (option_to_list version ++ a.front ≡ []) ⊎ (s.2 ≡ None) → length (kept_of s.0) ≤ ok_lines given + 1
      few (inl none) =
          let front = length-append (option_to_list version) a.front in
          let same = ap length none in
          let one = few_kept s.2 in
          let counts = counted in
          omega (arith, front, same, one, counts)
      few (inr none) =
          let same : length (option_to_list s.2) ≡ 0 = ap (λ o. length (option_to_list o)) none in
          let counts = counted in
          let most = a.most in
          omega (arith, same, counts, most)

      leaves_some : LeavesPayloads lines given image
      leaves_some =
          let counts = counted in
          let least = a.least in
          leaves_front (option_to_list version ++ a.front) s
          (subst (λ l. HoldsPayloads l image) (append_assoc before (option_to_list version) a.front) a.holds)
          (omega (arith, counts, least)) (few s.6)

    pub leaves_payloads : ((front rest : Payloads) → option_to_list version ++ kept_of steps ≡ front ++ rest → StandsBehind steps front)
        → (ok_lines given ≡ 0) × HoldsPayloads before image ⊎ IsAcknowledged (before ++ option_to_list version) (kept_of steps) given image
        → LeavesPayloads lines given image
    leaves_payloads stand (inl old) = leaves_none (stand [] (option_to_list version ++ kept_of steps) refl) old.0 old.1
    leaves_payloads stand (inr a) =
        leaves_some a (stand (option_to_list version ++ a.front) a.rest
        (ap (λ l. option_to_list version ++ l) a.parts ∙ sym (append_assoc (option_to_list version) a.front a.rest)))

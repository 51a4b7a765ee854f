-- Runs of the same lines from the same state, under other numbers.
use Rattle.std.proofs.Common.{◌≡◌, ℕ, ◌+◌, List, [], ◌∷◌, ◌++◌, Bool, true, false, not, ◌||◌, cond, Option, None, Some, refl, sym, ap, ap₂, subst, ◌∙◌, append_assoc}
use Rattle.std.specs.Prelude.{is_some, option_to_list}
use Rattle.edit_journal.specs.Lines.{is_blank}
use Rattle.edit_journal.specs.declared.line.Line.{Line}
use Rattle.store_run.specs.StoreRuns.{any_line_refused, kept_of, last_stored, run_in_store}
use Rattle.store_run.specs.declared.session.StoredAnswer.{StoredAnswer}
use Rattle.store_run.specs.declared.session.StoredSession as OfSession
use Rattle.law_stores.specs.SessionRuns.{IsSameStep, AreSameSteps, IsNumberedAlike, item_lines, first_accepted, accepted_lines, storing_steps}
use Rattle.law_stores.proofs.Sequences.{put_first, first_made, first_is, never_empty}

module _ {A : Type 0} (session : OfSession.Ghosts A) where
  abbrev pub Steps : Type 0
  Steps = List (session.State × StoredAnswer)

  -- ---- what the steps come to

  pub last_joined : (t : session.State) (steps others : Steps) → last_stored t (steps ++ others) ≡ last_stored (last_stored t steps) others
  last_joined t [] others = refl
  last_joined t (s ∷ steps) others = last_joined s.0 steps others

  pub kept_joined : (steps others : Steps) → kept_of (steps ++ others) ≡ kept_of steps ++ kept_of others
  kept_joined [] others = refl
  kept_joined (s ∷ steps) others =
      ap (λ l. option_to_list s.1.payload ++ l) (kept_joined steps others)
      ∙ sym (append_assoc (option_to_list s.1.payload) (kept_of steps) (kept_of others))

  pub same_last : (t : session.State) (lines : List Line) (steps others : Steps) → AreSameSteps session t lines steps others → last_stored t others ≡ last_stored t steps
  same_last t [] [] [] h = refl
  same_last t [] [] (o ∷ others) h = absurd h
  same_last t [] (s ∷ steps) [] h = absurd h
  same_last t [] (s ∷ steps) (o ∷ others) h = absurd h
  same_last t (line ∷ lines) [] [] h = absurd h
  same_last t (line ∷ lines) [] (o ∷ others) h = absurd h
  same_last t (line ∷ lines) (s ∷ steps) [] h = absurd h
  same_last t (line ∷ lines) (s ∷ steps) (o ∷ others) h = ap (λ u. last_stored u others) h.0.same_state ∙ same_last s.0 lines steps others h.1

  pub same_kept : (t : session.State) (lines : List Line) (steps others : Steps) → AreSameSteps session t lines steps others → kept_of others ≡ kept_of steps
  same_kept t [] [] [] h = refl
  same_kept t [] [] (o ∷ others) h = absurd h
  same_kept t [] (s ∷ steps) [] h = absurd h
  same_kept t [] (s ∷ steps) (o ∷ others) h = absurd h
  same_kept t (line ∷ lines) [] [] h = absurd h
  same_kept t (line ∷ lines) [] (o ∷ others) h = absurd h
  same_kept t (line ∷ lines) (s ∷ steps) [] h = absurd h
  same_kept t (line ∷ lines) (s ∷ steps) (o ∷ others) h =
      ap₂ (λ p l. option_to_list p ++ l) h.0.same_payload (same_kept s.0 lines steps others h.1)

  -- ---- steps that are the same as others, which are the same as third ones

  one_same : (t : session.State) (line : Line) (s o p : session.State × StoredAnswer) → IsSameStep session t line s o → IsSameStep session t line o p → IsSameStep session t line s p
  one_same t line s o p h k = record {
    number = h.number;
    other_number = k.other_number;
    is = h.is;
    other_is = k.other_is;
    same_state = k.same_state ∙ h.same_state;
    same_payload = k.same_payload ∙ h.same_payload;
  }

  pub same_through : (t : session.State) (lines : List Line) (steps others more : Steps) → AreSameSteps session t lines steps others → AreSameSteps session t lines others more
      → AreSameSteps session t lines steps more
  same_through t [] [] [] [] h k = tt
  same_through t [] [] [] (p ∷ more) h k = absurd k
  same_through t [] [] (o ∷ others) more h k = absurd h
  same_through t [] (s ∷ steps) [] more h k = absurd h
  same_through t [] (s ∷ steps) (o ∷ others) more h k = absurd h
  same_through t (line ∷ lines) [] [] more h k = absurd h
  same_through t (line ∷ lines) [] (o ∷ others) more h k = absurd h
  same_through t (line ∷ lines) (s ∷ steps) [] more h k = absurd h
  same_through t (line ∷ lines) (s ∷ steps) (o ∷ others) [] h k = absurd k
  same_through t (line ∷ lines) (s ∷ steps) (o ∷ others) (p ∷ more) h k =
      (one_same t line s o p h.0 k.0, same_through s.0 lines steps others more h.1 (subst (λ u. AreSameSteps session u lines others more) h.0.same_state k.1))

  -- steps behind others
  pub same_joined : (t : session.State) (lines more : List Line) (steps others behind ends : Steps) → AreSameSteps session t lines steps others
      → AreSameSteps session (last_stored t steps) more behind ends → AreSameSteps session t (lines ++ more) (steps ++ behind) (others ++ ends)
  same_joined t [] more [] [] behind ends h k = k
  same_joined t [] more [] (o ∷ others) behind ends h k = absurd h
  same_joined t [] more (s ∷ steps) [] behind ends h k = absurd h
  same_joined t [] more (s ∷ steps) (o ∷ others) behind ends h k = absurd h
  same_joined t (line ∷ lines) more [] [] behind ends h k = absurd h
  same_joined t (line ∷ lines) more [] (o ∷ others) behind ends h k = absurd h
  same_joined t (line ∷ lines) more (s ∷ steps) [] behind ends h k = absurd h
  same_joined t (line ∷ lines) more (s ∷ steps) (o ∷ others) behind ends h k = (h.0, same_joined s.0 lines more steps others behind ends h.1 k)

  refused_joined : (steps others : Steps) → any_line_refused steps ≡ false → any_line_refused others ≡ false → any_line_refused (steps ++ others) ≡ false
  refused_joined [] others h k = k
  refused_joined (s ∷ steps) others h k = by_first (not (is_some s.1.payload)) h (λ g. refused_joined steps others g k) where
    by_first : (b : Bool) → (b || any_line_refused steps) ≡ false → (any_line_refused steps ≡ false → any_line_refused (steps ++ others) ≡ false) → (b || any_line_refused (steps ++ others)) ≡ false
    by_first true g f = cc
    by_first false g f = f g

  pub same_refused : (t : session.State) (lines : List Line) (steps others : Steps) → AreSameSteps session t lines steps others → any_line_refused steps ≡ false → any_line_refused others ≡ false
  same_refused t [] [] [] h k = refl
  same_refused t [] [] (o ∷ others) h k = absurd h
  same_refused t [] (s ∷ steps) [] h k = absurd h
  same_refused t [] (s ∷ steps) (o ∷ others) h k = absurd h
  same_refused t (line ∷ lines) [] [] h k = absurd h
  same_refused t (line ∷ lines) [] (o ∷ others) h k = absurd h
  same_refused t (line ∷ lines) (s ∷ steps) [] h k = absurd h
  same_refused t (line ∷ lines) (s ∷ steps) (o ∷ others) h k =
      ap (λ p. not (is_some p) || any_line_refused others) h.0.same_payload
      ∙ by_first (not (is_some s.1.payload)) k (λ g. same_refused s.0 lines steps others h.1 g) where
        by_first : (b : Bool) → (b || any_line_refused steps) ≡ false → (any_line_refused steps ≡ false → any_line_refused others ≡ false) → (b || any_line_refused others) ≡ false
        by_first true g f = cc
        by_first false g f = f g

  -- ---- the lines that are accepted are items

  items_more : (line : Line) (lines : List Line) (b : Bool) → is_blank line ≡ false → item_lines lines ≡ lines → item_lines (cond b (line ∷ lines) lines) ≡ cond b (line ∷ lines) lines
  items_more line lines true full h = ap (λ b. cond b (item_lines lines) (line ∷ item_lines lines)) full ∙ ap (λ l. line ∷ l) h
  items_more line lines false full h = h

  items_of_line : (line : Line) (lines : List Line) (steps : Steps) (b : Bool) → is_blank line ≡ b
      → ((rest : Steps) → item_lines (accepted_lines session lines rest) ≡ accepted_lines session lines rest)
      → item_lines (cond b (accepted_lines session lines steps) (first_accepted session line (λ others. accepted_lines session lines others) steps))
      ≡ cond b (accepted_lines session lines steps) (first_accepted session line (λ others. accepted_lines session lines others) steps)
  items_of_line line lines steps true e behind = behind steps
  items_of_line line lines [] false e behind = refl
  items_of_line line lines (s ∷ rest) false e behind = items_more line (accepted_lines session lines rest) (is_some s.1.payload) e (behind rest)

  accepted_items : (lines : List Line) (steps : Steps) → item_lines (accepted_lines session lines steps) ≡ accepted_lines session lines steps
  accepted_items [] steps = refl
  accepted_items (line ∷ lines) steps = items_of_line line lines steps (is_blank line) refl (λ rest. accepted_items lines rest)

  -- ---- a run over the same lines, under other numbers

  -- the run over the lines behind a first one
  abbrev behind_first : ℕ → List Line → session.State × StoredAnswer → Option Steps
  behind_first n lines s = run_in_store session s.0 (n + 1) lines

  -- there are other steps, by these items the same as those
  pub record Renumbered (t : session.State) (o : Option Steps) (lines : List Line) (steps : Steps) : Type 0 where
    pub others : Steps
    pub is : o ≡ Some others
    pub same : AreSameSteps session t lines steps others

  module _ (alike : IsNumberedAlike session) where
    renumbered_first : (t : session.State) (n m : ℕ) (line : Line) (lines : List Line) (steps : Steps) → put_first (behind_first n lines) (session.answer t (n + 1) line) ≡ Some steps
        → ((s : session.State × StoredAnswer) (rest : Steps) → run_in_store session s.0 (n + 1) lines ≡ Some rest → Renumbered s.0 (run_in_store session s.0 (m + 1) lines) (item_lines lines) rest)
        → Renumbered t (put_first (behind_first m lines) (session.answer t (m + 1) line)) (line ∷ item_lines lines) steps
    renumbered_first t n m line lines [] h behind = absurd (never_empty (behind_first n lines) (session.answer t (n + 1) line) h)
    renumbered_first t n m line lines (s ∷ rest) h behind =
        let is = first_is (behind_first n lines) (session.answer t (n + 1) line) s rest h in
        let a = alike t (n + 1) (m + 1) line s is.0 in
        let k = behind s rest is.1 in
        record {
          others = a.0 ∷ k.others;
          is = first_made (behind_first m lines) (session.answer t (m + 1) line) a.0 k.others a.1 (subst (λ u. run_in_store session u (m + 1) lines ≡ Some k.others) (sym a.2) k.is);
          same = (record { number = n + 1; other_number = m + 1; is = is.0; other_is = a.1; same_state = a.2; same_payload = a.3 }, k.same);
        }

    renumbered_line : (t : session.State) (b : Bool) (o1 o2 p1 p2 : Option Steps) (l1 l2 : List Line) (steps : Steps) → cond b o1 o2 ≡ Some steps
        → (o1 ≡ Some steps → Renumbered t p1 l1 steps) → (o2 ≡ Some steps → Renumbered t p2 l2 steps) → Renumbered t (cond b p1 p2) (cond b l1 l2) steps
    renumbered_line t true o1 o2 p1 p2 l1 l2 steps h f g = f h
    renumbered_line t false o1 o2 p1 p2 l1 l2 steps h f g = g h

    pub renumbered : (t : session.State) (n m : ℕ) (lines : List Line) (steps : Steps) → run_in_store session t n lines ≡ Some steps → Renumbered t (run_in_store session t m lines) (item_lines lines) steps
    renumbered t n m [] [] h = record { others = []; is = refl; same = tt }
    renumbered t n m [] (s ∷ steps) h = cc
    renumbered t n m (line ∷ lines) steps h =
        renumbered_line t (is_blank line) (run_in_store session t n lines) (put_first (behind_first n lines) (session.answer t (n + 1) line))
        (run_in_store session t m lines) (put_first (behind_first m lines) (session.answer t (m + 1) line)) (item_lines lines) (line ∷ item_lines lines) steps h
        (λ k. renumbered t n m lines steps k)
        (λ k. renumbered_first t n m line lines steps k (λ s rest g. renumbered s.0 (n + 1) (m + 1) lines rest g))

    -- ---- a run behind another

    -- the run makes these steps, and behind them others, which by these items are the same as those
    pub record Joined (t : session.State) (o : Option Steps) (steps others : Steps) (lines : List Line) : Type 0 where
      pub behind : Steps
      pub is : o ≡ Some (steps ++ behind)
      pub same : AreSameSteps session (last_stored t steps) lines others behind

    joined_first : (t : session.State) (n : ℕ) (line : Line) (first more : List Line) (steps others : Steps) → put_first (behind_first n first) (session.answer t (n + 1) line) ≡ Some steps
        → ((s : session.State × StoredAnswer) (rest : Steps) → steps ≡ s ∷ rest → run_in_store session s.0 (n + 1) first ≡ Some rest → Joined s.0 (run_in_store session s.0 (n + 1) (first ++ more)) rest others (item_lines more))
        → Joined t (put_first (behind_first n (first ++ more)) (session.answer t (n + 1) line)) steps others (item_lines more)
    joined_first t n line first more [] others h behind = absurd (never_empty (behind_first n first) (session.answer t (n + 1) line) h)
    joined_first t n line first more (s ∷ rest) others h behind =
        let is = first_is (behind_first n first) (session.answer t (n + 1) line) s rest h in
        let k = behind s rest refl is.1 in
        record {
          behind = k.behind;
          is = first_made (behind_first n (first ++ more)) (session.answer t (n + 1) line) s (rest ++ k.behind) is.0 k.is;
          same = k.same;
        }

    joined_line : (t : session.State) (b : Bool) (o1 o2 p1 p2 : Option Steps) (steps others : Steps) (lines : List Line) → cond b o1 o2 ≡ Some steps
        → (o1 ≡ Some steps → Joined t p1 steps others lines) → (o2 ≡ Some steps → Joined t p2 steps others lines) → Joined t (cond b p1 p2) steps others lines
    joined_line t true o1 o2 p1 p2 steps others lines h f g = f h
    joined_line t false o1 o2 p1 p2 steps others lines h f g = g h

    pub joined : (t : session.State) (n k : ℕ) (first more : List Line) (steps others : Steps) → run_in_store session t n first ≡ Some steps → run_in_store session (last_stored t steps) k more ≡ Some others
        → Joined t (run_in_store session t n (first ++ more)) steps others (item_lines more)
    joined t n k [] more [] others h e = let r = renumbered t k n more others e in record { behind = r.others; is = r.is; same = r.same }
    joined t n k [] more (s ∷ steps) others h e = cc
    joined t n k (line ∷ first) more steps others h e =
        joined_line t (is_blank line) (run_in_store session t n first) (put_first (behind_first n first) (session.answer t (n + 1) line))
        (run_in_store session t n (first ++ more)) (put_first (behind_first n (first ++ more)) (session.answer t (n + 1) line)) steps others (item_lines more) h
        (λ g. joined t n k first more steps others g e)
        (λ g. joined_first t n line first more steps others g
        (λ s rest same f. joined s.0 (n + 1) k first more rest others f (subst (λ (l : Steps). run_in_store session (last_stored t l) k more ≡ Some others) same e)))

    -- ---- the lines that are accepted

    -- The run over these lines, so many items before them, has steps that by the same lines are these, and comes to this state. It refuses nothing.
    pub record RunsAs (t : session.State) (m : ℕ) (lines : List Line) (steps : Steps) (end : session.State) : Type 0 where
      pub others : Steps
      pub is_run : run_in_store session t m lines ≡ Some others
      pub same : AreSameSteps session t lines steps others
      pub at_last : last_stored t steps ≡ end
      pub none_refused : any_line_refused steps ≡ false

    none_is : {X : Type 0} (o : Option X) → is_some o ≡ false → o ≡ None
    none_is None h = refl
    none_is (Some x) h = cc

    module _ (refused_stays : (t t' : session.State) (n : ℕ) (line : Line) (a : StoredAnswer) → session.answer t n line ≡ Some (t', a) → a.payload ≡ None → t' ≡ t) where
      -- a line that is not blank, whose step is accepted or refused
      accepted_line : (t : session.State) (n m : ℕ) (line : Line) (s : session.State × StoredAnswer) (lines : List Line) (steps : Steps) (end : session.State) → is_blank line ≡ false
          → session.answer t (n + 1) line ≡ Some s → (b : Bool) → is_some s.1.payload ≡ b → ((k : ℕ) → RunsAs s.0 k lines steps end)
          → RunsAs t m (cond b (line ∷ lines) lines) (cond b (s ∷ steps) steps) end
      accepted_line t n m line s lines steps end full is true some behind =
          let k = behind (m + 1) in
          let a = alike t (n + 1) (m + 1) line s is in
          record {
            others = a.0 ∷ k.others;
            is_run =
                ap (λ b. cond b (run_in_store session t m lines) (put_first (behind_first m lines) (session.answer t (m + 1) line))) full
                ∙ first_made (behind_first m lines) (session.answer t (m + 1) line) a.0 k.others a.1 (subst (λ u. run_in_store session u (m + 1) lines ≡ Some k.others) (sym a.2) k.is_run);
            same = (record { number = n + 1; other_number = m + 1; is = is; other_is = a.1; same_state = a.2; same_payload = a.3 }, k.same);
            at_last = k.at_last;
            none_refused = ap (λ b. not b || any_line_refused steps) some ∙ k.none_refused;
          }
      accepted_line t n m line s lines steps end full is false none behind =
          let stays : s.0 ≡ t = refused_stays t s.0 (n + 1) line s.1 is (none_is s.1.payload none) in
          subst (λ u. RunsAs u m lines steps end) stays (behind m)

      accepted_first : (t : session.State) (n m : ℕ) (line : Line) (lines : List Line) (steps : Steps) → is_blank line ≡ false
          → put_first (behind_first n lines) (session.answer t (n + 1) line) ≡ Some steps
          → ((s : session.State × StoredAnswer) (k : ℕ) (rest : Steps) → run_in_store session s.0 (n + 1) lines ≡ Some rest
          → RunsAs s.0 k (accepted_lines session lines rest) (storing_steps session rest) (last_stored s.0 rest))
          → RunsAs t m (first_accepted session line (λ others. accepted_lines session lines others) steps) (storing_steps session steps) (last_stored t steps)
      accepted_first t n m line lines [] full h behind = absurd (never_empty (behind_first n lines) (session.answer t (n + 1) line) h)
      accepted_first t n m line lines (s ∷ rest) full h behind =
          let is = first_is (behind_first n lines) (session.answer t (n + 1) line) s rest h in
          accepted_line t n m line s (accepted_lines session lines rest) (storing_steps session rest) (last_stored s.0 rest) full is.0 (is_some s.1.payload) refl (λ k. behind s k rest is.1)

      by_blank : (t : session.State) (m : ℕ) (line : Line) (b : Bool) (o1 o2 : Option Steps) (l1 l2 : List Line) (steps : Steps) (kept : Steps) (end : session.State) → is_blank line ≡ b
          → cond b o1 o2 ≡ Some steps → (o1 ≡ Some steps → RunsAs t m l1 kept end) → (is_blank line ≡ false → o2 ≡ Some steps → RunsAs t m l2 kept end)
          → RunsAs t m (cond b l1 l2) kept end
      by_blank t m line true o1 o2 l1 l2 steps kept end is h f g = f h
      by_blank t m line false o1 o2 l1 l2 steps kept end is h f g = g is h

      pub accepted : (t : session.State) (n m : ℕ) (lines : List Line) (steps : Steps) → run_in_store session t n lines ≡ Some steps
          → RunsAs t m (accepted_lines session lines steps) (storing_steps session steps) (last_stored t steps)
      accepted t n m [] [] h = record { others = []; is_run = refl; same = tt; at_last = refl; none_refused = refl }
      accepted t n m [] (s ∷ steps) h = cc
      accepted t n m (line ∷ lines) steps h =
          by_blank t m line (is_blank line) (run_in_store session t n lines) (put_first (behind_first n lines) (session.answer t (n + 1) line))
          (accepted_lines session lines steps) (first_accepted session line (λ others. accepted_lines session lines others) steps)
          steps (storing_steps session steps) (last_stored t steps) refl h
          (λ k. accepted t n m lines steps k)
          (λ full k. accepted_first t n m line lines steps full k (λ s j rest g. accepted s.0 (n + 1) j lines rest g))

      -- ---- the accepted lines of two runs

      pub accepted_joined : (t : session.State) (n k : ℕ) (first more : List Line) (steps others : Steps) → run_in_store session t n first ≡ Some steps → run_in_store session (last_stored t steps) k more ≡ Some others
          → RunsAs t 0 (accepted_lines session first steps ++ accepted_lines session more others) (storing_steps session steps ++ storing_steps session others) (last_stored (last_stored t steps) others)
      accepted_joined t n k first more steps others h e =
          let one = accepted t n 0 first steps h in
          let two = accepted (last_stored t steps) k 0 more others e in
          let here : last_stored t (storing_steps session steps) ≡ last_stored t steps = one.at_last in
          let there : last_stored t one.others ≡ last_stored t steps = same_last t (accepted_lines session first steps) (storing_steps session steps) one.others one.same ∙ here in
          let both = joined t 0 0 (accepted_lines session first steps) (accepted_lines session more others) one.others two.others one.is_run
          (subst (λ u. run_in_store session u 0 (accepted_lines session more others) ≡ Some two.others) (sym there) two.is_run) in
          let items = accepted_items more others in
          record {
            others = one.others ++ both.behind;
            is_run = both.is;
            same = same_joined t (accepted_lines session first steps) (accepted_lines session more others) (storing_steps session steps) one.others (storing_steps session others) both.behind one.same
                (subst (λ u. AreSameSteps session u (accepted_lines session more others) (storing_steps session others) both.behind) (sym here)
                (same_through (last_stored t steps) (accepted_lines session more others) (storing_steps session others) two.others both.behind two.same
                (subst (λ (l : List Line). AreSameSteps session (last_stored t steps) l two.others both.behind) items
                (subst (λ u. AreSameSteps session u (item_lines (accepted_lines session more others)) two.others both.behind) there both.same))));
            at_last = last_joined t (storing_steps session steps) (storing_steps session others) ∙ ap (λ u. last_stored u (storing_steps session others)) here ∙ two.at_last;
            none_refused = refused_joined (storing_steps session steps) (storing_steps session others) one.none_refused two.none_refused;
          }

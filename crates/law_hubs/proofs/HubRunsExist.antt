-- Every run over the store of a hub exists, and what it stores.
use Rattle.std.proofs.Common.{◌≡◌, inl, inr, ℕ, ◌+◌, Bool, true, false, cond, List, [], ◌∷◌, ◌++◌, map, Option, None, Some, option_map, option_and_then, Result, Ok, Err, refl, sym, ap, subst, ◌∙◌}
use Rattle.std.specs.Prelude.{is_some, option_to_list}
use Rattle.answer_text.specs.Lines.{fault_line}
use Rattle.edit_journal.specs.Lines.{is_blank}
use Rattle.edit_journal.specs.declared.line.Line.{Line}
use Rattle.edit_module.specs.Words.{WordTree}
use Rattle.lens_forms.specs.Forms.{FormTree}
use Rattle.view_hub.specs.Groups.{GroupStepped, with_words, then_others, step_group}
use Rattle.view_hub.specs.Hubs.{HubTree, CarriedTree, Place, ViewRefusal, hub_step}
use Rattle.hub_run.specs.Answers.{HubAnswerTree, carried}
use Rattle.hub_run.specs.FormLenses.{form_lens}
use Rattle.hub_run.specs.FoundLenses.{AllTyped}
use Rattle.hub_run.specs.RunStates.{hub_state_of}
use Rattle.hub_run.specs.Runs.{HubState, answer_of}
use Rattle.hub_run.proofs.FormsInStep.{FormHub, forms_stay}
use Rattle.hub_records.specs.HubChanges.{one, group, hub_change_of_line}
use Rattle.hub_session.specs.AnswerSteps.{Stays, Steps, kinds}
use Rattle.hub_session.specs.HubAnswers.{HubJournalItem, hub_change_text, refused_with, edit_answered, hub_group_answered, hub_answer_item, stored_hub_answer}
use Rattle.hub_session.specs.HubStates.{hub_stands_for, stored_hub}
use Rattle.hub_session.specs.declared.session.HubSession.{HubSession}
use Rattle.hub_session.proofs.RunsStay.{IsSoundState, stored_sound, answer_stays, run_stays}
use Rattle.store_run.specs.StoreRuns.{kept_of, last_stored, run_in_store}
use Rattle.store_run.specs.declared.session.StoredAnswer.{StoredAnswer}
use Rattle.law_stores.specs.SessionRuns.{first_accepted, accepted_lines}
use Rattle.law_stores.proofs.Sequences.{put_first, first_made, first_is, never_empty}
use Rattle.law_hubs.specs.HubRuns.{IsHubJournalRun, change_before, line_changes}

-- ---- an edit and a group from a hub that is in step

module _ (forms : List FormTree) (all : AllTyped forms) where
  -- the hub steps, and is in step again if the edit is accepted
  abbrev EditGoes : Option (Result (HubTree × CarriedTree) ViewRefusal) → Type 0
  EditGoes o = (r : Result (HubTree × CarriedTree) ViewRefusal) × (o ≡ Some r) × ((s : HubTree × CarriedTree) → r ≡ Ok s → FormHub forms s.0)

  taken_goes : (h : HubTree) (o : Option (Result (HubTree × CarriedTree) ViewRefusal)) → (t : HubTree × HubAnswerTree) × (option_map (answer_of h) o ≡ Some t) × FormHub forms t.0 → EditGoes o
  taken_goes h (Some (Ok s)) k =
      let is = k.1 in
      let pair : k.0 ≡ (s.0, carried s.1) = cc in
      let there : FormHub forms s.0 = subst (λ (p : HubTree × HubAnswerTree). FormHub forms p.0) pair k.2 in
      (Ok s, refl, λ m same. let one : s ≡ m = cc in subst (λ (p : HubTree × CarriedTree). FormHub forms p.0) one there)
  taken_goes h (Some (Err why)) k = (Err why, refl, λ m same. absurd cc)
  taken_goes h None k = let is = k.1 in absurd cc

  edit_goes : (h : HubTree) (e : Place × WordTree) → FormHub forms h → EditGoes (hub_step form_lens forms h e)
  edit_goes h e there = taken_goes h (hub_step form_lens forms h e) (forms_stay forms all h (Ok e) there)

  abbrev GroupGoes : Option GroupStepped → Type 0
  GroupGoes o = (r : GroupStepped) × (o ≡ Some r)

  others_go : (c : CarriedTree) (o : Option GroupStepped) → GroupGoes o → GroupGoes (option_map (with_words c) o)
  others_go c o k = (with_words c k.0, ap (option_map (with_words c)) k.1)

  first_goes : (others : HubTree → Option GroupStepped) (o : Option (Result (HubTree × CarriedTree) ViewRefusal)) (r : Result (HubTree × CarriedTree) ViewRefusal) → o ≡ Some r
      → ((s : HubTree × CarriedTree) → r ≡ Ok s → GroupGoes (others s.0)) → GroupGoes (option_and_then (then_others others) o)
  first_goes others o (Ok s) is behind =
      let k = others_go s.1 (others s.0) (behind s refl) in
      (k.0, ap (option_and_then (then_others others)) is ∙ k.1)
  first_goes others o (Err why) is behind = (Err (0, why), ap (option_and_then (then_others others)) is)

  group_goes : (h : HubTree) (es : List (Place × WordTree)) → FormHub forms h → GroupGoes (step_group form_lens forms h es)
  group_goes h [] there = (Ok (h, []), refl)
  group_goes h (e ∷ es) there =
      let k = edit_goes h e there in
      first_goes (λ next. step_group form_lens forms next es) (hub_step form_lens forms h e) k.0 k.1 (λ s is. group_goes s.0 es (k.2 s is))

-- ---- a line

abbrev Answered : Option (HubState × StoredAnswer) → Type 0
Answered o = (made : HubState × StoredAnswer) × (o ≡ Some made)

item_answered : (s : HubState) (n : ℕ) (item : HubJournalItem) → IsSoundState s → Answered (hub_answer_item s n item)
item_answered s n (Ok (one e)) k =
    let g = edit_goes s.forms k.0 s.hub e k.1 in
    (edit_answered s n e g.0, ap (option_map (edit_answered s n e)) g.1)
item_answered s n (Ok (group es)) k =
    let g = group_goes s.forms k.0 s.hub es k.1 in
    (hub_group_answered s n es g.0, ap (option_map (hub_group_answered s n es)) g.1)
item_answered s n (Err fault) k = (refused_with s (fault_line n fault), refl)

line_answered : (s : HubState) (n : ℕ) (line : Line) → IsSoundState s → Answered (stored_hub_answer s n line)
line_answered s n line k = item_answered s n (hub_change_of_line line) k

-- ---- all lines

abbrev HubSteps : Type 0
HubSteps = List (HubState × StoredAnswer)

-- `view` is the state of a value that answers, of which nothing is used here
module _ {A : Type 0} (view : A → HubState) where
  abbrev behind_first : ℕ → List Line → HubState × StoredAnswer → Option HubSteps
  behind_first n lines made = run_in_store (stored_hub view) made.0 (n + 1) lines

  abbrev Goes : Option HubSteps → Type 0
  Goes o = (steps : HubSteps) × (o ≡ Some steps)

  by_blank : (b : Bool) (skipped first : Option HubSteps) → Goes skipped → Goes first → Goes (cond b skipped first)
  by_blank true skipped first f g = f
  by_blank false skipped first f g = g

  first_goes_on : (n : ℕ) (lines : List Line) (o : Option (HubState × StoredAnswer)) (k : Answered o) → Goes (behind_first n lines k.0) → Goes (put_first (behind_first n lines) o)
  first_goes_on n lines o k rest = (k.0 ∷ rest.0, first_made (behind_first n lines) o k.0 rest.0 k.1 rest.1)

  runs_on : (s : HubState) (n : ℕ) (lines : List Line) → IsSoundState s → Goes (run_in_store (stored_hub view) s n lines)
  runs_on s n [] k = ([], refl)
  runs_on s n (line ∷ lines) k =
      let a = line_answered s (n + 1) line k in
      by_blank (is_blank line) (run_in_store (stored_hub view) s n lines) (put_first (behind_first n lines) (stored_hub_answer s (n + 1) line)) (runs_on s n lines k)
      (first_goes_on n lines (stored_hub_answer s (n + 1) line) a (runs_on a.0.0 (n + 1) lines (answer_stays s (n + 1) line a.0.0 a.0.1 k a.1)))

  -- ---- what the run stores, and its lenses

  abbrev Stored : HubState → List Line → HubSteps → Type 0
  Stored s accepted steps = (kept_of steps ≡ map hub_change_text (line_changes accepted)) × ((last_stored s steps).forms ≡ s.forms)

  abbrev lines_in : List Line → HubSteps → List Line
  lines_in lines steps = accepted_lines (stored_hub view) lines steps

  -- a line whose change is refused, or is accepted
  stays_stored : (s : HubState) (line : Line) (made : HubState × StoredAnswer) (lines : List Line) (rest : HubSteps) → Stays s made.0 made.1 → Stored made.0 (lines_in lines rest) rest
      → Stored s (first_accepted (stored_hub view) line (λ others. lines_in lines others) (made ∷ rest)) (made ∷ rest)
  stays_stored s line made lines rest r k = (
    ap (λ p. option_to_list p ++ kept_of rest) r.none ∙ k.0 ∙ ap (λ b. map hub_change_text (line_changes (cond b (line ∷ lines_in lines rest) (lines_in lines rest)))) (sym (ap is_some r.none)),
    k.1 ∙ ap (λ (u : HubState). u.forms) r.same,
  )

  steps_stored : (s : HubState) (line : Line) (made : HubState × StoredAnswer) (lines : List Line) (rest : HubSteps) → Steps s made.0 (hub_change_of_line line) made.1
      → Stored made.0 (lines_in lines rest) rest → Stored s (first_accepted (stored_hub view) line (λ others. lines_in lines others) (made ∷ rest)) (made ∷ rest)
  steps_stored s line made lines rest r k = (
    ap (λ p. option_to_list p ++ kept_of rest) r.payload
        ∙ ap (λ l. hub_change_text r.change ∷ l) k.0
        ∙ ap (λ (item : HubJournalItem). map hub_change_text (change_before item (line_changes (lines_in lines rest)))) (sym r.is)
        ∙ ap (λ b. map hub_change_text (line_changes (cond b (line ∷ lines_in lines rest) (lines_in lines rest)))) (sym (ap is_some r.payload)),
    k.1 ∙ r.forms,
  )

  first_stored : (s : HubState) (n : ℕ) (line : Line) (lines : List Line) (steps : HubSteps) → put_first (behind_first n lines) (stored_hub_answer s (n + 1) line) ≡ Some steps
      → ((u : HubState) (rest : HubSteps) → run_in_store (stored_hub view) u (n + 1) lines ≡ Some rest → Stored u (lines_in lines rest) rest)
      → Stored s (first_accepted (stored_hub view) line (λ others. lines_in lines others) steps) steps
  first_stored s n line lines [] h behind = absurd (never_empty (behind_first n lines) (stored_hub_answer s (n + 1) line) h)
  first_stored s n line lines (made ∷ rest) h behind =
      let is = first_is (behind_first n lines) (stored_hub_answer s (n + 1) line) made rest h in
      elim (kinds s (n + 1) (hub_change_of_line line) made.0 made.1 is.0) [
        | inl r ↦ stays_stored s line made lines rest r (behind made.0 rest is.1)
        | inr r ↦ steps_stored s line made lines rest r (behind made.0 rest is.1)
      ]

  stored_by_blank : (b : Bool) (s : HubState) (o1 o2 : Option HubSteps) (l1 l2 : List Line) (steps : HubSteps) → cond b o1 o2 ≡ Some steps
      → (o1 ≡ Some steps → Stored s l1 steps) → (o2 ≡ Some steps → Stored s l2 steps) → Stored s (cond b l1 l2) steps
  stored_by_blank true s o1 o2 l1 l2 steps h f g = f h
  stored_by_blank false s o1 o2 l1 l2 steps h f g = g h

  run_stored : (s : HubState) (n : ℕ) (lines : List Line) (steps : HubSteps) → run_in_store (stored_hub view) s n lines ≡ Some steps → Stored s (lines_in lines steps) steps
  run_stored s n [] [] h = (refl, refl)
  run_stored s n [] (made ∷ steps) h = absurd cc
  run_stored s n (line ∷ lines) steps h =
      stored_by_blank (is_blank line) s (run_in_store (stored_hub view) s n lines) (put_first (behind_first n lines) (stored_hub_answer s (n + 1) line))
      (lines_in lines steps) (first_accepted (stored_hub view) line (λ others. lines_in lines others) steps) steps h
      (λ k. run_stored s n lines steps k)
      (λ k. first_stored s n line lines steps k (λ u rest g. run_stored u (n + 1) lines rest g))

-- ---- the law

abbrev of_session : HubSession → HubState
of_session s = hub_state_of s.hub

pub run_exists : (payloads : List (List ℕ)) (state : HubState) (version : Option (List ℕ)) → hub_stands_for payloads ≡ Ok (state, version) → (lines : List Line) → IsHubJournalRun state lines
run_exists payloads state version stands lines =
    let sound = stored_sound payloads state version stands in
    let goes = runs_on of_session state 0 lines sound in
    let stored = run_stored of_session state 0 lines goes.0 goes.1 in
    record {
      steps = goes.0;
      is_run = goes.1;
      first_in_step = sound.1;
      in_step = run_stays of_session state 0 lines goes.0 sound goes.1;
      lenses = stored.1;
      kept = stored.0;
    }

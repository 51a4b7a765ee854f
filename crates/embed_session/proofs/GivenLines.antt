-- The lines that a session is given are answered as a run answers them.
use Rattle.std.proofs.Common.{◌≡◌, ℕ, ◌+◌, List, [], ◌∷◌, ◌++◌, Bool, true, false, cond, map, Some, option_map, option_and_then, refl, sym, ap, ap₂, subst, ◌∙◌}
use Rattle.edit_journal.specs.EntryJson.{change_of_line}
use Rattle.edit_journal.specs.Lines.{line_of, is_blank}
use Rattle.edit_journal.specs.declared.line.Line.{Line}
use Rattle.edit_session.specs.Run.{take_item, last}
use Rattle.edit_session.specs.Sessions.{SessionOf}
use Rattle.edit_session.specs.Step.{TripleTree}
use Rattle.edit_session.specs.Views.{triple_tree}
use Rattle.run_answers.specs.Answers.{answer_line, answer_lines, state_lines}
use Rattle.run_answers.specs.ItemRuns.{JournalItem, JournalAnswer, items_of, run_from}
use Rattle.lens_core.specs.Translation.{translate}
use Rattle.lens_flat.specs.declared.flat.ReadyForm.{ReadyForm}
use Rattle.lens_forms.specs.Forms.{FormTree, form_tree, left_type, right_type}
use Rattle.embed_session.specs.Journals.{is_taken, IsGiven, IsReported}
use Rattle.embed_session.specs.Embedded.{IsStarted, IsOpened, takes_bytes, IsStepped, shows_part, IsShown, text_of}
use Rattle.embed_session.specs.Steps.{form_of, has_line_feed, line_step, IsLineStep}
use Rattle.embed_session.specs.declared.embedded.EmbeddedSession.{EmbeddedSession}
use Rattle.embed_session.specs.declared.embedded.EmbeddedSession.TheVariants as embedded
use Rattle.embed_session.specs.declared.outcome.Outcome.{Outcome}
use Rattle.embed_session.specs.declared.outcome.Outcome.TheVariants as outcome
use Rattle.embed_session.specs.declared.outcome.Part.TheVariants as part
use Rattle.embed_session.specs.declared.running.Running.{Running}

-- the items take the one session to the other, and these are their answer lines
record Runs (f : FormTree) (r : Running) (items : List JournalItem) (texts : List ℕ) (r' : Running) : Type 0 where
  pub steps : List (TripleTree × JournalAnswer)
  pub is_run : run_from f (triple_tree r.session.triple) items ≡ Some steps
  pub is_texts : texts ≡ answer_lines (r.number + 1) steps
  pub comes_to : triple_tree r'.session.triple ≡ last (triple_tree r.session.triple) steps
  pub form_stays : form_of r' ≡ f

-- ---- one line

-- what the line makes of the run
abbrev with_line : Bool → Line → List JournalItem → List JournalItem
with_line b line items = cond b items (change_of_line line ∷ items)

one_line : (f : FormTree) (b : Bool) (r m r' : Running) (line : Line) (end : Outcome) (items : List JournalItem) (rest : List ℕ)
    → form_of r ≡ f → line_step b r line end m → (form_of m ≡ f → Runs f m items rest r') → Runs f r (with_line b line items) (m.text.items ++ rest) r'
one_line f true r m r' line end items rest is s others =
    let c = others (ap (λ (x : SessionOf ReadyForm). form_tree x.lens.typed) s.session ∙ is) in
    record {
      steps = c.steps;
      is_run = subst (λ (x : SessionOf ReadyForm). run_from f (triple_tree x.triple) items ≡ Some c.steps) s.session c.is_run;
      is_texts = ap (λ x. x ++ rest) s.text ∙ c.is_texts ∙ ap (λ n. answer_lines (n + 1) c.steps) s.number;
      comes_to = c.comes_to ∙ ap (λ (x : SessionOf ReadyForm). last (triple_tree x.triple) c.steps) s.session;
      form_stays = c.form_stays;
    }
one_line f false r m r' line end items rest is s others =
    let c = others (ap (λ (x : ReadyForm). form_tree x.typed) s.lens ∙ is) in
    let a = s.answers in
    let after = triple_tree m.session.triple in
    let step = subst (λ (g : FormTree). take_item (left_type g) (right_type g) (translate g) (triple_tree r.session.triple) (change_of_line line) ≡ Some (after, a.answer)) is a.step in
    record {
      steps = (after, a.answer) ∷ c.steps;
      is_run = ap (λ o. option_and_then (λ (x : TripleTree × JournalAnswer). option_map (λ steps. x ∷ steps) (run_from f x.0 items)) o) step
          ∙ ap (λ o. option_map (λ steps. (after, a.answer) ∷ steps) o) c.is_run;
      is_texts = ap₂ (λ x y. x ++ y) (a.is_text ∙ ap (λ n. answer_line n a.answer) s.number) (c.is_texts ∙ ap (λ n. answer_lines (n + 1) c.steps) s.number);
      comes_to = c.comes_to;
      form_stays = c.form_stays;
    }

-- ---- the lines

-- the step of a line that was taken
taken_step : (b : Bool) (r : Running) (line : List ℕ) (end : Outcome) (next : EmbeddedSession) → is_taken end ≡ true → takes_bytes b r line end next
    → (m : Running) × (next ≡ embedded.Open m) × IsLineStep r line end m
taken_step true r line end next taken s = let no : is_taken outcome.LineFeed ≡ true = subst (λ e. is_taken e ≡ true) s.0 taken in cc
taken_step false r line outcome.LineFeed next taken s = cc
taken_step false r line outcome.Full next taken s = cc
taken_step false r line outcome.NoChange next taken s = cc
taken_step false r line outcome.NoMemory next taken s = cc
taken_step false r line outcome.NoSession next taken s = cc
taken_step false r line outcome.Done (embedded.Open m) taken s = (m, refl, s)
taken_step false r line outcome.Done _ taken s = absurd s
taken_step false r line outcome.Blank (embedded.Open m) taken s = (m, refl, s)
taken_step false r line outcome.Blank _ taken s = absurd s
taken_step false r line (outcome.NoApply part at cause) (embedded.Open m) taken s = (m, refl, s)
taken_step false r line (outcome.NoApply part at cause) _ taken s = absurd s
taken_step false r line (outcome.NotAChange fault) (embedded.Open m) taken s = (m, refl, s)
taken_step false r line (outcome.NotAChange fault) _ taken s = absurd s

-- lines that are given to a session are a run of its form, and leave a session
record Given (f : FormTree) (r : Running) (lines : List (List ℕ)) (texts : List ℕ) (after : EmbeddedSession) : Type 0 where
  pub session : Running
  pub is : after ≡ embedded.Open session
  pub runs : Runs f r (items_of (map line_of lines)) texts session

given_from : (f : FormTree) (r m : Running) (line : List ℕ) (lines : List (List ℕ)) (end : Outcome) (rest texts : List ℕ) (after : EmbeddedSession)
    → form_of r ≡ f → IsLineStep r line end m → texts ≡ m.text.items ++ rest → (form_of m ≡ f → Given f m lines rest after) → form_of m ≡ f
    → Given f r (line ∷ lines) texts after
given_from f r m line lines end rest texts after is s e others stays =
    let g = others stays in
    record {
      session = g.session;
      is = g.is;
      runs = subst (λ x. Runs f r (items_of (map line_of (line ∷ lines))) x g.session) (sym e)
          (one_line f (is_blank (line_of line)) r m g.session (line_of line) end (items_of (map line_of lines)) rest is s (λ _. g.runs));
    }

-- a line keeps the form
form_kept : (f : FormTree) (b : Bool) (r m : Running) (line : Line) (end : Outcome) → form_of r ≡ f → line_step b r line end m → form_of m ≡ f
form_kept f true r m line end is s = ap (λ (x : SessionOf ReadyForm). form_tree x.lens.typed) s.session ∙ is
form_kept f false r m line end is s = ap (λ (x : ReadyForm). form_tree x.typed) s.lens ∙ is

given_lines : (f : FormTree) (r : Running) (lines : List (List ℕ)) (texts : List ℕ) (after : EmbeddedSession) → form_of r ≡ f → IsGiven (embedded.Open r) lines texts after → Given f r lines texts after
given_lines f r [] texts after is g =
    record { session = r; is = g.1; runs = record { steps = []; is_run = refl; is_texts = g.0; comes_to = refl; form_stays = is } }
given_lines f r (line ∷ lines) texts after is g =
    let t = taken_step (has_line_feed line) r line g.end g.next g.taken g.stepped in
    let m = t.0 in
    given_from f r m line lines g.end g.rest texts after is t.2 (subst (λ (k : EmbeddedSession). texts ≡ text_of k ++ g.rest) t.1 g.is_texts)
    (λ stays. given_lines f m lines g.rest after stays (subst (λ (k : EmbeddedSession). IsGiven k lines g.rest after) t.1 g.others_given))
    (form_kept f (is_blank (line_of line)) r m (line_of line) g.end is t.2)

-- ---- the report

reported_shown : (program : List ℕ) (lines : List (List ℕ)) (texts : List ℕ) (r m : Running) (shown : EmbeddedSession) → IsStarted program r
    → Runs (form_of r) r (items_of (map line_of lines)) texts m → shows_part m part.State outcome.Done shown → IsReported program lines (texts ++ text_of shown)
reported_shown program lines texts r m (embedded.Open x) s c h = record {
  form = form_of r;
  lens = s.fresh.lens;
  steps = c.steps;
  is_run = subst (λ t. run_from (form_of r) t (items_of (map line_of lines)) ≡ Some c.steps) s.first c.is_run;
  is_text = ap₂ (λ y z. y ++ z) (c.is_texts ∙ ap (λ n. answer_lines (n + 1) c.steps) s.fresh.number)
      (h.text ∙ ap₂ state_lines c.form_stays (c.comes_to ∙ ap (λ t. last t c.steps) s.first));
}
reported_shown program lines texts r m _ s c h = absurd h

reported_from : (program : List ℕ) (lines : List (List ℕ)) (texts : List ℕ) (r : Running) (after shown : EmbeddedSession) → IsStarted program r
    → Given (form_of r) r lines texts after → IsShown after part.State outcome.Done shown → IsReported program lines (texts ++ text_of shown)
reported_from program lines texts r after shown s g h =
    reported_shown program lines texts r g.session shown s g.runs (subst (λ (k : EmbeddedSession). IsShown k part.State outcome.Done shown) g.is h)

-- where there is no session, nothing is shown
not_shown : (before after shown : EmbeddedSession) (lines : List (List ℕ)) (texts : List ℕ) → ((end : Outcome) (line : List ℕ) (next : EmbeddedSession) → IsStepped before line end next → end ≡ outcome.NoSession)
    → ((next : EmbeddedSession) → IsShown before part.State outcome.Done next → ⊥) → IsGiven before lines texts after → IsShown after part.State outcome.Done shown → ⊥
not_shown before after shown [] texts no_step no_show g h = no_show shown (subst (λ (k : EmbeddedSession). IsShown k part.State outcome.Done shown) g.1 h)
not_shown before after shown (line ∷ lines) texts no_step no_show g h =
    let no : is_taken outcome.NoSession ≡ true = subst (λ e. is_taken e ≡ true) (no_step g.end line g.next g.stepped) g.taken in cc

differ : outcome.Done ≡ outcome.NoSession → ⊥
differ e = cc

pub is_reported : (program : List ℕ) (lines : List (List ℕ)) (texts : List ℕ) (first last shown : EmbeddedSession) → IsOpened program first → IsGiven first lines texts last
    → IsShown last part.State outcome.Done shown → IsReported program lines (texts ++ text_of shown)
is_reported program lines texts (embedded.Open r) last shown opened given h = reported_from program lines texts r last shown opened (given_lines (form_of r) r lines texts last refl given) h
is_reported program lines texts (embedded.Refused refused line) last shown opened given h =
    absurd (not_shown (embedded.Refused refused line) last shown lines texts (λ end line next s. s.0) (λ next s. differ s.0) given h)
is_reported program lines texts (embedded.StateRefused fault) last shown opened given h =
    absurd (not_shown (embedded.StateRefused fault) last shown lines texts (λ end line next s. s.0) (λ next s. differ s.0) given h)
is_reported program lines texts (embedded.RecordsRefused fault) last shown opened given h =
    absurd (not_shown (embedded.RecordsRefused fault) last shown lines texts (λ end line next s. s.0) (λ next s. differ s.0) given h)
is_reported program lines texts embedded.NoMemory last shown opened given h =
    absurd (not_shown embedded.NoMemory last shown lines texts (λ end line next s. s.0) (λ next s. differ s.0) given h)

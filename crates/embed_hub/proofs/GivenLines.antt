-- The lines that a hub is given are answered as the command `hub` answers them.
use Rattle.std.proofs.Common.{◌≡◌, ℕ, ◌+◌, List, [], ◌∷◌, ◌++◌, Bool, true, false, cond, map, Some, option_map, option_and_then, refl, sym, ap, ap₂, subst, ◌∙◌, inl, inr}
use Rattle.command_ends.specs.Statuses.{IsFinished, status_at_end}
use Rattle.edit_journal.specs.Lines.{line_of, is_blank}
use Rattle.edit_journal.specs.Pieces.{has_no_end}
use Rattle.edit_journal.specs.declared.line.Line.{Line}
use Rattle.script_input.specs.Lines.{program_part, journal}
use Rattle.run_scripts.specs.LineRuns.{last_state, answers_text, any_answer_refused, of_steps, run_lines}
use Rattle.run_scripts.specs.Report.{with_state, report_with}
use Rattle.run_scripts.specs.Answers.{Answer}
use Rattle.lens_forms.specs.Forms.{FormTree}
use Rattle.view_hub.specs.Hubs.{HubTree}
use Rattle.view_hub.specs.Views.{hub_tree}
use Rattle.hub_run.specs.Answers.{hub_answer_line, is_refused_by_hub}
use Rattle.hub_run.specs.HubScript.{hub_script}
use Rattle.hub_run.specs.RunStates.{forms_of_lenses, hub_state_of}
use Rattle.hub_run.specs.Runs.{HubState, hub_answered, hub_answer, first_state, hub_state_text}
use Rattle.embed_hub.specs.Journals.{is_taken, IsGiven, IsReported}
use Rattle.embed_hub.specs.Embedded.{IsStarted, IsOpened, IfOpen, takes_line, takes_bytes, IsStepped, IsShown, text_of}
use Rattle.embed_hub.specs.Parts.{IsShow}
use Rattle.embed_hub.specs.Steps.{hub_state, forms_of, line_step, IsLineStep}
use Rattle.embed_hub.specs.declared.embedded.EmbeddedHub.{EmbeddedHub}
use Rattle.embed_hub.specs.declared.embedded.EmbeddedHub.TheVariants as embedded
use Rattle.embed_hub.specs.declared.outcome.HubOutcome.{HubOutcome}
use Rattle.embed_hub.specs.declared.outcome.HubOutcome.TheVariants as outcome
use Rattle.embed_hub.specs.declared.outcome.HubPart.TheVariants as part
use Rattle.embed_hub.specs.declared.running.RunningHub.{RunningHub}

-- the lines take the one state to the other, and these are their answer lines
record Runs (t : HubState) (n : ℕ) (lines : List Line) (texts : List ℕ) (t' : HubState) : Type 0 where
  pub steps : List (HubState × Answer)
  pub is_run : run_lines hub_answer t n lines ≡ Some steps
  pub is_texts : texts ≡ answers_text steps
  pub comes_to : t' ≡ last_state t steps

-- ---- one line

abbrev answered_with : List FormTree → HubTree → Answer → HubState × Answer
answered_with forms h said = (record { forms = forms; hub = h }, said)

one_line : (b : Bool) (r m : RunningHub) (line : Line) (end : HubOutcome) (lines : List Line) (rest : List ℕ) (t' : HubState) → is_blank line ≡ b → line_step b r line end m
    → Runs (hub_state m) m.number lines rest t' → Runs (hub_state r) r.number (line ∷ lines) (m.text.items ++ rest) t'
one_line true r m line end lines rest t' is s c =
    let t = hub_state r in
    record {
      steps = c.steps;
      is_run = ap (λ b. cond b (run_lines hub_answer t r.number lines)
          (option_and_then (λ (x : HubState × Answer). option_map (λ steps. x ∷ steps) (run_lines hub_answer x.0 (r.number + 1) lines)) (hub_answer t (r.number + 1) line))) is
          ∙ ap₂ (λ (t : HubState) n. run_lines hub_answer t n lines) (sym (ap hub_state_of s.hub)) (sym s.number) ∙ c.is_run;
      is_texts = ap (λ x. x ++ rest) s.text ∙ c.is_texts;
      comes_to = c.comes_to ∙ ap (λ (t : HubState). last_state t c.steps) (ap hub_state_of s.hub);
    }
one_line false r m line end lines rest t' is s c =
    let t = hub_state r in
    let a = s.answers in
    let said : Answer = record { line = hub_answer_line m.number a.answer; refused = is_refused_by_hub a.answer } in
    let x : HubState × Answer = (hub_state m, said) in
    let answer_is : hub_answer t m.number line ≡ Some x =
    ap (option_map (hub_answered (forms_of r) m.number)) a.step
    ∙ ap (λ (forms : List FormTree). Some (answered_with forms (hub_tree m.hub.parts) said)) (ap forms_of_lenses (sym a.lenses)) in
    record {
      steps = x ∷ c.steps;
      is_run = ap (λ b. cond b (run_lines hub_answer t r.number lines)
          (option_and_then (λ (x : HubState × Answer). option_map (λ steps. x ∷ steps) (run_lines hub_answer x.0 (r.number + 1) lines)) (hub_answer t (r.number + 1) line))) is
          ∙ ap (λ n. option_and_then (λ (x : HubState × Answer). option_map (λ steps. x ∷ steps) (run_lines hub_answer x.0 n lines)) (hub_answer t n line)) (sym s.number)
          ∙ ap (option_and_then (λ (x : HubState × Answer). option_map (λ steps. x ∷ steps) (run_lines hub_answer x.0 m.number lines))) answer_is
          ∙ ap (option_map (λ steps. x ∷ steps)) c.is_run;
      is_texts = ap₂ (λ x y. x ++ y) a.is_text c.is_texts;
      comes_to = c.comes_to;
    }

-- ---- the lines

pub open_is : (k : EmbeddedHub) (P : RunningHub → Type 0) → IfOpen k P → (m : RunningHub) × (k ≡ embedded.Open m) × P m
open_is (embedded.Open r) P h = (r, refl, h)
open_is (embedded.Refused why line) P h = absurd h
open_is (embedded.StateRefused why) P h = absurd h
open_is embedded.NoMemory P h = absurd h

-- the step of a line that was taken
taken_line : (r : RunningHub) (line : List ℕ) (end : HubOutcome) (next : EmbeddedHub) → is_taken end ≡ true → takes_line r line end next
    → (m : RunningHub) × (next ≡ embedded.Open m) × IsLineStep r line end m
taken_line r line outcome.Done next taken s = open_is next (IsLineStep r line outcome.Done) s
taken_line r line outcome.Blank next taken s = open_is next (IsLineStep r line outcome.Blank) s
taken_line r line outcome.NoView next taken s = open_is next (IsLineStep r line outcome.NoView) s
taken_line r line (outcome.NoApply at cause) next taken s = open_is next (IsLineStep r line (outcome.NoApply at cause)) s
taken_line r line (outcome.NotAnEdit fault) next taken s = open_is next (IsLineStep r line (outcome.NotAnEdit fault)) s
taken_line r line outcome.LineFeed next taken s = cc
taken_line r line outcome.Full next taken s = cc
taken_line r line outcome.NoMemory next taken s = cc
taken_line r line outcome.NoHub next taken s = cc

taken_step : (b : Bool) (r : RunningHub) (line : List ℕ) (end : HubOutcome) (next : EmbeddedHub) → is_taken end ≡ true → takes_bytes b r line end next
    → (m : RunningHub) × (next ≡ embedded.Open m) × IsLineStep r line end m
taken_step true r line end next taken s = taken_line r line end next taken s
taken_step false r line end next taken s = let no : is_taken outcome.LineFeed ≡ true = subst (λ e. is_taken e ≡ true) s.0 taken in cc

-- the lines took the hub to this one
record Given (r : RunningHub) (lines : List (List ℕ)) (texts : List ℕ) (after : EmbeddedHub) : Type 0 where
  pub hub : RunningHub
  pub is : after ≡ embedded.Open hub
  pub runs : Runs (hub_state r) r.number (map line_of lines) texts (hub_state hub)

given_lines : (r : RunningHub) (lines : List (List ℕ)) (texts : List ℕ) (after : EmbeddedHub) → IsGiven (embedded.Open r) lines texts after → Given r lines texts after
given_lines r [] texts after g = record { hub = r; is = g.1; runs = record { steps = []; is_run = refl; is_texts = g.0; comes_to = refl } }
given_lines r (line ∷ lines) texts after g =
    let t = taken_step (has_no_end line) r line g.end g.next g.taken g.stepped in
    let c = given_lines t.0 lines g.rest after (subst (λ (k : EmbeddedHub). IsGiven k lines g.rest after) t.1 g.others_given) in
    record {
      hub = c.hub;
      is = c.is;
      runs = subst (λ (all : List ℕ). Runs (hub_state r) r.number (map line_of (line ∷ lines)) all (hub_state c.hub)) (sym (g.is_texts ∙ ap (λ (k : EmbeddedHub). text_of k ++ g.rest) t.1))
          (one_line (is_blank (line_of line)) r t.0 (line_of line) g.end (map line_of lines) g.rest (hub_state c.hub) refl t.2 c.runs);
    }

-- ---- the report

ends : (b : Bool) → IsFinished (status_at_end b)
ends true = inr refl
ends false = inl refl

module _ (script : List ℕ) (lines : List (List ℕ)) (texts : List ℕ) (behind : map line_of lines ≡ journal script) where
  reported : (r : RunningHub) (last_one : RunningHub) (shown : RunningHub) → IsStarted (program_part script) r
      → Runs (hub_state r) r.number (map line_of lines) texts (hub_state last_one) → IsShow last_one part.State shown → IsReported script (texts ++ shown.text.items)
  reported r last_one shown s c h =
      let first = first_state (forms_of r) in
      let goes : run_lines hub_answer first 0 (map line_of lines) ≡ Some c.steps = ap₂ (λ (t : HubState) n. run_lines hub_answer t n (map line_of lines)) (sym s.first) (sym s.number) ∙ c.is_run in
      let is : Some (hub_state_text (hub_state last_one)) ≡ Some shown.text.items = h.text in
      let state_is : hub_state_text (hub_state last_one) ≡ shown.text.items = cc in
      let text : answers_text c.steps ++ hub_state_text (last_state first c.steps) ≡ texts ++ shown.text.items =
      ap₂ (λ x y. x ++ y) (sym c.is_texts)
      (ap hub_state_text (ap (λ (t : HubState). last_state t c.steps) (sym s.first) ∙ sym c.comes_to) ∙ state_is) in
      record {
        status = status_at_end (any_answer_refused c.steps);
        finished = ends (any_answer_refused c.steps);
        is_report = ap₂ (report_with hub_script) s.lenses (sym behind)
            ∙ ap (λ o. option_map (with_state hub_script) (option_map (of_steps first) o)) goes
            ∙ ap (λ x. Some (x, status_at_end (any_answer_refused c.steps))) text;
      }

  opened : (r : RunningHub) (last shown : EmbeddedHub) → IsStarted (program_part script) r → IsGiven (embedded.Open r) lines texts last → IsShown last part.State outcome.Done shown
      → IsReported script (texts ++ text_of shown)
  opened r last shown s given h =
      let g = given_lines r lines texts last given in
      let m = open_is shown (IsShow g.hub part.State) (subst (λ (k : EmbeddedHub). IsShown k part.State outcome.Done shown) g.is h) in
      subst (λ (k : EmbeddedHub). IsReported script (texts ++ text_of k)) (sym m.1) (reported r g.hub m.0 s g.runs m.2)

-- where there is no hub, nothing is shown
not_shown : (before after shown : EmbeddedHub) (lines : List (List ℕ)) (texts : List ℕ) → ((end : HubOutcome) (line : List ℕ) (next : EmbeddedHub) → IsStepped before line end next → end ≡ outcome.NoHub)
    → ((next : EmbeddedHub) → IsShown before part.State outcome.Done next → ⊥) → IsGiven before lines texts after → IsShown after part.State outcome.Done shown → ⊥
not_shown before after shown [] texts no_step no_show g h = no_show shown (subst (λ (k : EmbeddedHub). IsShown k part.State outcome.Done shown) g.1 h)
not_shown before after shown (line ∷ lines) texts no_step no_show g h =
    let no : is_taken outcome.NoHub ≡ true = subst (λ e. is_taken e ≡ true) (no_step g.end line g.next g.stepped) g.taken in cc

differ : outcome.Done ≡ outcome.NoHub → ⊥
differ e = cc

pub is_reported : (script : List ℕ) (lines : List (List ℕ)) (texts : List ℕ) (first last shown : EmbeddedHub) → map line_of lines ≡ journal script → IsOpened (program_part script) first
    → IsGiven first lines texts last → IsShown last part.State outcome.Done shown → IsReported script (texts ++ text_of shown)
is_reported script lines texts (embedded.Open r) last shown behind s given h = opened script lines texts behind r last shown s given h
is_reported script lines texts (embedded.Refused why line) last shown behind s given h =
    absurd (not_shown (embedded.Refused why line) last shown lines texts (λ end line next s. s.0) (λ next s. differ s.0) given h)
is_reported script lines texts (embedded.StateRefused why) last shown behind s given h = absurd s
is_reported script lines texts embedded.NoMemory last shown behind s given h =
    absurd (not_shown embedded.NoMemory last shown lines texts (λ end line next s. s.0) (λ next s. differ s.0) given h)

-- A hub in a store answers lines that are no groups as a hub over a script does.
use Rattle.std.proofs.Common.{◌≡◌, inl, inr, ℕ, ◌+◌, List, [], ◌∷◌, ◌++◌, Bool, true, false, not, ◌||◌, cond, Option, None, Some, option_map, option_and_then, Result, Ok, Err, refl, sym, ap, ap₂, subst, ◌∙◌}
use Rattle.std.specs.Prelude.{is_some}
use Rattle.serde_json.specs.Data.{Data, Items}
use Rattle.edit_journal.specs.EntryJson.{group_items, tree_of_text}
use Rattle.edit_journal.specs.Lines.{is_blank}
use Rattle.edit_journal.specs.declared.line.Line.{Line}
use Rattle.edit_journal.specs.declared.line.Line.TheVariants.{Text, TooLong}
use Rattle.edit_module.specs.Words.{WordTree}
use Rattle.view_hub.specs.Hubs.{HubTree, CarriedTree, Place, ViewRefusal, no_view, no_apply, hub_step}
use Rattle.hub_run.specs.Answers.{no_edit}
use Rattle.hub_run.specs.EditJson.{edit_if_json, edit_of_line, edit_of_tree}
use Rattle.hub_run.specs.FormLenses.{form_lens}
use Rattle.hub_run.specs.Runs as scripts
use Rattle.hub_run.specs.Runs.{HubItem, HubState, answer_of, hub_answered, take_hub_item}
use Rattle.hub_records.specs.HubChanges.{one, as_hub_change, hub_change_if_json, hub_change_of_parts, hub_change_of_line}
use Rattle.hub_session.specs.HubAnswers.{stored_hub_answer, hub_answer_item, edit_answered}
use Rattle.hub_session.specs.HubStates.{stored_hub}
use Rattle.run_scripts.specs.LineRuns as scripted
use Rattle.run_scripts.specs.Answers.{Answer}
use Rattle.store_run.specs.StoreRuns.{run_in_store}
use Rattle.store_run.specs.declared.session.StoredAnswer.{StoredAnswer}
use Rattle.law_store_text.specs.HubsAlike.{is_group_tree, is_group, HasNoGroup, edit_payload, stored_as, HaveSameRun}

-- ---- a line that is no group is an edit, or it is refused for the same fault

parts_alike : (o : Option Items) (d : Data) → is_some o ≡ false → hub_change_of_parts o d ≡ as_hub_change one (edit_of_tree d)
parts_alike (Some ds) d h = cc
parts_alike None d h = refl

change_alike : (bytes : List ℕ) (o : Option Data) → tree_of_text bytes ≡ o → is_group_tree o ≡ false → hub_change_of_line (Text bytes) ≡ as_hub_change one (edit_of_line (Text bytes))
change_alike bytes (Some d) is h =
    ap hub_change_if_json is ∙ parts_alike (group_items d) d h ∙ ap (λ o. as_hub_change one (edit_if_json o)) (sym is)
change_alike bytes None is h = ap hub_change_if_json is ∙ ap (λ o. as_hub_change one (edit_if_json o)) (sym is)

line_is_edit : (line : Line) → is_group line ≡ false → hub_change_of_line line ≡ as_hub_change one (edit_of_line line)
line_is_edit (Text bytes) h = change_alike bytes (tree_of_text bytes) refl h
line_is_edit TooLong h = refl

-- ---- the answer to it

module _ (s : HubState) (n : ℕ) where
  -- what `hub` makes of an item
  abbrev script_item : HubItem → Option (HubState × Answer)
  script_item item = option_map (hub_answered s.forms n) (take_hub_item form_lens s.forms s.hub item)

  edit_alike : (e : Place × WordTree) (o : Option (Result (HubTree × CarriedTree) ViewRefusal))
      → option_map (edit_answered s n e) o ≡ option_map (stored_as (Ok e)) (option_map (hub_answered s.forms n) (option_map (answer_of s.hub) o))
  edit_alike e None = refl
  edit_alike e (Some (Ok r)) = refl
  edit_alike e (Some (Err (no_view views))) = refl
  edit_alike e (Some (Err (no_apply at cause))) = refl

  item_alike : (item : HubItem) → hub_answer_item s n (as_hub_change one item) ≡ option_map (stored_as item) (script_item item)
  item_alike (Ok e) = edit_alike e (hub_step form_lens s.forms s.hub e)
  item_alike (Err fault) = refl

  pub line_alike : (line : Line) → is_group line ≡ false → stored_hub_answer s n line ≡ option_map (stored_as (edit_of_line line)) (scripts.hub_answer s n line)
  line_alike line h = ap (hub_answer_item s n) (line_is_edit line h) ∙ item_alike (edit_of_line line)

-- ---- whether an item is refused

-- an accepted answer is one to an edit
refused_alike : (s : HubState) (n : ℕ) (item : HubItem) (made : HubState × Answer) → script_item s n item ≡ Some made → not (is_some (edit_payload item made.1.refused)) ≡ made.1.refused
refused_alike s n (Ok e) made h = by_answer made.1.refused where
  by_answer : (b : Bool) → not (is_some (edit_payload (Ok e) b)) ≡ b
  by_answer true = refl
  by_answer false = refl
refused_alike s n (Err fault) made h =
    let same : hub_answered s.forms n (s.hub, no_edit fault) ≡ made = cc in
    ap (λ (x : HubState × Answer). x.1.refused) same

-- ---- runs

abbrev ScriptSteps : Type 0
ScriptSteps = List (HubState × Answer)

abbrev StoredSteps : Type 0
StoredSteps = List (HubState × StoredAnswer)

-- `view` is the state of a value that answers, of which nothing is used here
module _ {A : Type 0} (view : A → HubState) where
  abbrev stored_run : HubState → ℕ → List Line → Option StoredSteps
  stored_run t n lines = run_in_store (stored_hub view) t n lines

  abbrev run_scripts : HubState → ℕ → List Line → Option ScriptSteps
  run_scripts t n lines = scripted.run_lines scripts.hub_answer t n lines

  abbrev stored_behind : ℕ → List Line → HubState × StoredAnswer → Option StoredSteps
  stored_behind n lines made = option_map (λ (steps : StoredSteps). made ∷ steps) (stored_run made.0 (n + 1) lines)

  abbrev script_behind : ℕ → List Line → HubState × Answer → Option ScriptSteps
  script_behind n lines made = option_map (λ (steps : ScriptSteps). made ∷ steps) (run_scripts made.0 (n + 1) lines)

  -- an answer in front of others
  made_alike : (t : HubState) (item : HubItem) (made : HubState × Answer) (o : Option StoredSteps) (p : Option ScriptSteps) → not (is_some (edit_payload item made.1.refused)) ≡ made.1.refused
      → HaveSameRun made.0 o p
      → HaveSameRun t (option_map (λ (steps : StoredSteps). stored_as item made ∷ steps) o) (option_map (λ (steps : ScriptSteps). made ∷ steps) p)
  made_alike t item made o p refused (inl none) = inl (
    ap (option_map (λ (steps : StoredSteps). stored_as item made ∷ steps)) none.0,
    ap (option_map (λ (steps : ScriptSteps). made ∷ steps)) none.1,
  )
  made_alike t item made o p refused (inr k) = inr (record {
    steps = stored_as item made ∷ k.steps;
    others = made ∷ k.others;
    is = ap (option_map (λ (steps : StoredSteps). stored_as item made ∷ steps)) k.is;
    other_is = ap (option_map (λ (steps : ScriptSteps). made ∷ steps)) k.other_is;
    same = record {
      text = ap (λ text. made.1.line ++ text) k.same.text;
      refused = ap₂ (λ a b. a || b) refused k.same.refused;
      at_last = k.same.at_last;
    };
  })

  by_answer : (t : HubState) (n : ℕ) (lines : List Line) (item : HubItem) (o : Option (HubState × StoredAnswer)) (x : Option (HubState × Answer)) → o ≡ option_map (stored_as item) x
      → ((made : HubState × Answer) → x ≡ Some made → not (is_some (edit_payload item made.1.refused)) ≡ made.1.refused)
      → ((u : HubState) → HaveSameRun u (stored_run u (n + 1) lines) (run_scripts u (n + 1) lines))
      → HaveSameRun t (option_and_then (stored_behind n lines) o) (option_and_then (script_behind n lines) x)
  by_answer t n lines item o None e refused behind = inl (ap (option_and_then (stored_behind n lines)) e, refl)
  by_answer t n lines item o (Some made) e refused behind =
      subst (λ (z : Option (HubState × StoredAnswer)). HaveSameRun t (option_and_then (stored_behind n lines) z) (script_behind n lines made)) (sym e)
      (made_alike t item made (stored_run made.0 (n + 1) lines) (run_scripts made.0 (n + 1) lines) (refused made refl) (behind made.0))

  by_blank : (t : HubState) (b : Bool) (o1 o2 : Option StoredSteps) (p1 p2 : Option ScriptSteps) → HaveSameRun t o1 p1 → HaveSameRun t o2 p2 → HaveSameRun t (cond b o1 o2) (cond b p1 p2)
  by_blank t true o1 o2 p1 p2 f g = f
  by_blank t false o1 o2 p1 p2 f g = g

  pub runs_alike : (t : HubState) (n : ℕ) (lines : List Line) → HasNoGroup lines → HaveSameRun t (stored_run t n lines) (run_scripts t n lines)
  runs_alike t n [] h = inr (record { steps = []; others = []; is = refl; other_is = refl; same = record { text = refl; refused = refl; at_last = refl } })
  runs_alike t n (line ∷ lines) h =
      by_blank t (is_blank line) (stored_run t n lines) (option_and_then (stored_behind n lines) (stored_hub_answer t (n + 1) line))
      (run_scripts t n lines) (option_and_then (script_behind n lines) (scripts.hub_answer t (n + 1) line)) (runs_alike t n lines h.1)
      (by_answer t n lines (edit_of_line line) (stored_hub_answer t (n + 1) line) (scripts.hub_answer t (n + 1) line) (line_alike t (n + 1) line h.0)
      (λ made is. refused_alike t (n + 1) (edit_of_line line) made is) (λ u. runs_alike u (n + 1) lines h.1))

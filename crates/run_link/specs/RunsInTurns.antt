-- Every run of a script goes on to its end, and each of its links is in turns and has state lines. All are lemmas, and
-- stand here since the laws of an `impl` cite them.
use Rattle.std.proofs.Common.{◌≡◌, ℕ, true, false, Some, option_map, Result, Ok, Err, refl, sym, ap, ap₂, subst}
use Rattle.std.specs.Prelude.{option_and_then}
use Rattle.texts.specs.declared.side.Side.TheVariants.{Left, Right}
use Rattle.edit_journal.specs.Lines.{is_blank}
use Rattle.edit_journal.specs.declared.line.Line.{Line}
use Rattle.edit_session.specs.Step.{TripleTree}
use Rattle.lens_forms.specs.Forms.{FormTree, left_type, right_type}
use Rattle.lens_forms.specs.Typing.{is_typed}
use Rattle.lens_core.specs.Complements.{missing}
use Rattle.lens_core.specs.Consistency.{IsConsistent}
use Rattle.lens_core.specs.Translation.{translate}
use Rattle.lens_steps.specs.LawsOfForms.{form_starts, form_edits}
use Rattle.run_scripts.specs.Answers.{Answer}
use Rattle.program_accepted.proofs.AcceptedForms.{accepted_typed}
use Rattle.run_scripts.specs.ScriptEnds.{EveryRunStaysInStep}
use Rattle.run_scripts.proofs.StepsStay.{every_run as every_step}
use Rattle.turn_link.specs.Turns.{TurnRefusal}
use Rattle.turn_link.specs.Links.{ToldTree, LinkTree, link_start, link_after}
use Rattle.turn_link.proofs.LinkRuns.{goes_on, start_linked}
use Rattle.run_link.specs.EventJson.{event_of_line}
use Rattle.run_link.specs.Items.{ScriptItem, no_event, link_answered, take_link_item}
use Rattle.run_link.specs.Answers.{shown_lines}
use Rattle.run_link.specs.LinkScript.{link_script}
use Rattle.run_link.specs.Runs.{IsFormLink, first_link, link_numbered, link_line_answer, IsInTurnsWith}

-- the link of an answer is the link after it
answered_link : (s : LinkTree) (r : Result (LinkTree × ToldTree) TurnRefusal) → (link_answered s r).0 ≡ link_after s r
answered_link s (Ok x) = refl
answered_link s (Err why) = refl

module _ (form : FormTree) where
  -- a link with all its parts together has state lines
  linked_kept : (s : LinkTree) → IsFormLink form s → IsInTurnsWith form (form, s)
  linked_kept s k =
      let near = k.left_draft.triple in
      let far = k.right_draft.triple in
      record {
        lens = refl;
        linked = k;
        text = shown_lines form near.left far.right near.comp s.left_number s.right_number;
        shown =
            ap₂ (λ o p. option_and_then (λ (t : TripleTree). option_map
            (λ (u : TripleTree). shown_lines form t.left u.right t.comp s.left_number s.right_number) p) o)
            k.left_draft.at_number k.right_draft.at_number;
      }

  module _ (typed : is_typed form ≡ true) where
    -- a step that the answer to an item makes, to a link with all its parts together
    abbrev StepsOn : LinkTree → ℕ → ScriptItem → FormTree → Type 0
    StepsOn s n item f =
        (r : (FormTree × LinkTree) × Answer)
        × (option_map (link_numbered f n) (take_link_item (left_type f) (right_type f) (missing f) (translate f) s item)
        ≡ Some r)
        × IsInTurnsWith form r.0

    steps_on : (s : LinkTree) (n : ℕ) (item : ScriptItem) → IsFormLink form s → StepsOn s n item form
    steps_on s n (Err cause) k = (link_numbered form n (s, no_event cause), refl, linked_kept s k)
    steps_on s n (Ok e) k =
        let g = goes_on (IsConsistent form) (left_type form) (right_type form) (missing form) (translate form)
        (form_edits form typed Left) (form_edits form typed Right) s k e in
        let next = link_answered s g.0 in (
          link_numbered form n next,
          ap (λ o. option_map (link_numbered form n) (option_map (link_answered s) o)) g.1,
          linked_kept next.0 (subst (IsFormLink form) (sym (answered_link s g.0)) g.2),
        )

    steps_stay : (t : FormTree × LinkTree) (n : ℕ) (line : Line) → is_blank line ≡ false → IsInTurnsWith form t
        → (r : (FormTree × LinkTree) × Answer) × (link_line_answer t n line ≡ Some r) × IsInTurnsWith form r.0
    steps_stay t n line not_blank k =
        subst (StepsOn t.1 n (event_of_line line)) (sym k.lens) (steps_on t.1 n (event_of_line line) k.linked)

pub every_run : EveryRunStaysInStep link_script
every_run part form accepted lines =
    let typed = accepted_typed part form accepted in
    let k = start_linked (IsConsistent form) (left_type form) (right_type form) (missing form) (translate form)
    (form_starts form typed) in
    every_step link_line_answer (IsInTurnsWith form) (steps_stay form typed) (first_link form)
    (linked_kept form link_start k) lines

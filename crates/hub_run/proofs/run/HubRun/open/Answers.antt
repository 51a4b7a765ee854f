use Rattle.std.proofs.Common.{◌≡◌, List, ap, ◌∙◌, map, subst}
use Rattle.std.specs.Prelude.{MatchResult}
use Rattle.lens_forms.specs.Forms.{form_tree}
use Rattle.lens_types.specs.declared.typed.Typed.{Typed}
use Rattle.run_scripts.specs.declared.script_state.NotOpened.TheVariants.{NoMemory}
use Rattle.hub_run.specs.Lenses.{forms_of}
use Rattle.hub_run.specs.RunStates.{hub_state_of}
use Rattle.hub_run.specs.Runs.{first_state}
use Rattle.hub_run.proofs.HubStarts.{opens, part_refused}
use Rattle.hub_run.proofs.run.HubRun.open.Goals as goal

pub returns-in-Ok : goal.returns-in-Ok
returns-in-Ok c = record {
  opens = λ part h. opens part (map form_tree c.in-Ok.typed.items) c.started.result (ap forms_of h.are ∙ c.in-Ok.ensures.lenses h.ended h.begun h.holds)
      (subst (λ (ts : List Typed). MatchResult c.started.result (λ r. hub_state_of r ≡ first_state (map form_tree ts)) (λ refused. refused ≡ NoMemory)) c.deref.ensures.value c.started.ensures);
}

pub returns-in-Err : goal.returns-in-Err
returns-in-Err c = record {
  opens = λ part h. c.not_opened.ensures part (part_refused part c.args.pieces.now c.in-Err.refused h (c.in-Err.ensures.lenses h.ended h.begun h.holds));
}

-- What the script of a hub means. The trait `ScriptState` says so of `HubRun` too.
use Rattle.std.specs.Prelude.{List}
use Rattle.lens_flat.specs.declared.flat.ReadyForm.{ReadyForm}
use Rattle.lens_forms.specs.Forms.{FormTree}
use Rattle.run_scripts.specs.declared.script_state.ScriptState as OfScript
use Rattle.view_hub.specs.Views.{HubOf}
use Rattle.hub_run.specs.Lenses.{HubRefusal, lenses_of, hub_refusal_line}
use Rattle.hub_run.specs.RunStates.{hub_state_of}
use Rattle.hub_run.specs.Runs.{HubState, IsHubInStep, hub_answer, first_state, hub_state_text}

abbrev pub hub_script : OfScript.Ghosts (HubOf ReadyForm)
hub_script = record {
  Accepted = List FormTree;
  Refusal = HubRefusal;
  State = HubState;
  state = hub_state_of;
  accepted = lenses_of;
  refusal_line = hub_refusal_line;
  start = first_state;
  answer = hub_answer;
  state_text = hub_state_text;
  in_step = IsHubInStep;
}

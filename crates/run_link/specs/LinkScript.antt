-- What the script of a link means. The trait `ScriptState` says so of `LinkRun` too.
use Rattle.lens_forms.specs.Forms.{FormTree}
use Rattle.program_accepted.specs.Program.{Refusal, lens_of}
use Rattle.turn_link.specs.Links.{LinkTree}
use Rattle.run_scripts.specs.declared.script_state.ScriptState as OfScript
use Rattle.answer_text.specs.RefusalLines.{refused_part_line}
use Rattle.run_link.specs.Runs.{first_link, link_line_answer, link_state_of, link_state_text, IsInTurnsWith}
use Rattle.run_link.specs.declared.script.LinkRun.{LinkRun}

abbrev pub link_script : OfScript.Ghosts LinkRun
link_script = record {
  Accepted = FormTree;
  Refusal = Refusal;
  State = FormTree × LinkTree;
  state = λ s. link_state_of s.link;
  accepted = lens_of;
  refusal_line = refused_part_line;
  start = first_link;
  answer = link_line_answer;
  state_text = link_state_text;
  in_step = IsInTurnsWith;
}

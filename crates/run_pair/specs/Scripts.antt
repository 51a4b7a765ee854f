-- What the script of a pair means, to `run` and to `check`. The trait `ScriptState` says so of `PairRun` and of
-- `TypesShown` too.
use Rattle.program_accepted.specs.Program.{Refusal, lens_of}
use Rattle.answer_text.specs.RefusalLines.{refused_part_line}
use Rattle.edit_session.specs.Step.{TripleTree}
use Rattle.lens_forms.specs.Forms.{FormTree, form_tree}
use Rattle.run_pair.specs.Runs.{IsPairInStep, first_pair, line_answer, pair_state_of, pair_state_text}
use Rattle.run_pair.specs.Shown.{IsShown, no_answer, same_form, type_lines}
use Rattle.run_pair.specs.declared.pair.PairRun.{PairRun}
use Rattle.run_pair.specs.declared.shown.TypesShown.{TypesShown}
use Rattle.run_scripts.specs.declared.script_state.ScriptState as OfScript

-- to `run`: its documents and their complement are kept in step, by the changes of the journal
abbrev pub pair_script : OfScript.Ghosts PairRun
pair_script = record {
  Accepted = FormTree;
  Refusal = Refusal;
  State = FormTree × TripleTree;
  state = λ s. pair_state_of s.session;
  accepted = lens_of;
  refusal_line = refused_part_line;
  start = first_pair;
  answer = line_answer;
  state_text = pair_state_text;
  in_step = IsPairInStep;
}

-- to `check`: the types of its lens are shown
abbrev pub types_script : OfScript.Ghosts TypesShown
types_script = record {
  Accepted = FormTree;
  Refusal = Refusal;
  State = FormTree;
  state = λ s. form_tree s.lens;
  accepted = lens_of;
  refusal_line = refused_part_line;
  start = same_form;
  answer = no_answer;
  state_text = type_lines;
  in_step = IsShown;
}

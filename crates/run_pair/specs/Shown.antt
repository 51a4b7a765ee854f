-- The run of the command `check` over the lines of a script: no line has an answer, and the two types of the lens are
-- written at the end.
use Rattle.std.specs.Prelude.{ℕ, List, [], ◌++◌, false, Option, Some}
use Rattle.answer_text.specs.Lines.{type_line}
use Rattle.edit_journal.specs.declared.line.Line.{Line}
use Rattle.lens_forms.specs.Forms.{FormTree, left_type, right_type}
use Rattle.run_scripts.specs.Answers.{Answer}
use Rattle.texts.specs.declared.side.Side.TheVariants.{Left, Right}

-- a state is the lens, from the start on
abbrev pub same_form : FormTree → FormTree
same_form form = form

-- a line of the journal is not looked at
abbrev pub no_answer : FormTree → ℕ → Line → Option (FormTree × Answer)
no_answer form n line = Some (form, record { line = []; refused = false })

-- the two types of a lens, `left TYPE` and `right TYPE`
abbrev pub type_lines : FormTree → List ℕ
type_lines form = type_line Left (left_type form) ++ type_line Right (right_type form)

-- nothing is said of a state
abbrev pub IsShown : FormTree → FormTree → Type 0
IsShown form state = Unit {0}

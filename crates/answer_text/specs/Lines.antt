-- The lines that the program writes, each with the line feed at its end.
-- From the end: `tree_line` and `type_line`, the refusals of a program, `fault_line`, `group_refused_line` and
-- `group_line`, `no_apply_line` and `ok_line`.
use Rattle.std.specs.Prelude.{ℕ, List, ◌++◌, codes, decimal}
use Rattle.serde_json.specs.Data.{Data}
use Rattle.serde_json.specs.Written.{compact_text}
use Rattle.doc_values.specs.Types.{TyTree}
use Rattle.texts.specs.declared.side.Side.{Side}
use Rattle.edit_module.specs.declared.fault.Cause.{Cause}
use Rattle.edit_module.specs.Words.{WordTree}
use Rattle.edit_json.specs.WordJson.{tree_of_word}
use Rattle.edit_journal.specs.EntryJson.{LineFault, side_text, tree_of_entries}
use Rattle.lens_syntax.specs.Programs.{ProgramCause}
use Rattle.lens_types.specs.Checking.{Failure}
use Rattle.program_writing.specs.Canonical.{canonical_type}
use Rattle.answer_text.specs.Reasons.{cause_text, fault_text, syntax_reason, typing_reason}

-- `ok N SIDE WORD`: an entry was accepted, and it was translated to this word of this side
abbrev pub ok_line : ℕ → Side → WordTree → List ℕ
ok_line number side word =
    codes "ok " ++ decimal number ++ codes " " ++ side_text side ++ codes " " ++ compact_text (tree_of_word word)
    ++ codes "\n"

-- `refused N no-apply AT CAUSE`: the primitive with the number AT, from 0, is the first of the edit that does not apply
abbrev pub no_apply_line : ℕ → ℕ → Cause → List ℕ
no_apply_line number at cause =
    codes "refused " ++ decimal number ++ codes " no-apply " ++ decimal at ++ codes " " ++ cause_text cause
    ++ codes "\n"

-- `ok N group LIST`: a group was accepted, and its entries were translated to these words, each of the side that is
-- beside it
abbrev pub group_line : ℕ → List (Side × WordTree) → List ℕ
group_line number words =
    codes "ok " ++ decimal number ++ codes " group " ++ compact_text (tree_of_entries words) ++ codes "\n"

-- `refused N group PART no-apply AT CAUSE`: the entry with the number PART, from 0, is the first of the group that does
-- not apply, and the primitive with the number AT, from 0, is the first of that entry that does not
abbrev pub group_refused_line : ℕ → ℕ → ℕ → Cause → List ℕ
group_refused_line number part at cause =
    codes "refused " ++ decimal number ++ codes " group " ++ decimal part ++ codes " no-apply " ++ decimal at
    ++ codes " " ++ cause_text cause ++ codes "\n"

-- `refused N FAULT`: the line is not a change
abbrev pub fault_line : ℕ → LineFault → List ℕ
fault_line number fault = codes "refused " ++ decimal number ++ codes " " ++ fault_text fault ++ codes "\n"

-- `program refused: REASON`
abbrev pub program_refused_line : List ℕ → List ℕ
program_refused_line reason = codes "program refused: " ++ reason ++ codes "\n"

-- the text is not a program
abbrev pub syntax_line : ProgramCause → List ℕ
syntax_line cause = program_refused_line (syntax_reason cause)

-- the program has no type
abbrev pub typing_line : Failure → List ℕ
typing_line failure = program_refused_line (typing_reason failure)

-- `left TYPE` or `right TYPE`, the type in canonical text
abbrev pub type_line : Side → TyTree → List ℕ
type_line side ty = side_text side ++ codes " " ++ canonical_type ty ++ codes "\n"

-- `LABEL JSON`, the tree in compact text
abbrev pub tree_line : List ℕ → Data → List ℕ
tree_line label tree = label ++ codes " " ++ compact_text tree ++ codes "\n"

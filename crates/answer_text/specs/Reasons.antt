-- The words for causes and reasons in the lines that the program writes.
-- From the end: `typing_reason`, `syntax_reason`, `fault_text`, `cause_text`.
use Rattle.std.specs.Prelude.{ℕ, List, ◌++◌, codes, decimal}
use Rattle.edit_module.specs.declared.fault.Cause.{Cause}
use Rattle.edit_module.specs.declared.fault.Cause.TheVariants.{Kind, Place, Tag, Range, Overflow, Value, Present}
use Rattle.edit_module.specs.declared.fault.Cause.TheVariants.{Length, Deep}
use Rattle.edit_journal.specs.EntryJson.{LineFault, line_too_long, not_json, not_an_entry, not_an_edit}
use Rattle.lens_syntax.specs.Programs.{ProgramCause, too_long, not_a_program, unknown_name, repeated_name}
use Rattle.lens_types.specs.Checking.{Failure, middle_differs, repeated_field, repeated_tag, repeated_member}
use Rattle.lens_types.specs.Checking.{not_a_member, too_large, too_deep}
use Rattle.program_writing.specs.Canonical.{canonical_name, canonical_type}

-- why a primitive does not apply
abbrev pub cause_text : Cause → List ℕ
cause_text Kind = codes "kind"
cause_text Place = codes "place"
cause_text Tag = codes "tag"
cause_text Range = codes "range"
cause_text Overflow = codes "overflow"
cause_text Value = codes "value"
cause_text Present = codes "present"
cause_text Length = codes "length"
cause_text Deep = codes "deep"

-- why a line of a journal is not a change
abbrev pub fault_text : LineFault → List ℕ
fault_text line_too_long = codes "line-too-long"
fault_text not_json = codes "not-json"
fault_text not_an_entry = codes "not-an-entry"
fault_text not_an_edit = codes "not-an-edit"

-- why a text is not a program, with the offset of the unexpected token or of the name
abbrev pub syntax_reason : ProgramCause → List ℕ
syntax_reason too_long = codes "program-too-long"
syntax_reason (not_a_program at) = codes "not-a-program " ++ decimal at
syntax_reason (unknown_name at) = codes "unknown-name " ++ decimal at
syntax_reason (repeated_name at) = codes "repeated-name " ++ decimal at

-- why a program has no type: types in canonical text, and a name or a member as a field is written there
abbrev pub typing_reason : Failure → List ℕ
typing_reason (middle_differs left right) =
    codes "middle-differs " ++ canonical_type left ++ codes " " ++ canonical_type right
typing_reason (repeated_field name) = codes "repeated-field " ++ canonical_name name
typing_reason (repeated_tag name) = codes "repeated-tag " ++ canonical_name name
typing_reason (repeated_member name) = codes "repeated-member " ++ canonical_name name
typing_reason (not_a_member name) = codes "not-a-member " ++ canonical_name name
typing_reason too_large = codes "too-large"
typing_reason too_deep = codes "too-deep"

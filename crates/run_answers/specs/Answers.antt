-- What is written for a run: an answer line for each item, and the state lines at its end.
-- Read it from the end: `text_from`, `state_lines`, `answer_lines`, then `answer_line`.
use Rattle.std.specs.Prelude.{ℕ, ◌+◌, List, [], ◌∷◌, ◌++◌, codes}
use Rattle.lens_forms.specs.Forms.{FormTree, left_type, right_type}
use Rattle.value_json.specs.DocumentJson.{tree_of_document}
use Rattle.complement_file.specs.ComplementJson.{tree_of_complement}
use Rattle.edit_session.specs.Step.{TripleTree}
use Rattle.edit_session.specs.Run.{carried, no_apply, group_carried, group_no_apply, no_entry, last}
use Rattle.answer_text.specs.Lines.{ok_line, no_apply_line, group_line, group_refused_line, fault_line, tree_line}
use Rattle.run_answers.specs.ItemRuns.{JournalAnswer}

-- The answer to the item with this number: `ok N SIDE WORD` or `refused N no-apply AT CAUSE` to an entry,
-- `ok N group LIST` or `refused N group PART no-apply AT CAUSE` to a group, and `refused N FAULT` to a line that is not
-- a change.
abbrev pub answer_line : ℕ → JournalAnswer → List ℕ
answer_line n (carried side w) = ok_line n side w
answer_line n (no_apply at cause) = no_apply_line n at cause
answer_line n (group_carried words) = group_line n words
answer_line n (group_no_apply part at cause) = group_refused_line n part at cause
answer_line n (no_entry fault) = fault_line n fault

-- the answers in order, numbered on from this number
abbrev pub answer_lines : ℕ → List (TripleTree × JournalAnswer) → List ℕ
answer_lines n [] = []
answer_lines n (s ∷ steps) = answer_line n s.1 ++ answer_lines (n + 1) steps

-- `left JSON`, `right JSON` and `complement JSON`
abbrev pub state_lines : FormTree → TripleTree → List ℕ
state_lines form t =
    tree_line (codes "left") (tree_of_document (left_type form) t.left)
    ++ tree_line (codes "right") (tree_of_document (right_type form) t.right)
    ++ tree_line (codes "complement") (tree_of_complement form t.comp)

-- the answer lines of the steps of a run from this triple on, then the state lines of its last triple
abbrev pub text_from : FormTree → TripleTree → List (TripleTree × JournalAnswer) → List ℕ
text_from form t steps = answer_lines 1 steps ++ state_lines form (last t steps)

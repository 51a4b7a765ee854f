-- The answer to each item of a hub's journal, and its line. Read it from the end: `hub_answer_line`, then the lines.
use Rattle.std.specs.Prelude.{ℕ, List, [], ◌∷◌, ◌++◌, Bool, true, false, codes, decimal}
use Rattle.serde_json.specs.Data.{Data, array, Items, no_items, item}
use Rattle.serde_json.specs.Written.{compact_text}
use Rattle.edit_module.specs.Words.{WordTree}
use Rattle.edit_module.specs.declared.fault.Cause.{Cause}
use Rattle.edit_json.specs.WordJson.{tree_of_word}
use Rattle.edit_journal.specs.EntryJson.{LineFault}
use Rattle.answer_text.specs.Lines.{no_apply_line, fault_line}
use Rattle.view_hub.specs.Hubs.{CarriedTree}

-- the words that acted; there is no such view; the word does not act on the edited document; the line is not an edit
pub data HubAnswerTree : Type 0 where
  carried : CarriedTree → HubAnswerTree
  no_view : HubAnswerTree
  no_apply : ℕ → Cause → HubAnswerTree
  no_edit : LineFault → HubAnswerTree

abbrev pub is_refused_by_hub : HubAnswerTree → Bool
is_refused_by_hub (carried words) = false
is_refused_by_hub _ = true

-- the array of the trees of words
abbrev pub items_of_words : List WordTree → Items
items_of_words [] = no_items
items_of_words (w ∷ ws) = item (tree_of_word w) (items_of_words ws)

abbrev pub tree_of_words : List WordTree → Data
tree_of_words ws = array (items_of_words ws)

-- `ok N HUBWORD LIST`: the edit was accepted; LIST is the array of the views' words
abbrev pub hub_ok_line : ℕ → CarriedTree → List ℕ
hub_ok_line number words =
    codes "ok " ++ decimal number ++ codes " " ++ compact_text (tree_of_word words.hub) ++ codes " "
    ++ compact_text (tree_of_words words.views) ++ codes "\n"

-- `refused N no-view`: the edit names no view
abbrev pub no_view_line : ℕ → List ℕ
no_view_line number = codes "refused " ++ decimal number ++ codes " no-view\n"

-- The answer to the item with this number: `ok N HUBWORD LIST`, `refused N no-view`, `refused N no-apply AT CAUSE`, or
-- `refused N FAULT` to a line that is not an edit.
abbrev pub hub_answer_line : ℕ → HubAnswerTree → List ℕ
hub_answer_line n (carried words) = hub_ok_line n words
hub_answer_line n no_view = no_view_line n
hub_answer_line n (no_apply at cause) = no_apply_line n at cause
hub_answer_line n (no_edit fault) = fault_line n fault

-- The answer of a stored hub to a line of its journal. Read it from the end: `stored_hub_answer`, then the lines.
use Rattle.std.specs.Prelude.{ℕ, List, [], ◌∷◌, ◌++◌, Option, Some, None, option_map, Result, Ok, Err, codes, decimal}
use Rattle.serde_json.specs.Data.{Data, array, object, Items, no_items, item, no_members, member}
use Rattle.serde_json.specs.Written.{compact_text}
use Rattle.edit_json.specs.WordJson.{tree_of_word}
use Rattle.edit_journal.specs.EntryJson.{LineFault}
use Rattle.edit_journal.specs.declared.line.Line.{Line}
use Rattle.edit_module.specs.Words.{WordTree}
use Rattle.answer_text.specs.Lines.{no_apply_line, group_refused_line, fault_line}
use Rattle.view_hub.specs.Groups.{GroupStepped, step_group}
use Rattle.view_hub.specs.Hubs.{HubTree, CarriedTree, Place, ViewRefusal, no_view, no_apply, hub_step}
use Rattle.hub_run.specs.Answers.{tree_of_words, hub_ok_line, no_view_line}
use Rattle.hub_run.specs.FormLenses.{form_lens}
use Rattle.hub_run.specs.Runs.{HubState}
use Rattle.store_run.specs.declared.session.StoredAnswer.{StoredAnswer}
use Rattle.hub_records.specs.HubChanges.{HubChangeTree, one, group, tree_of_hub_change, hub_change_of_line}

-- ---- the lines of a group

-- the words that acted in an edit of a group: the hub's, and those of the views
abbrev pub tree_of_carried : CarriedTree → Data
tree_of_carried c =
    object (member (codes "hub") (tree_of_word c.hub) (member (codes "views") (tree_of_words c.views) no_members))

abbrev pub items_of_carried : List CarriedTree → Items
items_of_carried [] = no_items
items_of_carried (c ∷ cs) = item (tree_of_carried c) (items_of_carried cs)

-- `ok N group LIST`: the group was accepted; LIST has an object for each edit, with the words that acted
abbrev pub group_ok_line : ℕ → List CarriedTree → List ℕ
group_ok_line n cs = codes "ok " ++ decimal n ++ codes " group " ++ compact_text (array (items_of_carried cs))
    ++ codes "\n"

-- `refused N group PART no-view`: edit PART of the group, from 0, is the first that is refused, and names no view
abbrev pub group_no_view_line : ℕ → ℕ → List ℕ
group_no_view_line n part = codes "refused " ++ decimal n ++ codes " group " ++ decimal part ++ codes " no-view\n"

-- the line of a group that is refused at this edit
abbrev pub refused_hub_part_line : ℕ → ℕ → ViewRefusal → List ℕ
refused_hub_part_line n part (no_view views) = group_no_view_line n part
refused_hub_part_line n part (no_apply at cause) = group_refused_line n part at cause

-- the line of an edit that is refused
abbrev pub refused_edit_line : ℕ → ViewRefusal → List ℕ
refused_edit_line n (no_view views) = no_view_line n
refused_edit_line n (no_apply at cause) = no_apply_line n at cause

-- ---- the answers

-- the payload of a change
abbrev pub hub_change_text : HubChangeTree → List ℕ
hub_change_text change = compact_text (tree_of_hub_change change)

-- an item was refused with this line: the state stays, and there is no payload
abbrev pub refused_with : HubState → List ℕ → HubState × StoredAnswer
refused_with s line = (s, record { line = line; payload = None })

-- a change was accepted with this line: its payload is stored
abbrev pub accepted_with : HubState → HubTree → HubChangeTree → List ℕ → HubState × StoredAnswer
accepted_with s h change line =
    (record { forms = s.forms; hub = h }, record { line = line; payload = Some (hub_change_text change) })

-- the answer to an edit, and to a group
abbrev pub edit_answered : HubState → ℕ → Place × WordTree → Result (HubTree × CarriedTree) ViewRefusal → HubState
    × StoredAnswer
edit_answered s n e (Ok r) = accepted_with s r.0 (one e) (hub_ok_line n r.1)
edit_answered s n e (Err why) = refused_with s (refused_edit_line n why)

abbrev pub hub_group_answered : HubState → ℕ → List (Place × WordTree) → GroupStepped → HubState × StoredAnswer
hub_group_answered s n es (Ok r) = accepted_with s r.0 (group es) (group_ok_line n r.1)
hub_group_answered s n es (Err why) = refused_with s (refused_hub_part_line n why.0 why.1)

-- an item is a change, or the fault of a line that is not one
abbrev pub HubJournalItem : Type 0
HubJournalItem = Result HubChangeTree LineFault

-- what the item with this number makes of a state: the next state, and the answer
abbrev pub hub_answer_item : HubState → ℕ → HubJournalItem → Option (HubState × StoredAnswer)
hub_answer_item s n (Ok (one e)) = option_map (edit_answered s n e) (hub_step form_lens s.forms s.hub e)
hub_answer_item s n (Ok (group es)) = option_map (hub_group_answered s n es) (step_group form_lens s.forms s.hub es)
hub_answer_item s n (Err fault) = Some (refused_with s (fault_line n fault))

-- the same of the line with this number
abbrev pub stored_hub_answer : HubState → ℕ → Line → Option (HubState × StoredAnswer)
stored_hub_answer s n line = hub_answer_item s n (hub_change_of_line line)

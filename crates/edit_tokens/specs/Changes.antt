-- What trees are read as, without the causes for which others are refused.
use Rattle.std.specs.Prelude.{List, Option, option_and_then}
use Rattle.std.specs.Result.{result_ok}
use Rattle.serde_json.specs.Data.{Data, Items}
use Rattle.serde_json.specs.Find.{as_str}
use Rattle.texts.specs.declared.side.Side.{Side}
use Rattle.edit_module.specs.Words.{WordTree}
use Rattle.edit_module.specs.Changes.{ChangeTree}
use Rattle.edit_journal.specs.EntryJson.{side_of, entry_of_tree, entries_of_items, change_of_tree}

-- the side whose name a tree is
abbrev pub side_in : Data → Option Side
side_in d = option_and_then side_of (as_str d)

-- the entry that a tree is, the entries that items are, and the change that a tree is
abbrev pub entry_in : Data → Option (Side × WordTree)
entry_in d = result_ok (entry_of_tree d)

abbrev pub entries_in : Items → Option (List (Side × WordTree))
entries_in ds = result_ok (entries_of_items ds)

abbrev pub change_in : Data → Option ChangeTree
change_in d = result_ok (change_of_tree d)

-- How contracts see two words.
use Rattle.std.specs.Prelude.{List, map}
use Rattle.edit_module.specs.Changes.{ChangeTree}
use Rattle.edit_module.specs.Views.{word_tree, change_tree}
use Rattle.edit_module.specs.declared.change.Change.{Change}
use Rattle.edit_undo.specs.Undone.{BothTrees}
use Rattle.edit_undo.specs.declared.both.BothWords.{BothWords}

-- the trees of two words
abbrev pub both_tree : BothWords → BothTrees
both_tree b = record { left = word_tree b.left; right = word_tree b.right }

abbrev pub both_trees : List BothWords → List BothTrees
both_trees bs = map both_tree bs

-- the trees of changes, in order
abbrev pub change_trees : List Change → List ChangeTree
change_trees cs = map change_tree cs

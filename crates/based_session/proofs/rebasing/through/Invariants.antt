use Rattle.std.proofs.Common.{◌≡◌, map, drop}
use Rattle.doc_values.specs.Types.{ty_tree}
use Rattle.edit_module.specs.Views.{word_tree}
use Rattle.law_rebase.specs.Through.{carried_through}
use Rattle.based_session.specs.Bases.{bridges_on}
use Rattle.based_session.specs.KeptViews.{kept_tree}
use Rattle.based_session.proofs.rebasing.through.Given as goal

-- the word so far goes through the bridges that are left as the first word goes through all
abbrev pub invariant-loop-i : goal.invariant-loop-i
invariant-loop-i l =
    carried_through (ty_tree l.ty) (bridges_on l.side (drop l.i (map kept_tree l.kept))) (word_tree l.current)
    ≡ carried_through (ty_tree l.ty) (bridges_on l.side (drop l.from (map kept_tree l.kept))) (word_tree l.word)

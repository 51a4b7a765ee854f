-- The law of words between documents.
use Rattle.std.specs.Prelude.{◌≡◌, true, Ok}
use Rattle.doc_values.specs.Documents.{DocTree}
use Rattle.doc_values.specs.Types.{TyTree, is_well_formed}
use Rattle.doc_values.specs.Typing.{has}
use Rattle.edit_module.specs.Action.{act}
use Rattle.edit_between.specs.Between.{between}

-- the word between two documents of a type takes the first to the second
abbrev pub BetweenLeads : Type 0
BetweenLeads = (t : TyTree) (v u : DocTree) → is_well_formed t ≡ true → has t v ≡ true → has t u ≡ true
    → act t (between t v u) v ≡ Ok u

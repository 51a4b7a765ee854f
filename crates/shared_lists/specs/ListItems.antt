-- The items of a list.
use Rattle.std.specs.Prelude.{List, []}
use Rattle.std.specs.declared.option.Option.{Option}
use Rattle.std.specs.declared.option.Option.TheVariants.{None, Some}
use Rattle.shared_lists.specs.declared.root.Root.{Root}

abbrev pub list_items : {T : Type 0} → Option (Root T) → List T
list_items None = []
list_items (Some root) = root.owner.value

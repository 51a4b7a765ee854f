-- The items of a layout, in order.
use Rattle.std.specs.Prelude.{List, []}
use Rattle.std.specs.declared.option.Option.{Option}
use Rattle.std.specs.declared.option.Option.TheVariants.{None, Some}
use Rattle.doc_values.specs.declared.layout.Layout.{Layout}
use Rattle.doc_values.specs.declared.layout.Layout.TheVariants as of_layout

abbrev pub items_in : {T : Type 0} → Layout T → List T
items_in (of_layout.Block items) = items.value.items
items_in (of_layout.List items) = items

-- what an iterator has left of a list, if it goes over one
abbrev pub left_of : {T : Type 0} → Option (List T) → List T
left_of None = []
left_of (Some items) = items

-- What the words of the command line name, the program's name first. The words of each command are defined in
-- command_words.
use Rattle.std.specs.Prelude.{ℕ, List, [], ◌∷◌, ◌++◌, Bool, true, false, Option, Some, String, map, string_bytes, codes}
use Rattle.std.specs.declared.alloc.Global.{Global}
use Rattle.command_words.specs.Orders.{order_of}
use Rattle.command_words.specs.declared.orders.Order.{Order}
use Rattle.command_words.specs.declared.orders.Order.TheVariants as order

-- the order that the words give
abbrev pub order_named : List (String Global) → Option Order
order_named words = order_of (map string_bytes words)

-- whether a command reads the source; words that name none do not
abbrev pub reads_source : Option Order → Bool
reads_source (Some order.Run) = true
reads_source (Some order.Check) = true
reads_source (Some order.Init) = true
reads_source (Some order.Import) = true
reads_source (Some order.Apply) = true
reads_source (Some order.Hub) = true
reads_source (Some order.Link) = true
reads_source other = false

-- whether a command calls the disk; words that name none do not
abbrev pub uses_disk : Option Order → Bool
uses_disk (Some order.Init) = true
uses_disk (Some order.Import) = true
uses_disk (Some order.Apply) = true
uses_disk (Some order.Show) = true
uses_disk (Some order.Verify) = true
uses_disk (Some order.Pack) = true
uses_disk (Some (order.Undo count)) = true
uses_disk other = false

-- the line that is written if the words name no command
abbrev pub usage_line : List ℕ
usage_line = codes "usage: editlens run|check|init|apply|show|verify|pack|gen N SEED|hub|link|undo K|import" ++ 10 ∷ []

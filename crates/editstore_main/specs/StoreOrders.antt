-- The command that the words name. A word is its bytes, and the program's name is the first word. Read it from the end:
-- `store_usage_line`, `store_order_named`, then `store_order_of`, with a line for each number of words.
use Rattle.std.specs.Prelude.{ℕ, ◌<◌, List, [], ◌∷◌, ◌++◌, Option, Some, None, String, codes, map, nat_lt}
use Rattle.std.specs.Prelude.{if◌then◌else◌, bytes_eq, option_and_then, option_map, string_bytes}
use Rattle.std.specs.declared.alloc.Global.{Global}
use Rattle.command_words.specs.Orders.{number_of}
use Rattle.editstore_main.specs.declared.words.StoreKind.{StoreKind}
use Rattle.editstore_main.specs.declared.words.StoreKind.TheVariants.{Pair, Hub}
use Rattle.editstore_main.specs.declared.words.StoreOrder.{StoreOrder}
use Rattle.editstore_main.specs.declared.words.Upkeep.{Upkeep}
use Rattle.editstore_main.specs.declared.words.Upkeep.TheVariants.{Compact, Copy, Back}

-- records are counted from 1
abbrev pub IsNumbered : Upkeep → Type 0
IsNumbered Compact = Unit {0}
IsNumbered Copy = Unit {0}
IsNumbered (Back number) = 0 < number

-- the number of a record
abbrev pub back_number : List ℕ → Option ℕ
back_number word = option_and_then (λ n. if nat_lt 0 n then Some n else None) (number_of word)

-- what is written as one word
abbrev pub plain_upkeep : List ℕ → Option Upkeep
plain_upkeep word =
    if bytes_eq word (codes "compact") then Some Compact
    else (if bytes_eq word (codes "copy") then Some Copy else None)

-- `back` with its number
abbrev pub back_upkeep : List ℕ → List ℕ → Option Upkeep
back_upkeep word number =
    if bytes_eq word (codes "back") then option_map (λ n. Back n) (back_number number) else None

-- the command for a store of this kind
abbrev pub of_kind : StoreKind → Option Upkeep → Option StoreOrder
of_kind kind None = None
of_kind kind (Some upkeep) = Some (record { kind = kind; upkeep = upkeep })

-- `hub` and one word, or `back` with its number
abbrev pub two_words : List ℕ → List ℕ → Option StoreOrder
two_words first second =
    if bytes_eq first (codes "hub") then of_kind Hub (plain_upkeep second) else of_kind Pair (back_upkeep first second)

-- `hub`, and `back` with its number
abbrev pub three_words : List ℕ → List ℕ → List ℕ → Option StoreOrder
three_words first second third =
    if bytes_eq first (codes "hub") then of_kind Hub (back_upkeep second third) else None

-- any name, then the words of a command, and no more words
abbrev pub store_order_of : List (List ℕ) → Option StoreOrder
store_order_of [] = None
store_order_of (name ∷ []) = None
store_order_of (name ∷ word ∷ []) = of_kind Pair (plain_upkeep word)
store_order_of (name ∷ first ∷ second ∷ []) = two_words first second
store_order_of (name ∷ first ∷ second ∷ third ∷ []) = three_words first second third
store_order_of (name ∷ first ∷ second ∷ third ∷ more ∷ words) = None

-- the command that the words give
abbrev pub store_order_named : List (String Global) → Option StoreOrder
store_order_named words = store_order_of (map string_bytes words)

-- the line that is written if the words name no command
abbrev pub store_usage_line : List ℕ
store_usage_line = codes "usage: editstore [hub] compact|copy|back N" ++ 10 ∷ []

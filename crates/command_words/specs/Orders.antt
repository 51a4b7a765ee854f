-- The command that the words name. A word is its bytes, and the program's name is the first word.
-- Read it from the end: `HasFewEntries` is the bound on `gen` and `undo`, `only_reads` tells the commands apart, and
-- `order_of` has a line for each number of words.
use Rattle.std.specs.Prelude.{ℕ, ◌≤◌, ◌+◌, ◌-◌, ◌*◌, ◌^◌, List, [], ◌∷◌, Bool, true, false, ◌&&◌, nat_lt, nat_le}
use Rattle.std.specs.Prelude.{length, Option, Some, None, codes, if◌then◌else◌, bytes_eq, option_map, option_and_then}
use Rattle.std.specs.List.{list_all}
use Rattle.std.specs.Char.{is_ascii_digit}
use Rattle.command_words.specs.declared.orders.Order.{Order}
use Rattle.command_words.specs.declared.orders.Order.TheVariants.{Run, Check, Init, Apply, Show, Verify, Pack, Gen, Hub}
use Rattle.command_words.specs.declared.orders.Order.TheVariants.{Link, Undo, Import}

-- the number whose digits are those of n and then these
abbrev pub decimal_after : ℕ → List ℕ → ℕ
decimal_after n [] = n
decimal_after n (c ∷ cs) = decimal_after (10 * n + (c - 48)) cs

-- one to twenty ASCII digits, of a number below 2 ^ 64
abbrev pub number_of : List ℕ → Option ℕ
number_of word =
    if list_all is_ascii_digit word && (nat_lt 0 (length word) &&
    (nat_le (length word) 20 && nat_lt (decimal_after 0 word) (2 ^ 64))) then Some (decimal_after 0 word) else None

-- such a number from 1 to 10,000
abbrev pub count_of_word : List ℕ → Option ℕ
count_of_word word = option_and_then (λ n. if nat_lt 0 n && nat_le n 10000 then Some n else None) (number_of word)

-- `gen` with its two numbers
abbrev pub gen_order : List ℕ → List ℕ → Option Order
gen_order count seed = option_and_then (λ n. option_map (λ s. Gen n s) (number_of seed)) (count_of_word count)

-- `undo` with its number
abbrev pub undo_order : List ℕ → Option Order
undo_order count = option_map (λ n. Undo n) (count_of_word count)

-- a command of one word over a store
abbrev pub store_order : List ℕ → Option Order
store_order word =
    if bytes_eq word (codes "init") then Some Init
    else (if bytes_eq word (codes "apply") then Some Apply
    else (if bytes_eq word (codes "show") then Some Show
    else (if bytes_eq word (codes "verify") then Some Verify
    else (if bytes_eq word (codes "pack") then Some Pack
    else (if bytes_eq word (codes "import") then Some Import else None)))))

-- a command that is one word
abbrev pub plain_order : List ℕ → Option Order
plain_order word =
    if bytes_eq word (codes "run") then Some Run
    else (if bytes_eq word (codes "check") then Some Check
    else (if bytes_eq word (codes "hub") then Some Hub
    else (if bytes_eq word (codes "link") then Some Link else store_order word)))

-- any name, then a command of one word, or `undo` with a number, or `gen` with two numbers, and no more words
abbrev pub order_of : List (List ℕ) → Option Order
order_of [] = None
order_of (name ∷ []) = None
order_of (name ∷ word ∷ []) = plain_order word
order_of (name ∷ word ∷ first ∷ []) = if bytes_eq word (codes "undo") then undo_order first else None
order_of (name ∷ word ∷ first ∷ second ∷ []) = if bytes_eq word (codes "gen") then gen_order first second else None
order_of (name ∷ word ∷ first ∷ second ∷ third ∷ words) = None

-- whether a command only reads the store; words that name none do not
abbrev pub only_reads : Option Order → Bool
only_reads (Some Show) = true
only_reads (Some Verify) = true
only_reads other = false

-- a generated run has from 1 to 10,000 entries, and `undo` takes back from 1 to 10,000 changes
abbrev pub HasFewEntries : Order → Type 0
HasFewEntries (Gen count seed) = (1 ≤ count) × (count ≤ 10000)
HasFewEntries (Undo count) = (1 ≤ count) × (count ≤ 10000)
HasFewEntries order = Unit {0}

-- The command of what clap found in the words. The main definition is `order_of_match`.
use Rattle.std.specs.Prelude.{ℕ, ◌==◌, List, [], ◌∷◌, Bool, false, Option, Some, None, codes, if◌then◌else◌, bytes_eq}
use Rattle.std.specs.Prelude.{option_and_then}
use Rattle.clap.specs.Walk.{Row, first_of}
use Rattle.command_words.specs.Orders.{plain_order, undo_order, gen_order}
use Rattle.command_words.specs.declared.orders.Order.{Order}

-- `gen` with the values of its two arguments, if both have one
abbrev pub gen_of_values : Option (List ℕ) → Option (List ℕ) → Option Order
gen_of_values count seed = option_and_then (λ c. option_and_then (gen_order c) seed) count

-- `undo` with the value of its argument, if it has one
abbrev pub undo_of_value : Option (List ℕ) → Option Order
undo_of_value count = option_and_then undo_order count

-- the command of a subcommand with this name and these arguments, among this many words
abbrev pub order_of_rows : ℕ → List ℕ → List Row → Option Order
order_of_rows words name rows =
    if words == 2 then plain_order name
    else (
    if words == 3 then (if bytes_eq name (codes "undo") then undo_of_value (first_of (codes "count") rows) else None)
    else (if bytes_eq name (codes "gen") then gen_of_values (first_of (codes "count") rows)
    (first_of (codes "seed") rows) else None)
    )

-- the command of the subcommand that clap found with its arguments; `words` is the number of words, and `word` the
-- second of them
abbrev pub order_of_match : ℕ → List ℕ → Option (List ℕ × List Row) → Option Order
order_of_match words word None = None
order_of_match words word (Some found) = if bytes_eq found.0 word then order_of_rows words found.0 found.1 else None

-- the first byte is a hyphen
abbrev pub begins_with_hyphen : List ℕ → Bool
begins_with_hyphen [] = false
begins_with_hyphen (c ∷ cs) = c == 45

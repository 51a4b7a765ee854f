-- The command that the words name, and which devices it uses. A word is its bytes, and the program's name is the first
-- word. Read it from the end: `hub_usage_line`, `hub_uses_disk`, `hub_reads_source`, `hub_order_named`, then
-- `hub_order_of`.
use Rattle.std.specs.Prelude.{ℕ, List, [], ◌∷◌, ◌++◌, Bool, true, false, Option, Some, None, String, codes, map}
use Rattle.std.specs.Prelude.{if◌then◌else◌, bytes_eq, option_map, string_bytes}
use Rattle.std.specs.declared.alloc.Global.{Global}
use Rattle.command_words.specs.Orders.{count_of_word}
use Rattle.edithub_main.specs.declared.words.HubOrder.{HubOrder}
use Rattle.edithub_main.specs.declared.words.HubOrder.TheVariants.{Init, Apply, Show, Verify, Pack, Undo, Add}

-- a command that is one word
abbrev pub plain_hub_order : List ℕ → Option HubOrder
plain_hub_order word =
    if bytes_eq word (codes "init") then Some Init
    else (if bytes_eq word (codes "apply") then Some Apply
    else (if bytes_eq word (codes "show") then Some Show
    else (if bytes_eq word (codes "verify") then Some Verify
    else (if bytes_eq word (codes "pack") then Some Pack
    else (if bytes_eq word (codes "add") then Some Add else None)))))

-- `undo` with its number
abbrev pub undo_hub_order : List ℕ → List ℕ → Option HubOrder
undo_hub_order word count =
    if bytes_eq word (codes "undo") then option_map (λ n. Undo n) (count_of_word count) else None

-- any name, then a command of one word, or `undo` with a number, and no more words
abbrev pub hub_order_of : List (List ℕ) → Option HubOrder
hub_order_of [] = None
hub_order_of (name ∷ []) = None
hub_order_of (name ∷ word ∷ []) = plain_hub_order word
hub_order_of (name ∷ word ∷ count ∷ []) = undo_hub_order word count
hub_order_of (name ∷ word ∷ count ∷ more ∷ words) = None

-- the order that the words give
abbrev pub hub_order_named : List (String Global) → Option HubOrder
hub_order_named words = hub_order_of (map string_bytes words)

-- whether a command only reads the store; words that name none do not
abbrev pub hub_only_reads : Option HubOrder → Bool
hub_only_reads (Some Show) = true
hub_only_reads (Some Verify) = true
hub_only_reads other = false

-- whether a command reads the source; words that name none do not
abbrev pub hub_reads_source : Option HubOrder → Bool
hub_reads_source (Some Init) = true
hub_reads_source (Some Apply) = true
hub_reads_source (Some Add) = true
hub_reads_source other = false

-- whether a command calls the disk: each does
abbrev pub hub_uses_disk : Option HubOrder → Bool
hub_uses_disk (Some order) = true
hub_uses_disk None = false

-- the line that is written if the words name no command
abbrev pub hub_usage_line : List ℕ
hub_usage_line = codes "usage: edithub init|apply|show|verify|pack|undo K|add" ++ 10 ∷ []

-- The items of a group as loops go over them.
use Rattle.std.proofs.Common.{◌≡◌, ℕ, suc, ◌+◌, add-one, ◌<◌, ◌≤◌, true, ◌&&◌, List, ◌∷◌, ◌++◌, drop, drop-cons, length, get_or, Result, Ok, Err, sym, ap, ◌∙◌}
use Rattle.std.proofs.lemmas.List.{drop_all}
use Rattle.json.specs.Token.{Token}
use Rattle.json.specs.Tree.{items_tokens}
use Rattle.serde_json.specs.Written.{items_outline}
use Rattle.texts.specs.declared.side.Side.{Side}
use Rattle.edit_module.specs.declared.entry.Entry.{Entry}
use Rattle.edit_module.specs.declared.word.Word.{Word}
use Rattle.edit_module.specs.Words.{WordTree}
use Rattle.edit_module.specs.Changes.{carried_to}
use Rattle.edit_module.specs.Views.{word_tree, word_trees, entry_trees}
use Rattle.edit_json.specs.WordJson.{numbers_fit}
use Rattle.edit_journal.specs.EntryJson.{LineFault, items_of_entries, entries_numbers_fit}

-- ---- reading

-- these entries, and behind them the others
abbrev pub behind : List (Side × WordTree) → Result (List (Side × WordTree)) LineFault → Result (List (Side × WordTree)) LineFault
behind es (Ok others) = Ok (es ++ others)
behind es (Err fault) = Err fault

-- ---- writing a group

-- the tokens of the entries from a place of a group on, with what ends the array
abbrev pub entries_from : List Entry → ℕ → List Token
entries_from es i = items_tokens (items_outline (items_of_entries (entry_trees (drop i es))))

pub next_entry_fits : (es : List Entry) (i : ℕ) (e : Entry) → i < length es → e ≡ get_or es i e → numbers_fit (word_tree e.word) ≡ true
    → entries_numbers_fit (entry_trees (drop i es)) ≡ entries_numbers_fit (entry_trees (drop (i + 1) es))
next_entry_fits es i e within is h =
    let left : drop i es ≡ e ∷ drop (i + 1) es = rw (add-one, drop-cons es i e within) (ap (λ (x : Entry). x ∷ drop (suc i) es) (sym is)) in
    ap (λ xs. entries_numbers_fit (entry_trees xs)) left ∙ ap (λ b. b && entries_numbers_fit (entry_trees (drop (i + 1) es))) h

pub all_entries_fit : (es : List Entry) (i : ℕ) → length es ≤ i → entries_numbers_fit (entry_trees (drop i es)) ≡ true
all_entries_fit es i past = ap (λ xs. entries_numbers_fit (entry_trees xs)) (drop_all i es past)

pub ruleset entry_rules = (next_entry_fits, all_entries_fit)

-- ---- writing carried words

-- the tokens of the carried words from a place on, with what ends the array
abbrev pub carried_from : List Entry → List Word → ℕ → List Token
carried_from es ws i = items_tokens (items_outline (items_of_entries (carried_to (entry_trees (drop i es)) (word_trees (drop i ws)))))

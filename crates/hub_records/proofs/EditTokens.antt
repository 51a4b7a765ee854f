-- The edits of a group as the loop that writes them goes over them, and the text of a change, which is read back.
use Rattle.std.proofs.Common.{◌≡◌, ℕ, suc, ◌+◌, add-one, ◌<◌, ◌≤◌, Bool, true, ◌&&◌, List, [], ◌∷◌, drop, drop-cons, length, get_or, Some, codes, refl, sym, ap, ap₂, ◌∙◌}
use Rattle.std.specs.Prelude.{max}
use Rattle.std.proofs.lemmas.List.{drop_all}
use Rattle.json.specs.Token.{Token}
use Rattle.json.specs.Tree.{items_tokens}
use Rattle.serde_json.specs.Data.{Data, object, no_members, member, array, depth}
use Rattle.serde_json.specs.Read.{read, max_depth}
use Rattle.serde_json.specs.Written.{items_outline, compact_text}
use Rattle.texts.proofs.Conjunction.{first as left, second as right}
use Rattle.edit_module.specs.Words.{WordTree}
use Rattle.edit_module.specs.declared.word.Word.{Word}
use Rattle.edit_json.specs.WordJson.{tree_of_word, counts_fit, numbers_fit}
use Rattle.edit_json.proofs.TextsReadBack.{ReadsBack, ItemsReadBack, none_reads, item_reads, array_reads, one_reads, string_reads, count_reads, word_reads, text_of_tree}
use Rattle.view_hub.specs.Hubs.{Place, at_hub, at_view}
use Rattle.view_hub.specs.Views.{edit_tree, edit_trees}
use Rattle.view_hub.specs.declared.side.HubSide.{HubSide}
use Rattle.hub_run.specs.EditJson.{tree_of_hub_place, tree_of_edit, hub_place_fits}
use Rattle.hub_records.specs.HubChanges.{HubChangeTree, one, group, edits_of, items_of_edits, tree_of_hub_change, all_counts_fit, edit_fits, all_numbers_fit}

-- ---- the loop

-- the tokens of the edits from a place of a group on, with what ends the array
abbrev pub edits_from : List (HubSide × Word) → ℕ → List Token
edits_from es i = items_tokens (items_outline (items_of_edits (edit_trees (drop i es))))

-- what is left of some edits begins with the one at the index
left_edits : (es : List (HubSide × Word)) (i : ℕ) (e : HubSide × Word) → i < length es → e ≡ get_or es i e → drop i es ≡ e ∷ drop (i + 1) es
left_edits es i e within is = rw (add-one, drop-cons es i e within) (ap (λ y. y ∷ drop (suc i) es) (sym is))

fits_first : (p b : Bool) → p ≡ true → (p && b) ≡ b
fits_first p b h = rw h refl

pub next_edit_fits : (es : List (HubSide × Word)) (i : ℕ) (e : HubSide × Word) → i < length es → e ≡ get_or es i e → edit_fits (edit_tree e) ≡ true
    → all_numbers_fit (edit_trees (drop i es)) ≡ all_numbers_fit (edit_trees (drop (i + 1) es))
next_edit_fits es i e within is h = ap (λ xs. all_numbers_fit (edit_trees xs)) (left_edits es i e within is) ∙ fits_first _ _ h

pub all_edits_fit : (es : List (HubSide × Word)) (i : ℕ) → length es ≤ i → all_numbers_fit (edit_trees (drop i es)) ≡ true
all_edits_fit es i past = ap (λ xs. all_numbers_fit (edit_trees xs)) (drop_all i es past)

pub ruleset edit_rules = (next_edit_fits, all_edits_fit)

-- ---- what is read back

place_reads : (p : Place) → hub_place_fits p ≡ true → ReadsBack (tree_of_hub_place p)
place_reads at_hub h = string_reads (codes "hub")
place_reads (at_view k) h = count_reads k h

parts_read : (d e : Data) → ReadsBack d → ReadsBack e → ReadsBack (object (member (codes "at") d (member (codes "edit") e no_members)))
parts_read d e h k = record { same = rw (h.same, k.same) refl; numbers = (h.numbers, (k.numbers, tt)); level = ap₂ (λ n m. suc (max n (max m 0))) h.level k.level }

edit_reads : (e : Place × WordTree) → counts_fit e.1 ≡ true → edit_fits e ≡ true → ReadsBack (tree_of_edit e)
edit_reads e counts numbers =
    parts_read (tree_of_hub_place e.0) (tree_of_word e.1) (place_reads e.0 (left (hub_place_fits e.0) (numbers_fit e.1) numbers))
    (word_reads e.1 counts (right (hub_place_fits e.0) (numbers_fit e.1) numbers))

edits_read : (es : List (Place × WordTree)) → all_counts_fit es ≡ true → all_numbers_fit es ≡ true → ItemsReadBack (items_of_edits es)
edits_read [] counts numbers = none_reads
edits_read (e ∷ es) counts numbers =
    item_reads (tree_of_edit e) (items_of_edits es) (edit_reads e (left (counts_fit e.1) (all_counts_fit es) counts) (left (edit_fits e) (all_numbers_fit es) numbers))
    (edits_read es (right (counts_fit e.1) (all_counts_fit es) counts) (right (edit_fits e) (all_numbers_fit es) numbers))

change_reads : (change : HubChangeTree) → all_counts_fit (edits_of change) ≡ true → all_numbers_fit (edits_of change) ≡ true → ReadsBack (tree_of_hub_change change)
change_reads (one e) counts numbers = edit_reads e (left (counts_fit e.1) true counts) (left (edit_fits e) true numbers)
change_reads (group es) counts numbers = one_reads (codes "group") (array (items_of_edits es)) (array_reads (items_of_edits es) (edits_read es counts numbers))

pub text_of_change : (change : HubChangeTree) → all_counts_fit (edits_of change) ≡ true → all_numbers_fit (edits_of change) ≡ true → depth (tree_of_hub_change change) ≤ max_depth
    → read (compact_text (tree_of_hub_change change)) ≡ Some (tree_of_hub_change change)
text_of_change change counts numbers low = text_of_tree (tree_of_hub_change change) (change_reads change counts numbers) low

-- The lines of the words of views, as a loop writes them.
use Rattle.std.proofs.Common.{◌≡◌, ℕ, suc, ◌+◌, ◌<◌, ◌≤◌, add-one, List, [], ◌++◌, append_assoc, append-nil, length, drop, get_or, codes, decimal, sym, ap, ◌∙◌}
use Rattle.std.proofs.lemmas.List.{drop_all}
use Rattle.serde_json.specs.Written.{compact_text}
use Rattle.answer_text.specs.Lines.{tree_line}
use Rattle.edit_json.specs.WordJson.{tree_of_word}
use Rattle.edit_module.specs.Views.{word_tree, word_trees}
use Rattle.edit_module.specs.Words.{WordTree}
use Rattle.edit_module.specs.declared.word.Word.{Word}
use Rattle.hub_undo.specs.HubUndoing.{view_undo_lines}
use Rattle.hub_undo.proofs.OneEdit.{item_at}

-- a label with its space, and behind it the text of a word
pub line_of : (bytes label all : List ℕ) (word : WordTree) (name : List ℕ) → label ≡ name ++ codes " " → all ≡ bytes ++ (label ++ (compact_text (tree_of_word word) ++ codes "\n"))
    → all ≡ bytes ++ tree_line name (tree_of_word word)
line_of bytes label all word name is made =
    made ∙ ap (λ l. bytes ++ (l ++ (compact_text (tree_of_word word) ++ codes "\n"))) is
    ∙ ap (λ l. bytes ++ l) (sym (append_assoc (name ++ codes " ") (compact_text (tree_of_word word)) (codes "\n")))

-- the line of the view with a number
abbrev view_line : ℕ → WordTree → List ℕ
view_line n w = tree_line (codes "undo view " ++ decimal n) (tree_of_word w)

pub next_line : (ws : List Word) (n : ℕ) (w : Word) (all more : List ℕ) → n < length ws → w ≡ get_or ws n w → more ≡ all ++ view_line n (word_tree w)
    → more ++ view_undo_lines (n + 1) (word_trees (drop (n + 1) ws)) ≡ all ++ view_undo_lines n (word_trees (drop n ws))
next_line ws n w all more within is made =
    rw (add-one n)
    (ap (λ l. l ++ view_undo_lines (suc n) (word_trees (drop (suc n) ws))) made
    ∙ append_assoc all (view_line n (word_tree w)) (view_undo_lines (suc n) (word_trees (drop (suc n) ws)))
    ∙ ap (λ k. all ++ (view_line n (word_tree w) ++ view_undo_lines k (word_trees (drop (suc n) ws)))) (sym (add-one n))
    ∙ ap (λ xs. all ++ view_undo_lines n (word_trees xs)) (sym (item_at ws n w within is)))

pub last_line : (ws : List Word) (n : ℕ) (all : List ℕ) → length ws ≤ n → all ++ view_undo_lines n (word_trees (drop n ws)) ≡ all
last_line ws n all past = ap (λ xs. all ++ view_undo_lines n (word_trees xs)) (drop_all n ws past) ∙ append-nil all

-- ---- all lines

-- the line of the hub's word, the lines of the views, and the state lines
pub whole_text : (none first text more state : List ℕ) (hub : Word) (views : List Word) → none ≡ [] → first ≡ none ++ tree_line (codes "undo hub") (tree_of_word (word_tree hub))
    → text ≡ first ++ view_undo_lines 0 (word_trees views) → more ≡ text ++ state → (lines : List ℕ) → lines ≡ more → (wanted : List ℕ) → state ≡ wanted
    → lines ≡ (tree_line (codes "undo hub") (tree_of_word (word_tree hub)) ++ view_undo_lines 0 (word_trees views)) ++ wanted
whole_text none first text more state hub views empty is_first is_text is_more lines is wanted same =
    let line = tree_line (codes "undo hub") (tree_of_word (word_tree hub)) in
    let start : first ≡ line = is_first ∙ ap (λ l. l ++ line) empty in
    is ∙ is_more ∙ ap (λ l. l ++ state) (is_text ∙ ap (λ l. l ++ view_undo_lines 0 (word_trees views)) start)
    ∙ ap (λ l. (line ++ view_undo_lines 0 (word_trees views)) ++ l) same

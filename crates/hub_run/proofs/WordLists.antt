-- The text of the array of some words, as a loop over them makes it.
use Rattle.std.proofs.Common.{◌≡◌, ℕ, ◌+◌, ◌<◌, ◌≤◌, add-one, List, [], ◌∷◌, ◌++◌, Bool, true, false, length, drop, drop-cons, get_or, sym, ap, ap₂, ◌∙◌, append_assoc}
use Rattle.serde_json.specs.Written.{comma_if, compact_text, items_text}
use Rattle.edit_module.specs.Views.{word_tree, word_trees}
use Rattle.edit_module.specs.declared.word.Word.{Word}
use Rattle.edit_json.specs.WordJson.{tree_of_word}
use Rattle.std.proofs.lemmas.List.{drop_all}
use Rattle.hub_run.specs.Answers.{items_of_words}

-- the text of these words behind a word, or in front, and the bracket
abbrev pub words_text : Bool → List Word → List ℕ
words_text later ws = items_text later (items_of_words (word_trees ws))

pub words_begun : (line new : List ℕ) (ws : List Word) → new ≡ line ++ 91 ∷ [] → new ++ words_text false ws ≡ line ++ 91 ∷ words_text false ws
words_begun line new ws is = ap (λ x. x ++ words_text false ws) is ∙ append_assoc line (91 ∷ []) (words_text false ws)

pub words_next : (ws : List Word) (i : ℕ) (w : Word) (old new : List ℕ) (later : Bool) → i < length ws → w ≡ get_or ws i w
    → new ≡ old ++ (comma_if later ++ compact_text (tree_of_word (word_tree w))) → new ++ words_text true (drop (i + 1) ws) ≡ old ++ words_text later (drop i ws)
words_next ws i w old new later within w_is is =
    let rest = words_text true (drop (i + 1) ws) in
    let text = compact_text (tree_of_word (word_tree w)) in
    let first = drop-cons ws i w within ∙ ap₂ (λ (x : Word) (xs : List Word). x ∷ xs) (sym w_is) (ap (λ n. drop n ws) (sym (add-one i))) in
    ap (λ x. x ++ rest) is ∙ append_assoc old (comma_if later ++ text) rest ∙ ap (λ x. old ++ x) (append_assoc (comma_if later) text rest)
    ∙ ap (λ (xs : List Word). old ++ words_text later xs) (sym first)

pub words_done : (ws : List Word) (i : ℕ) (old new : List ℕ) (later : Bool) → length ws ≤ i → new ≡ old ++ 93 ∷ [] → new ≡ old ++ words_text later (drop i ws)
words_done ws i old new later past is = is ∙ ap (λ (xs : List Word). old ++ words_text later xs) (sym (drop_all i ws past))

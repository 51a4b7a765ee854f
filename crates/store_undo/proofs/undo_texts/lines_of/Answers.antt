use Rattle.std.proofs.Common.{List, ℕ, ◌++◌, codes, ap, ◌∙◌, append_assoc}
use Rattle.serde_json.specs.Written.{compact_text}
use Rattle.edit_json.specs.WordJson.{tree_of_word}
use Rattle.edit_module.specs.Views.{word_tree}
use Rattle.run_answers.specs.Answers.{state_lines}
use Rattle.store_undo.proofs.undo_texts.lines_of.Goals as goal

pub returns : goal.returns
returns c =
    let left = codes "undo left " ++ (compact_text (tree_of_word (word_tree c.args.words.now.left)) ++ codes "\n") in
    let right = codes "undo right " ++ (compact_text (tree_of_word (word_tree c.args.words.now.right)) ++ codes "\n") in
    λ l t h.
    c.from_vec.ensures
    ∙ (c.in_ok-append_state.ensures l t h
    ∙ (ap (λ (x : List ℕ). x ++ state_lines l t) (c.in_ok-text.ensures ∙ ap (λ (x : List ℕ). x ++ right) (c.in_ok-left.ensures ∙ ap (λ (x : List ℕ). x ++ left) c.new.ensures.items))
    ∙ append_assoc left right (state_lines l t)))

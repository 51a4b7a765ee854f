use Rattle.std.proofs.Common.{List, ℕ, ◌++◌, codes, ap, ◌∙◌, append_assoc}
use Rattle.std.specs.Prelude.{string_bytes}
use Rattle.store_undo.proofs.TreeTexts.{state_written}
use Rattle.store_undo.proofs.undo_texts.append_state.Goals as goal

pub returns : goal.returns
returns c =
    let trees = c.args.trees.now in
    let old = c.args.bytes.now.items in
    let left = codes "left " ++ (string_bytes trees.left ++ codes "\n") in
    let right = codes "right " ++ (string_bytes trees.right ++ codes "\n") in
    let comp = codes "complement " ++ (string_bytes trees.comp ++ codes "\n") in
    let first = c.in_ok-append_line.ensures ∙ ap (λ (x : List ℕ). old ++ (codes "left " ++ (x ++ codes "\n"))) c.as_str.ensures.value in
    let second = c.in_ok-append_line-2.ensures ∙ ap (λ (x : List ℕ). c.append_line.new.bytes.items ++ (codes "right " ++ (x ++ codes "\n"))) c.as_str-2.ensures.value in
    let third = c.in_ok-append_line-3.ensures ∙ ap (λ (x : List ℕ). c.append_line-2.new.bytes.items ++ (codes "complement " ++ (x ++ codes "\n"))) c.as_str-3.ensures.value in
    λ l t h.
    third
    ∙ (ap (λ (x : List ℕ). x ++ comp) (second ∙ ap (λ (x : List ℕ). x ++ right) first)
    ∙ (ap (λ (x : List ℕ). x ++ comp) (append_assoc old left right)
    ∙ (append_assoc old (left ++ right) comp
    ∙ ap (λ (x : List ℕ). old ++ x) (state_written l t trees h))))

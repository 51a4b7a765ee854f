use Rattle.std.proofs.Common.{◌≡◌, ◌∙◌, rules}
use Rattle.std.specs.Prelude.{string_bytes}
use Rattle.store_undo.proofs.TreeTexts.{around, around_is, has_snapshot}
use Rattle.store_undo.proofs.undo_texts.snapshot_of.Goals as goal

pub returns-clause-text : goal.returns-clause-text
returns-clause-text c =
    let trees = c.args.trees.now in
    let text = c.in_ok-text.text in
    let is : string_bytes text ≡ around (string_bytes trees.comp) (string_bytes trees.left) (string_bytes trees.right) = search rules in
    λ l t h. c.bytes_of.ensures ∙ is ∙ around_is l t trees h

pub returns-clause-has : goal.returns-clause-has
returns-clause-has c =
    let trees = c.args.trees.now in
    let text = c.in_ok-text.text in
    let is : string_bytes text ≡ around (string_bytes trees.comp) (string_bytes trees.left) (string_bytes trees.right) = search rules in
    λ l t h. has_snapshot l t trees text h (is ∙ around_is l t trees h)

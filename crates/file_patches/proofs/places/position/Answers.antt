use Rattle.std.proofs.Common.{◌≡◌, ◌<◌, IfOk, subst, sym, ap, ap₂, ◌∙◌, arith}
use Rattle.file_trees.specs.FileTrees.{file_tree, items_view}
use Rattle.file_patches.specs.Equality.{item_count}
use Rattle.file_patches.specs.Counts.{child_count}
use Rattle.file_patches.specs.Places.{item_position, position}
use Rattle.file_patches.proofs.Lists.{count_items, array_count, array_seen, object_count}
use Rattle.file_patches.proofs.places.position.Goals as goal

pub returns-in-Some-clause-within : goal.returns-in-Some-clause-within
returns-in-Some-clause-within c =
    omega (arith, c.in-Some.ensures.within, object_count c.args.tree.now c.in-Object.members c.in-Object.is)

pub returns-in-Array-clause-position : goal.returns-in-Array-clause-position
returns-in-Array-clause-position c =
    let v = c.in-Array.items in
    let count : c.len.result ≡ item_count (items_view v.items) = omega (arith, c.len.ensures, v.ok.0, count_items v.items) in
    c.item_position.ensures.position ∙ ap₂ item_position c.as_str.ensures count ∙ sym (ap (position c.args.part.now) (array_seen c.args.tree.now v c.in-Array.is))

pub returns-in-Array-clause-within : goal.returns-in-Array-clause-within
returns-in-Array-clause-within c =
    let v = c.in-Array.items in
    let count : c.len.result ≡ child_count (file_tree c.args.tree.now) = omega (arith, c.len.ensures, v.ok.0, array_count c.args.tree.now v c.in-Array.is) in
    subst (λ n. IfOk c.item_position.result (λ i. i < n)) count c.item_position.ensures.within

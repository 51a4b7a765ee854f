use Rattle.std.proofs.Common.{◌≤◌, map, length, ap, ap₂, ◌∙◌, arith}
use Rattle.std.proofs.lemmas.List.{take_all, map-append}
use Rattle.json.specs.Json.{array, object}
use Rattle.json.specs.Value.{value_view, items_of, items_view as value_items, members_view as value_members}
use Rattle.file_trees.specs.FileTrees.{file_tree, members_of}
use Rattle.file_trees.proofs.Owned.{named, seen, members_seen, push_more, tree-Array, tree-Object}
use Rattle.file_trees.proofs.tree.+own.Goals as goal

pub own_array-loop-item-preserved : goal.own_array-loop-item-preserved
own_array-loop-item-preserved t c =
    let l = c.loop-item in
    let x = c.item-item.result in
    ap (map file_tree) c.in_ok-push.ensures.items ∙ map-append _ _ _
    ∙ push_more value_view c.deref-item-items.result.now l.item-index x x _ _ (omega arith) c.item-item.is l.invariant c.in_ok-own.ensures

pub own_array-returns : goal.own_array-returns
own_array-returns t c =
    let l = c.loop-item in
    let xs = c.deref-item-items.result.now in
    let past : length xs ≤ l.item-index = omega arith in
    tree-Array l.owned ∙ ap array (ap items_of l.invariant ∙ ap (λ vs. items_of (map value_view vs)) (take_all l.item-index xs past) ∙ ap value_items c.deref-item-items.ensures.value)

pub own_object-loop-member-preserved : goal.own_object-loop-member-preserved
own_object-loop-member-preserved t c =
    let l = c.loop-member in
    let x = c.member-item.result in
    ap (map named) c.in_ok-push.ensures.items ∙ map-append _ _ _
    ∙ push_more seen c.deref-member-items.result.now l.member-index x x _ _ (omega arith) c.member-item.is l.invariant (ap₂ (λ a b. (a, b)) c.in_ok-name.ensures c.in_ok-content.ensures)

pub own_object-returns : goal.own_object-returns
own_object-returns t c =
    let l = c.loop-member in
    let xs = c.deref-member-items.result.now in
    let past : length xs ≤ l.member-index = omega arith in
    tree-Object l.owned ∙ ap object (ap members_of l.invariant ∙ ap (λ ms. members_of (map seen ms)) (take_all l.member-index xs past) ∙ members_seen xs ∙ ap value_members c.deref-member-items.ensures.value)

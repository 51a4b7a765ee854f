use Rattle.std.proofs.Common.{◌≤◌, map, length, ap, ap₂, sym, ◌∙◌, arith}
use Rattle.std.proofs.lemmas.List.{take_all, map-append}
use Rattle.json.specs.Json.{array, object}
use Rattle.json.specs.Value.{value_view, items_of}
use Rattle.json.proofs.Trees.{view-Array, view-Object}
use Rattle.file_trees.specs.FileTrees.{file_tree, members_of, items_view, members_view}
use Rattle.file_trees.proofs.Owned.{named, seen, members_seen, push_more}
use Rattle.file_trees.proofs.lend.+lend.Goals as goal

pub lend_array-loop-item-preserved : goal.lend_array-loop-item-preserved
lend_array-loop-item-preserved t c =
    let l = c.loop-item in
    let x = c.item-item.result in
    ap (map value_view) c.in_ok-push.ensures.items ∙ map-append _ _ _
    ∙ push_more file_tree c.deref-item-items.result.now l.item-index x x _ _ (omega arith) c.item-item.is l.invariant c.in_ok-lend.ensures

pub lend_array-returns : goal.lend_array-returns
lend_array-returns t c =
    let l = c.loop-item in
    let xs = c.deref-item-items.result.now in
    let past : length xs ≤ l.item-index = omega arith in
    view-Array l.lent ∙ ap array (ap items_of l.invariant ∙ ap (λ vs. items_of (map file_tree vs)) (take_all l.item-index xs past) ∙ ap items_view c.deref-item-items.ensures.value)

pub lend_object-loop-member-preserved : goal.lend_object-loop-member-preserved
lend_object-loop-member-preserved t c =
    let l = c.loop-member in
    let x = c.member-item.result in
    ap (map seen) c.in_ok-push.ensures.items ∙ map-append _ _ _
    ∙ push_more named c.deref-member-items.result.now l.member-index x x _ _ (omega arith) c.member-item.is l.invariant (ap₂ (λ a b. (a, b)) c.as_str-name.ensures c.in_ok-content.ensures)

pub lend_object-returns : goal.lend_object-returns
lend_object-returns t c =
    let l = c.loop-member in
    let xs = c.deref-member-items.result.now in
    let past : length xs ≤ l.member-index = omega arith in
    view-Object l.lent ∙ ap object (sym (members_seen l.lent.items) ∙ ap members_of l.invariant ∙ ap (λ ms. members_of (map named ms)) (take_all l.member-index xs past) ∙ ap members_view c.deref-member-items.ensures.value)

use Rattle.std.proofs.Common.{◌∙◌, Some, ap, sym, map, arith}
use Rattle.std.proofs.lemmas.List.{map-append}
use Rattle.std.proofs.lemmas.Result.{err_from_is_err_and}
use Rattle.serde_json.specs.Data.{depth}
use Rattle.serde_json.specs.View.{view}
use Rattle.edit_module.specs.Views.{primitive_tree}
use Rattle.edit_json.proofs.PrimitiveOf.{item_depth}
use Rattle.edit_json.proofs.Reading.{next_item, item_refused, items_done, refused_with}
use Rattle.edit_json.proofs.read.+read.Goals as goal

pub read_items-read_primitive-requires : goal.read_items-read_primitive-requires
read_items-read_primitive-requires t c =
    let low = item_depth c.args.items.now c.loop-item.item-index c.item-item.result c.loop-item-test.true in
    let same = ap (λ v. depth (view v)) c.item-item.is in
    (omega (arith, low, same, c.decreases), tt)

pub read_items-loop-item-preserved : goal.read_items-loop-item-preserved
read_items-loop-item-preserved t c =
    let l = c.loop-item in
    rw (c.in_ok-push.ensures.items, map-append) (l.invariant ∙ next_item c.args.items.now l.item-index c.item-item.result (map primitive_tree l.primitives.items) _ c.loop-item-test.true c.item-item.is c.in_ok-read_primitive.ensures)

pub read_items-returns-in_err-read_primitive : goal.read_items-returns-in_err-read_primitive
read_items-returns-in_err-read_primitive t c =
    let p = err_from_is_err_and c.from_residual.result c.from_residual.ensures.1 in
    let l = c.loop-item in
    rw (p.1, p.2) (refused_with c.in_err-read_primitive.field-0.0 _ _ (λ none. l.invariant ∙ item_refused c.args.items.now l.item-index c.item-item.result (map primitive_tree l.primitives.items) c.loop-item-test.true c.item-item.is none) c.in_err-read_primitive.ensures)

pub read_items-returns : goal.read_items-returns
read_items-returns t c =
    let l = c.loop-item in
    l.invariant ∙ items_done c.args.items.now l.item-index (map primitive_tree l.primitives.items) c.loop-item-test.false ∙ ap Some (sym c.from_vec.ensures)

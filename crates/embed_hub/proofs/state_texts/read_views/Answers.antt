use Rattle.std.proofs.Common.{◌+◌, ◌*◌, ◌<◌, ◌≤◌, length, map, arith}
use Rattle.std.proofs.lemmas.List.{length-map, map-append}
use Rattle.std.proofs.lemmas.Result.{err_from_is_err_and}
use Rattle.lens_forms.specs.Forms.{form_tree}
use Rattle.view_hub.specs.Views.{view_tree, view_trees}
use Rattle.embed_hub.proofs.StateTexts.{one_read, fault_found, all_read, forms_at, texts_at, is_there}
use Rattle.embed_hub.proofs.state_texts.read_views.Goals as goal

pub returns-in_err-read_view : goal.returns-in_err-read_view
returns-in_err-read_view c =
    let p = err_from_is_err_and c.from_residual-in_err-read_view.result c.from_residual-in_err-read_view.ensures.1 in
    let l = c.loop-number in
    let texts = c.args.texts.now in
    let doc = c.as_slice-doc.result.now in
    let comp = c.as_slice-comp.result.now in
    let within : 2 * l.number + 1 < length texts = omega (arith, c.loop-number-test.true, c.requires.count) in
    let doc_at = is_there texts (2 * l.number) c.index-texts-number.result doc c.as_slice-doc.ensures c.index-texts-number.is in
    let comp_at = is_there texts (2 * l.number + 1) c.index-texts-number-in-loop-number.result comp c.as_slice-comp.ensures c.index-texts-number-in-loop-number.is in
    rw (p.1, p.2)
    (fault_found (map form_tree c.args.typed.now) texts l.number (form_tree c.index-typed-number.result) doc comp
    (forms_at c.args.typed.now l.number c.index-typed-number.result c.loop-number-test.true c.index-typed-number.is) (texts_at texts l.number doc comp within doc_at comp_at)
    (view_trees l.views.items) c.in_err-read_view.field-0.0 l.invariant c.in_err-read_view.ensures)

pub loop-number-preserved : goal.loop-number-preserved
loop-number-preserved c =
    let l = c.loop-number in
    let texts = c.args.texts.now in
    let doc = c.as_slice-doc.result.now in
    let comp = c.as_slice-comp.result.now in
    let within : 2 * l.number + 1 < length texts = omega (arith, c.loop-number-test.true, c.requires.count) in
    let doc_at = is_there texts (2 * l.number) c.index-texts-number.result doc c.as_slice-doc.ensures c.index-texts-number.is in
    let comp_at = is_there texts (2 * l.number + 1) c.index-texts-number-in-loop-number.result comp c.as_slice-comp.ensures c.index-texts-number-in-loop-number.is in
    rw (c.in_ok-push.ensures.items, map-append)
    (one_read (map form_tree c.args.typed.now) texts l.number (form_tree c.index-typed-number.result) doc comp
    (forms_at c.args.typed.now l.number c.index-typed-number.result c.loop-number-test.true c.index-typed-number.is) (texts_at texts l.number doc comp within doc_at comp_at)
    (view_trees l.views.items) (view_tree c.in_ok-read_view.field-0) l.invariant c.in_ok-read_view.ensures)

pub returns : goal.returns
returns c =
    let l = c.loop-number in
    let forms = map form_tree c.args.typed.now in
    let past : length forms ≤ l.number = omega (arith, length-map c.args.typed.now form_tree, c.loop-number-test.false) in
    let behind : length c.args.texts.now ≤ 2 * l.number = omega (arith, c.requires.count, c.loop-number-test.false) in
    all_read forms c.args.texts.now l.number (view_trees l.views.items) past behind l.invariant

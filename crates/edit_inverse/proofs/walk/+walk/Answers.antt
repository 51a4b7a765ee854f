use Rattle.std.proofs.Common.{◌≡◌, ◌<◌, ◌≤◌, true, List, length, map, sym, ap, subst, ◌∙◌, arith}
use Rattle.doc_values.specs.Documents.{DocTree, doc_tree, docs_tree, hold}
use Rattle.doc_values.specs.Types.{ty_tree}
use Rattle.doc_values.specs.Typing.{has}
use Rattle.edit_module.specs.declared.word.Word.{Word}
use Rattle.edit_module.specs.Action.{act}
use Rattle.edit_module.specs.Depths.{word_depth}
use Rattle.edit_module.specs.Views.{primitive_tree, word_tree}
use Rattle.edit_module.specs.Words.{WordTree, no_primitives, word_of, joined}
use Rattle.edit_module.proofs.ActionKeepsTypes.{has_primitive}
use Rattle.edit_module.proofs.ContainerRows.{doc_tree-Hold}
use Rattle.edit_module.proofs.WordSteps.{later-none, act-more, act-all}
use Rattle.edit_inverse.specs.Inverse.{inverse}
use Rattle.edit_inverse.specs.Steps.{backwards}
use Rattle.edit_inverse.specs.Texts.{MeetsTexts}
use Rattle.edit_inverse.proofs.Rows.{at-content}
use Rattle.edit_inverse.proofs.Walks.{walk-next, walk-done, meets-more, meets-done, part-depth}
use Rattle.edit_inverse.proofs.walk.+walk.Goals as goal
use Rattle.edit_module.proofs.JoinedWords.{joined_nothing}

pub walk-loop-i-preserved : goal.walk-loop-i-preserved
walk-loop-i-preserved t c =
    let l = c.loop-i in
    let ty = ty_tree c.args.ty.now in
    let ps = c.as_slice-primitives.result.now in
    let p = c.index-primitives-i.result in
    let made = c.in-Ok.made in
    let v = doc_tree l.current in
    let u = doc_tree made.value in
    let within : l.i < length ps = omega (arith, c.loop-i-test.true) in
    record {
      typed = has_primitive ty (primitive_tree p) v u c.requires.well_formed l.invariant.typed c.in-Ok.ensures.value;
      left = sym (act-more ty ps l.i p v u within c.index-primitives-i.is c.in-Ok.ensures.value) ∙ l.invariant.left;
      back = walk-next ty ps l.i p v u l.parts.items c.kept.new.parts.items made.back within c.index-primitives-i.is c.in-Ok.ensures.value c.in-Ok.ensures.back c.in_ok-kept-in-Ok.ensures ∙ l.invariant.back;
      meets = λ m. l.invariant.meets (meets-more ty ps l.i p v u within c.index-primitives-i.is c.in-Ok.ensures.value c.in-Ok.ensures.meets m);
    }

pub walk-returns-clause-value : goal.walk-returns-clause-value
walk-returns-clause-value t c =
    let l = c.loop-i in
    let ty = ty_tree c.args.ty.now in
    let ps = c.as_slice-primitives.result.now in
    let past : length ps ≤ l.i = omega (arith, c.loop-i-test.false) in
    ap (λ (w : WordTree). act ty w (doc_tree c.args.doc.now)) (sym c.as_slice-primitives.ensures)
    ∙ (sym l.invariant.left ∙ act-all ty ps l.i (doc_tree l.current) past)

pub walk-returns-clause-back : goal.walk-returns-clause-back
walk-returns-clause-back t c =
    let l = c.loop-i in
    let ty = ty_tree c.args.ty.now in
    let ps = c.as_slice-primitives.result.now in
    let past : length ps ≤ l.i = omega (arith, c.loop-i-test.false) in
    c.in_ok-back.ensures
    ∙ (sym (walk-done ty ps l.i (doc_tree l.current) (backwards (map word_tree l.parts.items)) past)
    ∙ (l.invariant.back ∙ ap (λ (w : WordTree). inverse ty w (doc_tree c.args.doc.now)) c.as_slice-primitives.ensures))

pub walk-returns-clause-meets : goal.walk-returns-clause-meets
walk-returns-clause-meets t c =
    let l = c.loop-i in
    let ty = ty_tree c.args.ty.now in
    let ps = c.as_slice-primitives.result.now in
    let past : length ps ≤ l.i = omega (arith, c.loop-i-test.false) in
    let P : WordTree → Type 0 = λ w. MeetsTexts ty w (doc_tree c.args.doc.now) in
    subst P c.as_slice-primitives.ensures (l.invariant.meets (meets-done ty ps l.i (doc_tree l.current) past))

pub walk-loop-i-init : goal.walk-loop-i-init
walk-loop-i-init t c =
    let ty = ty_tree c.args.ty.now in
    let w = word_of (map primitive_tree c.as_slice-primitives.result.now) in
    let v = doc_tree c.in_ok-current.current in
    let same : v ≡ doc_tree c.args.doc.now = c.in_ok-current.ensures in
    let none : backwards (map word_tree c.new-parts.result.items) ≡ no_primitives =
    ap (λ (l : List Word). backwards (map word_tree l)) c.new-parts.ensures.items in
    let M : DocTree → Type 0 = λ d. MeetsTexts ty w d → MeetsTexts ty w (doc_tree c.args.doc.now) in
    record {
      typed = ap (λ (d : DocTree). has ty d) same ∙ c.requires.typed;
      left = later-none (act ty w v) ∙ ap (λ (d : DocTree). act ty w d) same;
      back = ap (joined (inverse ty w v)) none ∙ (joined_nothing (inverse ty w v) ∙ ap (λ (d : DocTree). inverse ty w d) same);
      meets = subst M (sym same) (λ m. m);
    }

pub walk-step-requires : goal.walk-step-requires
walk-step-requires t c =
    let ps = c.as_slice-primitives.result.now in
    let p = c.index-primitives-i.result in
    let within : c.loop-i.i < length ps = omega (arith, c.loop-i-test.true) in
    let deep = part-depth ps c.loop-i.i p within c.index-primitives-i.is in
    let same = ap word_depth c.as_slice-primitives.ensures in
    (omega (arith, deep, same), (c.requires.well_formed, c.loop-i.invariant.typed))

-- ---- containers

pub at_item-in_container-requires : goal.at_item-in_container-requires
at_item-in_container-requires t c =
    let s = c.in-Hold.shape in
    let ds = docs_tree c.in-Hold.docs in
    let ty = ty_tree c.args.ty.now in
    let row = at-content ty (ty_tree c.in-Some.inner.now) c.args.place.now (word_tree c.args.word.now) s ds (sym c.in-Some.ensures) in
    let typed : has ty (hold s ds) ≡ true =
    ap (λ (v : DocTree). has ty v) (sym (ap doc_tree c.in-Hold.is ∙ doc_tree-Hold s c.in-Hold.docs)) ∙ c.requires.typed in
    (omega arith, (row.well c.requires.well_formed, row.held typed))

use Rattle.std.proofs.Common.{Some, ap, subst, sym, ◌∙◌}
use Rattle.texts.specs.Sides.{other}
use Rattle.doc_values.specs.Documents.{DocTree, doc_tree}
use Rattle.doc_values.specs.Types.{TyTree, ty_tree}
use Rattle.edit_module.specs.Views.{word_tree, entry_tree}
use Rattle.edit_session.specs.Step.{document_on, step}
use Rattle.edit_session.specs.Views.{triple_tree}
use Rattle.lens_core.specs.Sides.{near}
use Rattle.edit_undo.specs.Stepping.{IsBack, IsStep}
use Rattle.edit_undo.proofs.OneEntry.{entry_undone, entry_brings}
use Rattle.edit_undo.specs.Undone.{BothTrees, BringsBack}
use Rattle.edit_undo.proofs.stepping.undo_entry.Goals as goal

pub returns-clause-words : goal.returns-clause-words
returns-clause-words g c =
    let of = g.L.EditLens in
    let lens = c.args.session.now.lens in
    let left = of.left_type lens in
    let right = of.right_type lens in
    let carried = of.carried lens in
    let t = triple_tree c.args.session.now.triple in
    let u = triple_tree c.take_step.new.session.triple in
    let side = c.args.entry.now.side in
    let word = word_tree c.args.entry.now.word in
    let w = word_tree c.in-Some-2.carried in
    let own = word_tree c.in-Some.own_back in
    let far = word_tree c.in-Some-3.far_back in
    let stepped = subst (IsStep (step left right carried t (entry_tree c.args.entry.now)) u) c.in-Some-2.is c.in_ok-carried.ensures.step in
    let own_is = subst (IsBack (near side left right) word (document_on side t)) c.in-Some.is c.in_ok-own_back.ensures in
    let same_lens = c.lens.ensures ∙ c.in_ok-carried.ensures.lens in
    let same_ty = c.ty-ty.ensures
    ∙ (ap (λ l. near c.other-far.result (of.left_type l) (of.right_type l)) same_lens
    ∙ ap (λ s. near s left right) c.other-far.ensures) in
    let same_doc = c.in_ok-far_doc.ensures ∙ (c.document.ensures.is ∙ ap (λ s. document_on s t) c.other-far.ensures) in
    let far_some = subst (IsBack (ty_tree c.ty-ty.result.now) w (doc_tree c.in_ok-far_doc.far_doc)) c.in-Some-3.is c.in_ok-far_back.ensures in
    let far_at = subst (λ (ty : TyTree). IsBack ty w (doc_tree c.in_ok-far_doc.far_doc) (Some c.in-Some-3.far_back)) same_ty far_some in
    let far_is = subst (λ (d : DocTree). IsBack (near (other side) left right) w d (Some c.in-Some-3.far_back)) same_doc far_at in
    let words = c.on_sides.ensures in (
      w,
      stepped,
      words ∙ entry_undone left right carried t u side word w own far own_is.0 far_is.0,
      subst (λ (b : BothTrees). BringsBack left right b u t) (sym words) (entry_brings left right carried t u side word w own far stepped own_is.1 far_is.1),
    )

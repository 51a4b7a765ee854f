use Rattle.doc_values.specs.Documents.{doc_tree}
use Rattle.edit_module.specs.Views.{word_tree}
use Rattle.lens_core.specs.Complements.{comp_tree}
use Rattle.view_hub.specs.Views.{view_tree}
use Rattle.view_hub.proofs.HubOutcomes.{lift_fits, lift_acts}
use Rattle.view_hub.proofs.lift.lift.Goals as goal

pub unreachable-requires : goal.unreachable-requires
unreachable-requires g c =
    let none = rw c.in-Err-Unfit.field-0-is at c.in-Err-Unfit.ensures in
    lift_fits g.L.EditLens
    g.met.L.EditLens.left_edits_carry g.met.L.EditLens.right_edits_carry
    c.args.lens.now (word_tree c.args.word.now) (doc_tree c.args.hub.now.value) (view_tree c.args.view.now) (doc_tree c.in_ok-doc.doc.value)
    c.requires.in_step c.in_ok-doc.ensures none

pub unreachable-requires-in-Err-NoApply : goal.unreachable-requires-in-Err-NoApply
unreachable-requires-in-Err-NoApply g c =
    let refused = rw (c.ty.ensures, c.in-Err-NoApply.field-0-is) at c.in-Err-NoApply.ensures in
    lift_acts g.L.EditLens
    g.met.L.EditLens.left_edits_carry g.met.L.EditLens.right_edits_carry
    c.args.lens.now (word_tree c.args.word.now) (doc_tree c.args.hub.now.value) (view_tree c.args.view.now) (doc_tree c.in_ok-doc.doc.value)
    (word_tree c.in-Ok.carried.word, comp_tree c.in-Ok.carried.comp) _ c.requires.in_step c.in_ok-doc.ensures c.in-Ok.ensures refused

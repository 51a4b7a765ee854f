use Rattle.std.proofs.lemmas.Result.{IfOk-weaker}
use Rattle.edit_session.specs.Views.{triple_tree}
use Rattle.edit_undo.specs.UndoneViews.{both_tree}
use Rattle.lens_forms.specs.Forms.{form_tree}
use Rattle.store_undo.specs.Making.{AreTexts}
use Rattle.store_undo.proofs.undo_texts.texts_of.Goals as goal

pub returns : goal.returns
returns c =
    let form = form_tree c.args.session.now.lens.typed in
    let t = triple_tree c.args.session.now.triple in
    IfOk-weaker c.texts_with.result _ (AreTexts form t (both_tree c.args.words.now)) (λ made are. are form t c.in_ok-trees.ensures) c.texts_with.ensures

use Rattle.std.proofs.Common.{◌≤◌, List, Result, length, sym, ap, subst, ◌∙◌, arith}
use Rattle.doc_values.specs.Types.{ty_tree}
use Rattle.edit_module.specs.Words.{WordTree}
use Rattle.file_forms.specs.Forms.{file_form_tree}
use Rattle.file_patches.specs.Operations.{OperationTree}
use Rattle.patch_words.specs.ToWord.{NoWord}
use Rattle.patch_words.specs.Walks.{Makes, on_from}
use Rattle.patch_words.proofs.WalkSteps.{patch-done}
use Rattle.patch_words.proofs.making.made.Goals as goal

pub returns : goal.returns
returns c =
    let l = c.loop-i in
    let t = ty_tree c.args.ty.now in
    let f = file_form_tree c.args.form.now in
    let past : length c.args.patch.now ≤ l.i = omega (arith, c.loop-i-test.false) in
    let M : Result WordTree NoWord → Type 0 = λ r. Makes c.end.result r in
    subst M (ap (λ (os : List OperationTree). on_from t f l.i l.walk os) (sym (patch-done c.args.patch.now l.i past)) ∙ l.invariant.left) (c.end.ensures t f l.i)

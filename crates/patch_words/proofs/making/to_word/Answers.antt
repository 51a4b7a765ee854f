use Rattle.std.proofs.Common.{Option, Result, sym, ap, subst}
use Rattle.json.specs.Json.{Json}
use Rattle.doc_values.specs.Documents.{doc_tree}
use Rattle.doc_values.specs.Types.{ty_tree}
use Rattle.edit_module.specs.Words.{WordTree}
use Rattle.file_trees.specs.FileTrees.{file_tree}
use Rattle.file_forms.specs.Forms.{file_form_tree}
use Rattle.file_patches.specs.Operations.{patch_view}
use Rattle.patch_words.specs.ToWord.{NoWord, to_word_from}
use Rattle.patch_words.specs.Walks.{Makes}
use Rattle.patch_words.proofs.WalkSteps.{written-has, made-leads}
use Rattle.patch_words.proofs.making.to_word.Goals as goal

pub made-requires-clause-typed : goal.made-requires-clause-typed
made-requires-clause-typed c =
    written-has (file_form_tree c.args.form.now) (ty_tree c.args.ty.now) (doc_tree c.args.doc.now) (file_tree c.in-Ok.tree) c.requires.same c.in-Ok.ensures.tree

pub returns-in-Ok-clause-leads : goal.returns-in-Ok-clause-leads
returns-in-Ok-clause-leads c =
    let t = ty_tree c.args.ty.now in
    let f = file_form_tree c.args.form.now in
    let d = doc_tree c.args.doc.now in
    let os = patch_view c.args.patch.now in
    let M : Result WordTree NoWord → Type 0 = λ r. Makes c.made.result r in
    let made = subst M (sym (ap (λ (o : Option Json). to_word_from t f d o os) c.in-Ok.ensures.tree)) c.made.ensures in
    made-leads c.made.result t f d os c.requires.fit c.requires.same made

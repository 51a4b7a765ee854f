use Rattle.doc_values.specs.Documents.{doc_tree}
use Rattle.doc_values.specs.Types.{ty_tree}
use Rattle.edit_module.specs.Views.{word_tree}
use Rattle.edit_inverse.proofs.Inverses.{takes-back}
use Rattle.edit_inverse.proofs.walk.inverse.Goals as goal

pub returns-in-Ok-clause-takes_back : goal.returns-in-Ok-clause-takes_back
returns-in-Ok-clause-takes_back c =
    takes-back (ty_tree c.args.ty.now) (word_tree c.args.word.now) (word_tree c.in-Ok.made.back) (doc_tree c.args.doc.now) (doc_tree c.in-Ok.made.value)
    c.requires.well_formed c.requires.typed c.in-Ok.ensures.meets c.in-Ok.ensures.value c.in-Ok.ensures.back

use Rattle.doc_values.specs.Documents.{doc_tree}
use Rattle.doc_values.specs.Types.{ty_tree}
use Rattle.embed_session.proofs.TokenTexts.{document_text}
use Rattle.embed_session.proofs.resuming.document_of_text.Goals as goal

pub returns-in-Some : goal.returns-in-Some
returns-in-Some c =
    document_text (ty_tree c.args.ty.now) c.args.text.now (doc_tree c.in-Some.doc) c.in-Some.ensures.document

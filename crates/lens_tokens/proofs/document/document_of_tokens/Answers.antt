use Rattle.std.proofs.Common.{Some, refl, ap, sym, ◌∙◌}
use Rattle.json.specs.Lex.{tokens}
use Rattle.doc_values.specs.Documents.{doc_tree}
use Rattle.doc_values.specs.Types.{ty_tree}
use Rattle.json_tokens.specs.TreesAt.{read_at}
use Rattle.value_json.proofs.ReadingHasTree.{takes}
use Rattle.value_json.specs.DocumentJson.{document_of}
use Rattle.lens_tokens.proofs.TreesOfTexts.{value_read}
use Rattle.lens_tokens.proofs.document.document_of_tokens.Goals as goal

pub returns : goal.returns
returns c =
    let ty = ty_tree c.args.ty.now in
    let doc = doc_tree c.in_ok-doc.doc in
    let read = value_read (document_of ty) c.args.bytes.now doc c.in-Ok.ensures.cases.1
    (ap (λ text. read_at (document_of ty) 127 (tokens text)) (sym c.in-Ok.ensures.cases.0) ∙ ap (read_at (document_of ty) 127) (sym c.in-Ok-new.ensures.ok)
    ∙ c.in_ok-doc.ensures ∙ ap (λ ts. Some (doc, ts)) (c.if-not-is_at_end.ensures refl)) in
    record { document = read; typed = (takes ty read.0 doc read.2).typed }

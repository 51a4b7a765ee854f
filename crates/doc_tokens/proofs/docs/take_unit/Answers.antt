use Rattle.std.proofs.Common.{◌∷◌, ap, ◌∙◌, rules}
use Rattle.json.specs.Reads.{token_of}
use Rattle.doc_values.specs.Types.{ty_unit}
use Rattle.doc_values.specs.declared.doc.Doc.{the_lemmas}
use Rattle.json_tokens.specs.TreesAt.{read_at}
use Rattle.value_json.specs.DocumentJson.{document_of}
use Rattle.doc_tokens.proofs.ReadingDocs.{unit_read}
use Rattle.doc_tokens.proofs.docs.take_unit.Goals as goal

pub returns-in-Some-Null : goal.returns-in-Some-Null
returns-in-Some-Null c depth =
    let t = ty_unit in
    ap (read_at (document_of t) depth) c.in-Some-Null.ensures.value ∙ ap (λ x. read_at (document_of t) depth (token_of x ∷ c.next.new.self)) c.in-Some-Null.field-0-is ∙ unit_read depth _ ∙ (search (rules, the_lemmas))

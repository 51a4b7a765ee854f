use Rattle.std.proofs.Common.{◌∷◌, ap, ◌∙◌, rules}
use Rattle.json.specs.Reads.{token_of}
use Rattle.doc_values.specs.Types.{ty_bool}
use Rattle.doc_values.specs.declared.doc.Doc.{the_lemmas}
use Rattle.json_tokens.specs.TreesAt.{read_at}
use Rattle.value_json.specs.DocumentJson.{document_of}
use Rattle.doc_tokens.proofs.ReadingDocs.{truth_read}
use Rattle.doc_tokens.proofs.docs.take_bool.Goals as goal

pub returns-in-Some-Bool : goal.returns-in-Some-Bool
returns-in-Some-Bool c depth =
    let t = ty_bool in
    ap (read_at (document_of t) depth) c.in-Some-Bool.ensures.value ∙ ap (λ x. read_at (document_of t) depth (token_of x ∷ c.next.new.self)) c.in-Some-Bool.field-0-is ∙ truth_read depth _ _ ∙ (search (rules, the_lemmas))

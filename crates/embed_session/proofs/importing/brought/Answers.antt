use Rattle.std.proofs.Common.{sym, ap, subst, ◌∙◌}
use Rattle.doc_values.specs.Documents.{doc_tree}
use Rattle.edit_session.specs.Sessions.{SessionOf}
use Rattle.edit_session.specs.Views.{triple_tree}
use Rattle.lens_flat.specs.declared.flat.ReadyForm.{ReadyForm}
use Rattle.lens_forms.specs.Forms.{form_tree}
use Rattle.embed_session.specs.Embedded.{Brings}
use Rattle.embed_session.specs.Records.{IsFirstRecord}
use Rattle.embed_session.specs.Steps.{session_form}
use Rattle.embed_session.proofs.FreshSessions.{brought_in}
use Rattle.embed_session.proofs.importing.brought.Goals as goal

pub returns-in-Ok : goal.returns-in-Ok
returns-in-Ok c program document lens text of_text =
    let n = c.new.ensures in
    brought_in program (form_tree c.args.begun.typed) c.new.result lens (ap session_form n.session ∙ c.in-Ok.ensures.form) n.number n.accepted
    (subst (λ t. IsFirstRecord program t.items) (sym n.text) text) c.args.side document (doc_tree c.args.doc.now) of_text
    (subst (λ (s : SessionOf ReadyForm). Brings (form_tree c.args.begun.typed) c.args.side (doc_tree c.args.doc.now) (triple_tree s.triple)) (sym n.session) c.in-Ok.ensures.brings)

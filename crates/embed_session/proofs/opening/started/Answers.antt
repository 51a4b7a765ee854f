use Rattle.std.proofs.Common.{sym, ap, subst, ◌∙◌}
use Rattle.edit_session.specs.Sessions.{SessionOf}
use Rattle.edit_session.specs.Views.{triple_tree}
use Rattle.lens_flat.specs.declared.flat.ReadyForm.{ReadyForm}
use Rattle.lens_forms.specs.Forms.{form_tree}
use Rattle.embed_session.specs.Records.{IsFirstRecord}
use Rattle.embed_session.specs.Steps.{session_form}
use Rattle.embed_session.proofs.FreshSessions as fresh
use Rattle.embed_session.proofs.opening.started.Goals as goal

pub returns-in-Ok : goal.returns-in-Ok
returns-in-Ok c program lens text =
    let n = c.new.ensures in
    fresh.started program (form_tree c.args.begun.typed) c.new.result lens (ap session_form n.session ∙ c.in-Ok.ensures.form) n.number n.accepted
    (subst (λ t. IsFirstRecord program t.items) (sym n.text) text)
    (ap (λ (s : SessionOf ReadyForm). triple_tree s.triple) n.session ∙ c.in-Ok.ensures.first)

use Rattle.std.proofs.Common.{◌≡◌, Ok, sym, ap, subst, ◌∙◌}
use Rattle.edit_session.specs.Sessions.{SessionOf}
use Rattle.edit_session.specs.Views.{triple_tree}
use Rattle.run_answers.specs.ItemRuns.{IsInStepFor}
use Rattle.lens_flat.specs.declared.flat.ReadyForm.{ReadyForm}
use Rattle.lens_forms.specs.Forms.{form_tree}
use Rattle.store_session.specs.Stands.{stands}
use Rattle.store_session.specs.Standings.{standing}
use Rattle.embed_session.proofs.reopening.with_version.Goals as goal

pub returns-in-Ok : goal.returns-in-Ok
returns-in-Ok c records stand in_step =
    let n = c.new.ensures in let o = c.args.opened in
    record {
      count = o.count;
      version = o.version;
      stand = subst (λ (s : SessionOf ReadyForm). stands records ≡ Ok (standing (form_tree s.lens.typed) (triple_tree s.triple) o.count o.version)) (sym n.session) stand;
      in_step = subst (λ (s : SessionOf ReadyForm). IsInStepFor (form_tree s.lens.typed) (triple_tree s.triple)) (sym n.session) in_step;
      number = n.number;
      accepted = n.accepted;
      text = ap (λ t. t.items) n.text ∙ c.in-Ok.ensures;
    }

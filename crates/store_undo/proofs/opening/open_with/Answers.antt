use Rattle.std.proofs.Common.{◌≡◌, ℕ, List, length, take, Ok, sym, ap, subst, ◌∙◌}
use Rattle.edit_session.specs.Step.{IsInStep}
use Rattle.edit_session.specs.Views.{triple_tree}
use Rattle.lens_core.specs.Consistency.{IsConsistent}
use Rattle.lens_forms.specs.Forms.{FormTree, form_tree}
use Rattle.store_session.specs.Stands.{stands}
use Rattle.store_session.specs.Standings.{standing}
use Rattle.store_undo.specs.Making.{kept_before}
use Rattle.store_undo.proofs.opening.open_with.Goals as goal

pub returns : goal.returns
returns c =
    let held = c.args.payloads.now in
    let form = form_tree c.args.stored.now.typed in
    let first = c.in_ok-opened.opened in
    let last = c.open_rest.new.opened in
    let earlier = triple_tree c.in_ok-earlier.earlier in
    let was = standing form (triple_tree first.session.triple) first.count first.version in
    let form_is : form ≡ form_tree last.session.lens.typed =
    sym (ap (λ x. form_tree x.typed) (c.in_ok-earlier.ensures.lens ∙ c.in_ok-opened.ensures.lens) ∙ c.in_ok-lens.ensures) in
    let kept_is = c.kept_before-kept.ensures.is ∙ ap (λ (ps : List (List ℕ)). kept_before c.args.count (length ps)) c.as_slice.ensures in
    record {
      stands = record {
        now = subst (λ (l : FormTree). stands held ≡ Ok (standing l (triple_tree last.session.triple) last.count last.version)) form_is c.in_ok-earlier.ensures.stands;
        was = was;
        before = subst (λ (n : ℕ). stands (take n held) ≡ Ok was) kept_is c.in_ok-opened.ensures.stands;
        form = form_is;
        triple = sym c.in_ok-earlier.ensures.earlier;
        in_step = subst (λ (l : FormTree). IsInStep (IsConsistent l) earlier) form_is c.in_ok-earlier.ensures.in_step;
      };
    }

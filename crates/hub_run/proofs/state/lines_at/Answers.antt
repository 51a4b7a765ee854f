use Rattle.std.proofs.Common.{◌≡◌, sym, ap, ap₂, ◌∙◌}
use Rattle.std.specs.Option.{option_copied}
use Rattle.doc_values.specs.Documents.{doc_tree}
use Rattle.script_input.proofs.Outcomes.{if_ok}
use Rattle.lens_core.specs.Complements.{comp_tree}
use Rattle.lens_flat.specs.declared.flat.ReadyForm.{ReadyForm}
use Rattle.lens_forms.specs.Forms.{form_tree}
use Rattle.view_hub.specs.Views.{hub_tree}
use Rattle.hub_run.specs.Runs.{lines_of_view, HasLinesOfView}
use Rattle.hub_run.proofs.StateLines.{view_there, is_view, no_doc, no_comp}
use Rattle.hub_run.proofs.state.lines_at.Goals as goal

pub unreachable-requires : goal.unreachable-requires
unreachable-requires c =
    let parts = c.args.hub.now.parts in
    let form = form_tree c.args.typed.now in
    no_doc parts.views.items c.args.number form (doc_tree parts.hub.value) (view_there (λ (l : ReadyForm). form_tree l.typed) c.args.hub.now.lenses (hub_tree parts) c.args.number form c.is_in_step.ensures c.requires.form)
    (sym (ap option_copied c.in_default.is) ∙ c.view.ensures)

pub unreachable-requires-in_default-comp : goal.unreachable-requires-in_default-comp
unreachable-requires-in_default-comp c =
    let parts = c.args.hub.now.parts in
    let form = form_tree c.args.typed.now in
    no_comp parts.views.items c.args.number form (doc_tree parts.hub.value) (view_there (λ (l : ReadyForm). form_tree l.typed) c.args.hub.now.lenses (hub_tree parts) c.args.number form c.is_in_step.ensures c.requires.form)
    (sym (ap option_copied c.in_default-comp.is) ∙ c.comp.ensures)

pub lines_of_view-requires-clause-has_type : goal.lines_of_view-requires-clause-has_type
lines_of_view-requires-clause-has_type c =
    let parts = c.args.hub.now.parts in
    let form = form_tree c.args.typed.now in
    let there = view_there (λ (l : ReadyForm). form_tree l.typed) c.args.hub.now.lenses (hub_tree parts) c.args.number form c.is_in_step.ensures c.requires.form in
    (is_view parts.views.items c.args.number form (doc_tree parts.hub.value) c.in-Some.doc.now c.in-Some-comp.comp.now there
    (sym (ap option_copied c.in-Some.is) ∙ c.view.ensures) (sym (ap option_copied c.in-Some-comp.is) ∙ c.comp.ensures)).has

pub lines_of_view-requires-clause-fits : goal.lines_of_view-requires-clause-fits
lines_of_view-requires-clause-fits c =
    let parts = c.args.hub.now.parts in
    let form = form_tree c.args.typed.now in
    let there = view_there (λ (l : ReadyForm). form_tree l.typed) c.args.hub.now.lenses (hub_tree parts) c.args.number form c.is_in_step.ensures c.requires.form in
    (is_view parts.views.items c.args.number form (doc_tree parts.hub.value) c.in-Some.doc.now c.in-Some-comp.comp.now there
    (sym (ap option_copied c.in-Some.is) ∙ c.view.ensures) (sym (ap option_copied c.in-Some-comp.is) ∙ c.comp.ensures)).fits

pub returns : goal.returns
returns c =
    let parts = c.args.hub.now.parts in
    let form = form_tree c.args.typed.now in
    let there = view_there (λ (l : ReadyForm). form_tree l.typed) c.args.hub.now.lenses (hub_tree parts) c.args.number form c.is_in_step.ensures c.requires.form in
    let v = is_view parts.views.items c.args.number form (doc_tree parts.hub.value) c.in-Some.doc.now c.in-Some-comp.comp.now there
    (sym (ap option_copied c.in-Some.is) ∙ c.view.ensures) (sym (ap option_copied c.in-Some-comp.is) ∙ c.comp.ensures) in
    if_ok c.lines_of_view.result (λ lines. lines.items ≡ lines_of_view c.args.number form (comp_tree c.in-Some-comp.comp.now) (doc_tree c.in-Some.doc.now))
    (λ lines. HasLinesOfView (hub_tree parts).views c.args.number form lines.items)
    (λ lines is. record { view = v.view; is = v.is; are = is ∙ ap₂ (λ x y. lines_of_view c.args.number form x y) v.comp v.doc }) c.lines_of_view.ensures.lines

use Rattle.std.proofs.Common.{◌≡◌, ◌<◌, List, length, get_or, subst, Some, option_map, sym, ap, ap₂, ◌∙◌}
use Rattle.std.specs.Option.{option_copied}
use Rattle.serde_json.specs.Written.{compact_text}
use Rattle.doc_values.specs.Documents.{DocTree}
use Rattle.doc_values.specs.Types.{TyTree}
use Rattle.value_json.specs.DocumentJson.{tree_of_document}
use Rattle.lens_flat.specs.declared.flat.ReadyForm.{ReadyForm}
use Rattle.lens_forms.specs.Forms.{form_tree, right_type}
use Rattle.lens_types.specs.declared.typed.Typed.{Typed}
use Rattle.view_hub.specs.Views.{hub_tree}
use Rattle.hub_run.specs.RunStates.{hub_state_of}
use Rattle.embed_hub.specs.Parts.{document_text}
use Rattle.hub_run.proofs.StateLines.{form_at}
use Rattle.embed_hub.proofs.PartTexts.{view_of, doc_is, with_view}
use Rattle.embed_hub.proofs.parts.view_text.Goals as goal

pub document_text-requires-clause-typed : goal.document_text-requires-clause-typed
document_text-requires-clause-typed c =
    let h = c.args.hub.now in
    let lens = c.in-Some.lens.now in
    let within = subst (λ (ls : List ReadyForm). c.args.number < length ls) c.lenses.ensures.lenses c.in-Some.ensures.lookup.3.0 in
    let is = subst (λ (ls : List ReadyForm). lens ≡ get_or ls c.args.number lens) c.lenses.ensures.lenses c.in-Some.ensures.lookup.1 in
    let form = form_at h.lenses c.args.number lens within is in
    let there = view_of h.lenses (hub_tree h.parts) c.args.number (form_tree c.in-Some.lens.now.typed) c.is_in_step.ensures.of_lenses form in
    let doc = doc_is h.parts.views.items c.args.number c.in-Some-view.document.now there.view (sym (ap option_copied c.in-Some-view.is) ∙ c.view.ensures) there.is in
    rw (c.right.ensures.right, c.typed.ensures, doc) there.right_has

pub returns : goal.returns
returns c =
    let h = c.args.hub.now in
    let lens = c.in-Some.lens.now in
    let within = subst (λ (ls : List ReadyForm). c.args.number < length ls) c.lenses.ensures.lenses c.in-Some.ensures.lookup.3.0 in
    let is = subst (λ (ls : List ReadyForm). lens ≡ get_or ls c.args.number lens) c.lenses.ensures.lenses c.in-Some.ensures.lookup.1 in
    let form = form_at h.lenses c.args.number lens within is in
    let there = view_of h.lenses (hub_tree h.parts) c.args.number (form_tree c.in-Some.lens.now.typed) c.is_in_step.ensures.of_lenses form in
    let doc = doc_is h.parts.views.items c.args.number c.in-Some-view.document.now there.view (sym (ap option_copied c.in-Some-view.is) ∙ c.view.ensures) there.is in
    ap (option_map document_text) (with_view (hub_state_of h) c.args.number (form_tree c.in-Some.lens.now.typed) there.view form there.is)
    ∙ ap Some (sym (c.in_ok-document_text.ensures ∙ ap₂ (λ (ty : TyTree) (d : DocTree). compact_text (tree_of_document ty d)) (c.right.ensures.right ∙ ap (λ (u : Typed). right_type (form_tree u)) c.typed.ensures) doc))

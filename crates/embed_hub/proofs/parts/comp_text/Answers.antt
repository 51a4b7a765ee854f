use Rattle.std.proofs.Common.{◌≡◌, ◌<◌, List, length, get_or, subst, Some, option_map, sym, ap, ◌∙◌}
use Rattle.std.specs.Option.{option_copied}
use Rattle.serde_json.specs.Written.{compact_text}
use Rattle.complement_file.specs.ComplementJson.{tree_of_complement}
use Rattle.lens_core.specs.Complements.{CompTree}
use Rattle.lens_flat.specs.declared.flat.ReadyForm.{ReadyForm}
use Rattle.lens_forms.specs.Forms.{form_tree}
use Rattle.view_hub.specs.Views.{hub_tree}
use Rattle.hub_run.specs.RunStates.{hub_state_of}
use Rattle.embed_hub.specs.Parts.{complement_text}
use Rattle.hub_run.proofs.StateLines.{form_at}
use Rattle.embed_hub.proofs.PartTexts.{view_of, comp_is, with_view}
use Rattle.embed_hub.proofs.parts.comp_text.Goals as goal

pub complement_text-requires : goal.complement_text-requires
complement_text-requires c =
    let h = c.args.hub.now in
    let lens = c.in-Some.lens.now in
    let within = subst (λ (ls : List ReadyForm). c.args.number < length ls) c.lenses.ensures.lenses c.in-Some.ensures.lookup.3.0 in
    let is = subst (λ (ls : List ReadyForm). lens ≡ get_or ls c.args.number lens) c.lenses.ensures.lenses c.in-Some.ensures.lookup.1 in
    let form = form_at h.lenses c.args.number lens within is in
    let there = view_of h.lenses (hub_tree h.parts) c.args.number (form_tree c.in-Some.lens.now.typed) c.is_in_step.ensures.of_lenses form in
    let comp = comp_is h.parts.views.items c.args.number c.in-Some-comp.comp.now there.view (sym (ap option_copied c.in-Some-comp.is) ∙ c.comp.ensures) there.is in
    record { fits = rw (c.typed.ensures, comp) there.comp_fits }

pub returns : goal.returns
returns c =
    let h = c.args.hub.now in
    let f = form_tree c.in-Some.lens.now.typed in
    let lens = c.in-Some.lens.now in
    let within = subst (λ (ls : List ReadyForm). c.args.number < length ls) c.lenses.ensures.lenses c.in-Some.ensures.lookup.3.0 in
    let is = subst (λ (ls : List ReadyForm). lens ≡ get_or ls c.args.number lens) c.lenses.ensures.lenses c.in-Some.ensures.lookup.1 in
    let form = form_at h.lenses c.args.number lens within is in
    let there = view_of h.lenses (hub_tree h.parts) c.args.number f c.is_in_step.ensures.of_lenses form in
    let comp = comp_is h.parts.views.items c.args.number c.in-Some-comp.comp.now there.view (sym (ap option_copied c.in-Some-comp.is) ∙ c.comp.ensures) there.is in
    ap (option_map complement_text) (with_view (hub_state_of h) c.args.number f there.view form there.is)
    ∙ ap Some (sym ((rw c.typed.ensures at c.in_ok-complement_text.ensures) ∙ ap (λ (e : CompTree). compact_text (tree_of_complement f e)) comp))

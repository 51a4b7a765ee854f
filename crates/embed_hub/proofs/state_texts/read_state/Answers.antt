use Rattle.std.proofs.Common.{length, map, ap, arith}
use Rattle.std.proofs.lemmas.List.{length-map}
use Rattle.lens_forms.specs.Forms.{form_tree}
use Rattle.view_hub.specs.Views.{hub_tree, view_tree}
use Rattle.embed_hub.proofs.StateTexts.{state_count, hub_in_step, none_found, all_of_parts}
use Rattle.embed_hub.proofs.state_texts.read_state.Goals as goal

pub out_of_step-requires : goal.out_of_step-requires
out_of_step-requires c =
    let parts = c.in_ok-parts.parts in
    let forms = map form_tree c.args.typed.now in
    let many = state_count forms c.args.texts.now (hub_tree parts) c.in_ok-parts.ensures in
    record { count = omega (arith, many, ap length c.deref-2.ensures.value, length-map parts.views.items view_tree, length-map c.args.typed.now form_tree) }

pub returns-in-None-clause-in_step : goal.returns-in-None-clause-in_step
returns-in-None-clause-in_step c =
    let parts = c.in_ok-parts.parts in
    let forms = map form_tree c.args.typed.now in
    hub_in_step forms (hub_tree parts) c.requires.one_left
    (all_of_parts forms parts c.deref.result.now c.deref-2.result.now c.deref.ensures c.deref-2.ensures.value (none_found _ c.in_ok-number.field-0 c.in-None.is c.in_ok-number.ensures))

use Rattle.std.proofs.Common.{[], length, refl, sym, subst, arith}
use Rattle.std.proofs.lemmas.List.{length-map}
use Rattle.std.proofs.lemmas.Option.{slice_get_read}
use Rattle.doc_values.specs.Documents.{doc_tree}
use Rattle.edit_module.specs.Views.{word_tree, word_trees}
use Rattle.view_hub.specs.Hubs.{lower_others}
use Rattle.view_hub.specs.Lowering.{CanLower, Adds}
use Rattle.view_hub.specs.Views.{hub_tree, view_tree, view_trees}
use Rattle.view_hub.proofs.LoweredViews.{view_read}
use Rattle.view_hub.proofs.HubOutcomes.{lens_within, view_can, view_in_step, view_refuses, view_steps}
use Rattle.view_hub.proofs.hub.edit_view.Goals as goal

pub offset_bounds-lenses-place : goal.offset_bounds-lenses-place
offset_bounds-lenses-place g c =
    omega (
      arith,
      lens_within g.L.EditLens
          g.met.L.EditLens.left_edits_carry g.met.L.EditLens.right_edits_carry c.args.lenses.now (hub_tree c.args.parts.now) c.args.place (length c.args.parts.now.views.items)
          c.requires.in_step (length-map c.args.parts.now.views.items view_tree) c.requires.view,
    )

pub bounds-lenses-place : goal.bounds-lenses-place
bounds-lenses-place g c =
    lens_within g.L.EditLens
    g.met.L.EditLens.left_edits_carry g.met.L.EditLens.right_edits_carry c.args.lenses.now (hub_tree c.args.parts.now) c.args.place (length c.args.parts.now.views.items)
    c.requires.in_step (length-map c.args.parts.now.views.items view_tree) c.requires.view

pub lift-requires : goal.lift-requires
lift-requires g c =
    let within = lens_within g.L.EditLens
    g.met.L.EditLens.left_edits_carry g.met.L.EditLens.right_edits_carry c.args.lenses.now (hub_tree c.args.parts.now) c.args.place (length c.args.parts.now.views.items)
    c.requires.in_step (length-map c.args.parts.now.views.items view_tree) c.requires.view in
    record {
      in_step = view_in_step g.L.EditLens
          g.met.L.EditLens.left_edits_carry g.met.L.EditLens.right_edits_carry c.args.lenses.now (hub_tree c.args.parts.now) c.args.place c.index-lenses-place.result (view_tree c.index.result.now)
          c.requires.in_step (slice_get_read c.args.lenses.now (length c.args.lenses.now) c.args.place c.index-lenses-place.result refl within c.index-lenses-place.is)
          (view_read g.L.EditLens view_tree word_tree c.args.parts.now.views.items c.args.place c.index.result.now c.requires.view c.index.ensures);
    }

pub returns-in-Err : goal.returns-in-Err
returns-in-Err g c =
    let within = lens_within g.L.EditLens
    g.met.L.EditLens.left_edits_carry g.met.L.EditLens.right_edits_carry c.args.lenses.now (hub_tree c.args.parts.now) c.args.place (length c.args.parts.now.views.items)
    c.requires.in_step (length-map c.args.parts.now.views.items view_tree) c.requires.view in
    view_refuses g.L.EditLens
    c.args.lenses.now (hub_tree c.args.parts.now) c.args.place c.index-lenses-place.result (view_tree c.index.result.now) (word_tree c.args.word.now) c.in-Err.fault
    (slice_get_read c.args.lenses.now (length c.args.lenses.now) c.args.place c.index-lenses-place.result refl within c.index-lenses-place.is)
    (view_read g.L.EditLens view_tree word_tree c.args.parts.now.views.items c.args.place c.index.result.now c.requires.view c.index.ensures)
    c.in-Err.ensures

pub lower_others-requires-clause-lens : goal.lower_others-requires-clause-lens
lower_others-requires-clause-lens g c =
    lens_within g.L.EditLens
    g.met.L.EditLens.left_edits_carry g.met.L.EditLens.right_edits_carry c.args.lenses.now (hub_tree c.args.parts.now) c.args.place (length c.args.parts.now.views.items)
    c.requires.in_step (length-map c.args.parts.now.views.items view_tree) c.requires.view

pub lower_others-requires-clause-lowers : goal.lower_others-requires-clause-lowers
lower_others-requires-clause-lowers g c =
    let within = lens_within g.L.EditLens
    g.met.L.EditLens.left_edits_carry g.met.L.EditLens.right_edits_carry c.args.lenses.now (hub_tree c.args.parts.now) c.args.place (length c.args.parts.now.views.items)
    c.requires.in_step (length-map c.args.parts.now.views.items view_tree) c.requires.view in
    subst (λ vs. CanLower g.L.EditLens (word_tree c.in-Ok.lifted.word) c.args.lenses.now (view_trees vs)) (sym c.deref.ensures.value)
    (view_can g.L.EditLens
    g.met.L.EditLens.left_edits_carry g.met.L.EditLens.right_edits_carry g.met.L.EditLens.consistent_is_typed
    c.args.lenses.now (hub_tree c.args.parts.now) c.args.place c.index-lenses-place.result (view_tree c.index.result.now)
    (word_tree c.in-Ok.lifted.word) (doc_tree c.in-Ok.lifted.hub.value) c.requires.in_step
    (slice_get_read c.args.lenses.now (length c.args.lenses.now) c.args.place c.index-lenses-place.result refl within c.index-lenses-place.is)
    (view_read g.L.EditLens view_tree word_tree c.args.parts.now.views.items c.args.place c.index.result.now c.requires.view c.index.ensures)
    c.in-Ok.ensures.hub_acts)

pub returns : goal.returns
returns g c =
    let within = lens_within g.L.EditLens
    g.met.L.EditLens.left_edits_carry g.met.L.EditLens.right_edits_carry c.args.lenses.now (hub_tree c.args.parts.now) c.args.place (length c.args.parts.now.views.items)
    c.requires.in_step (length-map c.args.parts.now.views.items view_tree) c.requires.view in
    rw (c.parts_of.ensures.hub, c.parts_of.ensures.views, c.parts_of.ensures.word, c.parts_of.ensures.words)
    (view_steps g.L.EditLens
    c.args.lenses.now (hub_tree c.args.parts.now) c.args.place c.index-lenses-place.result (view_tree c.index.result.now) (word_tree c.args.word.now)
    (view_tree c.in-Ok.lifted.view) (word_tree c.in-Ok.lifted.word) (doc_tree c.in-Ok.lifted.hub.value)
    (view_trees c.in_ok-lowered.lowered.views.items) (word_trees c.in_ok-lowered.lowered.words.items)
    (slice_get_read c.args.lenses.now (length c.args.lenses.now) c.args.place c.index-lenses-place.result refl within c.index-lenses-place.is)
    (view_read g.L.EditLens view_tree word_tree c.args.parts.now.views.items c.args.place c.index.result.now c.requires.view c.index.ensures)
    c.in-Ok.ensures
    (subst (λ vs. Adds (lower_others g.L.EditLens (word_tree c.in-Ok.lifted.word)
    (view_tree c.in-Ok.lifted.view, word_tree c.args.word.now) c.args.place c.args.lenses.now (view_trees vs)) [] []
    (view_trees c.in_ok-lowered.lowered.views.items) (word_trees c.in_ok-lowered.lowered.words.items)) c.deref.ensures.value
    (subst (λ w. Adds (lower_others g.L.EditLens (word_tree c.in-Ok.lifted.word)
    (view_tree c.in-Ok.lifted.view, w) c.args.place c.args.lenses.now (view_trees c.deref.result.now)) [] []
    (view_trees c.in_ok-lowered.lowered.views.items) (word_trees c.in_ok-lowered.lowered.words.items)) c.in_ok-own.ensures c.in_ok-lowered.ensures)))

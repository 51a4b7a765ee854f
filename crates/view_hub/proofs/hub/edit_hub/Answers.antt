use Rattle.std.proofs.Common.{length, refl, sym, subst}
use Rattle.std.proofs.lemmas.Option.{slice_get_read}
use Rattle.doc_values.specs.Documents.{doc_tree}
use Rattle.edit_module.specs.Views.{word_tree}
use Rattle.view_hub.specs.Lowering.{CanLower}
use Rattle.view_hub.specs.Views.{hub_tree, view_trees}
use Rattle.view_hub.proofs.HubOutcomes.{hub_can, some_lens}
use Rattle.view_hub.proofs.hub.edit_hub.Goals as goal

pub lower_all-requires : goal.lower_all-requires
lower_all-requires g c =
    let some = some_lens g.L.EditLens
    g.met.L.EditLens.left_edits_carry g.met.L.EditLens.right_edits_carry c.args.lenses.now (hub_tree c.args.parts.now) c.requires.in_step in
    let first = slice_get_read c.args.lenses.now (length c.args.lenses.now) 0 c.index-lenses-0.result refl some c.index-lenses-0.is in
    subst (λ vs. CanLower g.L.EditLens (word_tree c.args.word.now) c.args.lenses.now (view_trees vs)) (sym c.deref.ensures.value)
    (hub_can g.L.EditLens
    g.met.L.EditLens.left_edits_carry g.met.L.EditLens.right_edits_carry g.met.L.EditLens.consistent_is_typed
    c.args.lenses.now (hub_tree c.args.parts.now) c.index-lenses-0.result (word_tree c.args.word.now) (doc_tree c.in_ok-hub.hub.value)
    c.requires.in_step first c.in_ok-hub.ensures)

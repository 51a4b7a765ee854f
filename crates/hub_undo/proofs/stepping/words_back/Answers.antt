use Rattle.std.proofs.Common.{◌≡◌, true, Ok, sym, subst, ◌∙◌}
use Rattle.doc_values.specs.Documents.{doc_tree}
use Rattle.doc_values.specs.Types.{TyTree, is_well_formed}
use Rattle.doc_values.specs.Typing.{has}
use Rattle.edit_inverse.specs.Inverse.{inverse}
use Rattle.edit_inverse.specs.Laws.{TakesBack}
use Rattle.edit_module.specs.Action.{act}
use Rattle.edit_module.specs.Views.{word_tree, word_trees}
use Rattle.view_hub.specs.Views.{hub_carried_tree, hub_tree, view_trees}
use Rattle.hub_undo.proofs.OneEdit.{acts_count, hub_here, step_words, step_back, words_of_views, lengths_of_trees}
use Rattle.hub_undo.proofs.stepping.words_back.Goals as goal

pub word_back-requires-clause-well_formed : goal.word_back-requires-clause-well_formed
word_back-requires-clause-well_formed g c =
    subst (λ (t : TyTree). is_well_formed t ≡ true) (sym c.ty.ensures) (g.met.L.EditLens.types_are_well_formed c.index-lenses-0.result).0

pub word_back-requires-clause-typed : goal.word_back-requires-clause-typed
word_back-requires-clause-typed g c =
    let here = hub_here g.L.EditLens c.args.lenses.now c.index-lenses-0.result (hub_tree c.args.parts.now) (hub_carried_tree c.args.carried.now) c.requires.acted.0 c.requires.some c.index-lenses-0.is c.requires.acted.1 in
    subst (λ (t : TyTree). has t (doc_tree c.args.parts.now.hub.value) ≡ true) (sym c.ty.ensures) here.0

pub word_back-requires-clause-acts : goal.word_back-requires-clause-acts
word_back-requires-clause-acts g c =
    let after = c.requires.acted.0 in
    let here = hub_here g.L.EditLens c.args.lenses.now c.index-lenses-0.result (hub_tree c.args.parts.now) (hub_carried_tree c.args.carried.now) after c.requires.some c.index-lenses-0.is c.requires.acted.1 in
    (after.hub, subst (λ (t : TyTree). act t (word_tree c.args.carried.now.hub) (doc_tree c.args.parts.now.hub.value) ≡ Ok after.hub) (sym c.ty.ensures) here.1)

pub views_back-requires-clause-lenses : goal.views_back-requires-clause-lenses
views_back-requires-clause-lenses g c =
    let acts = c.requires.acted.1.views in
    let count = acts_count g.L.EditLens c.args.lenses.now (view_trees c.args.parts.now.views.items) (word_trees c.args.carried.now.views) c.requires.acted.0.views acts in
    count.0 ∙ lengths_of_trees word_tree c.args.carried.now.views c.as_slice.result.now (sym c.as_slice.ensures)

pub views_back-requires-clause-views : goal.views_back-requires-clause-views
views_back-requires-clause-views g c =
    let acts = c.requires.acted.1.views in
    let count = acts_count g.L.EditLens c.args.lenses.now (view_trees c.args.parts.now.views.items) (word_trees c.args.carried.now.views) c.requires.acted.0.views acts in
    rw c.deref.ensures.value (words_of_views c.args.parts.now.views.items (word_trees c.args.carried.now.views) count.1 ∙ lengths_of_trees word_tree c.args.carried.now.views c.as_slice.result.now (sym c.as_slice.ensures))

pub views_back-requires-clause-acted : goal.views_back-requires-clause-acted
views_back-requires-clause-acted g c =
    (c.requires.acted.0.views, rw (c.deref.ensures.value, c.as_slice.ensures) c.requires.acted.1.views)

pub returns-clause-is : goal.returns-clause-is
returns-clause-is g c =
    let of = g.L.EditLens in
    let ls = c.args.lenses.now in
    let l = c.index-lenses-0.result in
    let h = hub_tree c.args.parts.now in
    let carried = hub_carried_tree c.args.carried.now in
    let hub = subst (λ (t : TyTree). word_tree c.in_ok-hub.hub ≡ inverse t carried.hub h.hub) c.ty.ensures c.in_ok-hub.ensures.is in
    let views = rw (c.deref.ensures.value, c.as_slice.ensures) at c.in_ok-views.ensures.is in
    step_words of ls l h carried (record { hub = word_tree c.in_ok-hub.hub; views = word_trees c.in_ok-views.views }) c.requires.some c.index-lenses-0.is hub views

pub returns-clause-back : goal.returns-clause-back
returns-clause-back g c =
    let of = g.L.EditLens in
    let ls = c.args.lenses.now in
    let l = c.index-lenses-0.result in
    let h = hub_tree c.args.parts.now in
    let carried = hub_carried_tree c.args.carried.now in
    let back = word_tree c.in_ok-hub.hub in
    let takes = subst (λ (t : TyTree). TakesBack t back (act t carried.hub h.hub) h.hub) c.ty.ensures c.in_ok-hub.ensures.takes_back in
    let views = rw (c.deref.ensures.value, c.as_slice.ensures) at c.in_ok-views.ensures.back in
    λ after acts.
    step_back of ls l h carried (record { hub = back; views = word_trees c.in_ok-views.views }) after c.requires.some c.index-lenses-0.is takes (views after.views acts.views) acts

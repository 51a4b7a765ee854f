use Rattle.std.proofs.Common.{◌≡◌, sym, ap, subst, ◌∙◌}
use Rattle.view_hub.specs.Hubs.{CarriedTree, HubTree}
use Rattle.view_hub.specs.Laws.{IsHub}
use Rattle.view_hub.specs.Views.{hub_carried_tree, hub_tree}
use Rattle.hub_run.specs.FormLenses.{form_lens}
use Rattle.hub_run.specs.RunStates.{forms_of_lenses, ready_lens}
use Rattle.hub_undo.specs.HubUndone.{HubBringsBack, hub_undone}
use Rattle.hub_undo.specs.HubUndoing.{edits_of_all}
use Rattle.hub_undo.specs.UndoMaking.{change_trees}
use Rattle.hub_undo.proofs.UndoneForms.{forms_back, never_none, same_made, undone_is}
use Rattle.hub_undo.proofs.making.words_of.Goals as goal

pub unreachable-requires : goal.unreachable-requires
unreachable-requires c =
    let hub = c.args.hub.now in
    let es = edits_of_all (change_trees c.args.changes.now) in
    let h = hub_tree hub.parts in
    let none = rw c.in_default.is at c.in_ok-words.ensures.undone in
    never_none (hub_undone form_lens (forms_of_lenses hub.lenses) h es) c.requires.accepted.0 c.requires.accepted.1 (sym (undone_is hub.lenses h es) ∙ sym none)

pub replace-requires : goal.replace-requires
replace-requires c =
    let copy : hub_tree c.in_ok-earlier.earlier ≡ hub_tree c.args.hub.now.parts = c.in_ok-earlier.ensures ∙ ap hub_tree c.parts.ensures.parts in
    let here = subst (λ h. IsHub ready_lens c.args.hub.now.lenses h) (sym copy) c.parts.ensures.in_step in
    record { in_step = subst (λ ls. IsHub ready_lens ls (hub_tree c.in_ok-earlier.earlier)) (sym c.in_ok-words.ensures.lenses) here }

pub returns-clause-words : goal.returns-clause-words
returns-clause-words c =
    let hub = c.args.hub.now in
    let forms = forms_of_lenses hub.lenses in
    let es = edits_of_all (change_trees c.args.changes.now) in
    let h = hub_tree hub.parts in
    let k = hub_tree c.undo_changes.new.hub.parts in
    let words = hub_carried_tree c.in-Some.words in
    let made = rw c.in-Some.is at c.in_ok-words.ensures.undone in
    let back = rw c.in-Some.is at c.in_ok-words.ensures.brings_back in
    λ r is.
    let same : (k, words) ≡ r = same_made (hub_undone form_lens forms h es) (k, words) r (sym (undone_is hub.lenses h es) ∙ sym made) is in (
      ap (λ (p : HubTree × CarriedTree). p.1) same,
      subst (λ (p : HubTree × CarriedTree). HubBringsBack form_lens forms p.1 p.0 h) same (forms_back hub.lenses words k h back),
    )

use Rattle.std.proofs.Common.{◌≡◌, Some, None, sym, ap, ◌∙◌}
use Rattle.hub_records.specs.HubStands.{HubStanding}
use Rattle.hub_records.specs.Views.{hub_standing}
use Rattle.hub_undo.specs.HubUndoing.{last_hub_changes}
use Rattle.hub_undo.specs.UndoMaking.{change_trees}
use Rattle.hub_undo.proofs.Makings.{accepted_here, made_of, nothing_to_undo, replaced_in_step}
use Rattle.hub_undo.proofs.making.make_opened.Goals as goal

pub replace-requires : goal.replace-requires
replace-requires c =
    let twice = c.args.twice in
    let now : HubStanding = hub_standing twice.opened.hub twice.opened.count in
    let changes = change_trees c.in-Some.changes.items in
    let last : last_hub_changes c.args.count c.args.records.now ≡ Some changes = sym (rw c.in-Some.is at c.in_ok-changes.ensures) in
    record { in_step = replaced_in_step c.args.count c.args.records.now changes twice c.requires.stood last }

pub texts_of-requires : goal.texts_of-requires
texts_of-requires c =
    let twice = c.args.twice in
    let changes = change_trees c.as_slice.result.now in
    let last : last_hub_changes c.args.count c.args.records.now ≡ Some changes = sym (rw c.in-Some.is at c.in_ok-changes.ensures) ∙ ap (λ x. Some (change_trees x)) (sym c.as_slice.ensures.value) in
    record { accepted = rw (sym c.replace.ensures.lenses, sym c.replace.ensures.parts) at (accepted_here c.args.count c.args.records.now changes twice c.requires.stood last) }

pub returns : goal.returns
returns c =
    let twice = c.args.twice in
    let changes = change_trees c.as_slice.result.now in
    let last : last_hub_changes c.args.count c.args.records.now ≡ Some changes = sym (rw c.in-Some.is at c.in_ok-changes.ensures) ∙ ap (λ x. Some (change_trees x)) (sym c.as_slice.ensures.value) in
    made_of c.args.count c.args.records.now changes twice c.requires.stood last c.in_ok-texts.texts (rw (c.replace.ensures.lenses, c.replace.ensures.parts) at c.in_ok-texts.ensures)

pub returns-in_default : goal.returns-in_default
returns-in_default c =
    let twice = c.args.twice in
    let none : last_hub_changes c.args.count c.args.records.now ≡ None = sym (rw c.in_default.is at c.in_ok-changes.ensures) in
    nothing_to_undo c.args.count c.args.records.now (hub_standing twice.opened.hub twice.opened.count) c.requires.stood.now none

use Rattle.std.proofs.Common.{◌≡◌, ℕ, List, take, Ok, sym, ap, subst, ◌∙◌}
use Rattle.lens_forms.specs.Forms.{form_tree}
use Rattle.edit_session.specs.Views.{triple_tree}
use Rattle.store_session.specs.Stands.{Standing, stands}
use Rattle.store_session.specs.Standings.{standing}
use Rattle.store_session.proofs.PartsStand.{first_stands}
use Rattle.store_session.proofs.reopening.reopen_first.Goals as goal

pub take_records-requires-clause-stood : goal.take_records-requires-clause-stood
take_records-requires-clause-stood g c =
    let o = c.in_ok-opened.opened in
    let stored = c.args.stored.now in
    let s = standing (form_tree stored.typed) (triple_tree o.session.triple) o.count o.version in
    let first = first_stands c.args.payloads.now (form_tree stored.typed, stored.version) c.requires.stored in
    subst (λ (ps : List (List ℕ)). stands (take 1 ps) ≡ Ok s) (sym c.as_slice-records.ensures) (first ∙ ap (λ (x : Standing). Ok x) (sym c.in_ok-opened.ensures.stands))

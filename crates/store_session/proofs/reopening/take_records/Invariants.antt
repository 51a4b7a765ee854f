use Rattle.std.proofs.Common.{◌≡◌, ◌≤◌, Ok, take}
use Rattle.lens_forms.specs.Forms.{form_tree}
use Rattle.edit_session.specs.Views.{triple_tree}
use Rattle.store_session.specs.Stands.{stands}
use Rattle.store_session.specs.Standings.{standing}
use Rattle.store_session.proofs.reopening.take_records.Given as goal

-- the session is that of the payloads before this place
abbrev pub invariant-loop-at : goal.invariant-loop-at
invariant-loop-at g l = record {
  lens : l.opened.session.lens ≡ l.fn.opened.session.lens;
  count : l.opened.count ≤ l.at;
  stood : stands (take l.at l.records) ≡ Ok (standing (form_tree l.typed) (triple_tree l.opened.session.triple) l.opened.count l.opened.version);
}

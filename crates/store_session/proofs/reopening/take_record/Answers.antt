use Rattle.std.proofs.Common.{Result, sym, subst}
use Rattle.edit_module.specs.Views.{change_tree}
use Rattle.lens_forms.specs.Forms.{form_tree}
use Rattle.edit_session.specs.Views.{triple_tree}
use Rattle.store_records.specs.declared.record_fault.RecordFault.{RecordFault}
use Rattle.store_session.specs.ReopenOutcomes.{Reaches}
use Rattle.store_session.specs.Stands.{Standing}
use Rattle.store_session.specs.Standings.{standing}
use Rattle.store_session.proofs.RecordsTaken.{change_after}
use Rattle.store_session.proofs.reopening.take_record.Goals as goal

pub returns-in-Some-clause-stands : goal.returns-in-Some-clause-stands
returns-in-Some-clause-stands g c =
    let form = form_tree c.args.typed.now in
    let before = c.args.opened.now in
    let after = c.take_change.new.opened in
    subst (λ (wanted : Result Standing RecordFault). Reaches c.take_change.result wanted (standing form (triple_tree after.session.triple) after.count after.version))
    (sym (change_after c.args.number (standing form (triple_tree before.session.triple) before.count before.version) c.args.payload.now (change_tree c.in-Some.change) c.in-Some.ensures))
    (c.take_change.ensures.stands form c.requires.means)

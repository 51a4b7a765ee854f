use Rattle.std.proofs.Common.{◌≡◌, ◌+◌, ◌<◌, ℕ, List, length, take, Result, sym, subst, ◌∙◌, arith}
use Rattle.std.proofs.lemmas.Result.{err_from_is_err_and}
use Rattle.lens_forms.specs.Forms.{form_tree}
use Rattle.edit_session.specs.Views.{triple_tree}
use Rattle.store_records.specs.RecordJson.{record_in}
use Rattle.store_records.specs.declared.record_fault.RecordFault.{RecordFault}
use Rattle.store_session.specs.ReopenOutcomes.{IsReopenFault}
use Rattle.store_session.specs.Stands.{Standing, stands, after_record}
use Rattle.store_session.specs.Standings.{standing}
use Rattle.store_session.proofs.PartsStand.{next_stands, all_fail}
use Rattle.store_session.proofs.reopening.take_records.Goals as goal

pub take_record-requires-clause-means : goal.take_record-requires-clause-means
take_record-requires-clause-means g c = rw c.loop-at.invariant.lens c.requires.means

pub loop-at-preserved : goal.loop-at-preserved
loop-at-preserved g c =
    let l = c.loop-at in
    let ps = c.args.records.now in
    let s = standing (form_tree c.args.typed.now) (triple_tree l.opened.session.triple) l.opened.count l.opened.version in
    let within : l.at < length ps = omega (arith, c.loop-at-test.true, c.requires.within) in
    let next = next_stands l.at ps c.index-records-at.result s within c.index-records-at.is l.invariant.stood in
    let taken = subst (λ (x : List ℕ). stands (take (l.at + 1) ps) ≡ after_record (l.at + 1) s (record_in x)) (sym c.as_slice.ensures) next in
    record {
      lens = c.take_record.ensures.lens ∙ l.invariant.lens;
      count = omega (arith, c.take_record.ensures.count, l.invariant.count);
      stood = taken ∙ c.in_ok-take_record.ensures.stands;
    }

pub returns-in_err-take_record-clause-stands : goal.returns-in_err-take_record-clause-stands
returns-in_err-take_record-clause-stands g c =
    let l = c.loop-at in
    let ps = c.args.records.now in
    let fault = c.in_err-take_record.field-0.0 in
    let s = standing (form_tree c.args.typed.now) (triple_tree l.opened.session.triple) l.opened.count l.opened.version in
    let within : l.at < length ps = omega (arith, c.loop-at-test.true, c.requires.within) in
    let next = next_stands l.at ps c.index-records-at.result s within c.index-records-at.is l.invariant.stood in
    let taken = subst (λ (x : List ℕ). stands (take (l.at + 1) ps) ≡ after_record (l.at + 1) s (record_in x)) (sym c.as_slice.ensures) next in
    let here = subst (λ (r : Result Standing RecordFault). IsReopenFault r fault) (sym taken) c.in_err-take_record.ensures.stands in
    let p = err_from_is_err_and c.from_residual.result c.from_residual.ensures.1 in
    rw (p.1, p.2) (all_fail (l.at + 1) ps fault (omega arith) (omega (arith, within)) here)

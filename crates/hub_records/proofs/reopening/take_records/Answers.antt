use Rattle.std.proofs.Common.{◌≡◌, ◌+◌, ◌<◌, ℕ, List, length, take, Result, sym, subst, ◌∙◌, arith}
use Rattle.std.proofs.lemmas.Result.{err_from_is_err_and}
use Rattle.store_records.specs.declared.record_fault.RecordFault.{RecordFault}
use Rattle.hub_records.specs.HubRecords.{hub_record_in}
use Rattle.hub_records.specs.HubStands.{HubStanding, hub_after_record, stands_as_hub}
use Rattle.hub_records.specs.Outcomes.{IsStandFault}
use Rattle.hub_records.specs.Views.{hub_standing}
use Rattle.hub_records.proofs.PartsStand.{next_stands, all_fail}
use Rattle.hub_records.proofs.reopening.take_records.Goals as goal

pub loop-at-preserved : goal.loop-at-preserved
loop-at-preserved c =
    let l = c.loop-at in
    let ps = c.args.records.now in
    let s = hub_standing l.opened.hub l.opened.count in
    let within : l.at < length ps = omega (arith, c.loop-at-test.true, c.requires.within) in
    let next = next_stands l.at ps c.index-records-at.result s within c.index-records-at.is l.invariant.stood in
    let taken = subst (λ (x : List ℕ). stands_as_hub (take (l.at + 1) ps) ≡ hub_after_record (l.at + 1) s (hub_record_in x)) (sym c.as_slice.ensures) next in
    record {
      count = omega (arith, c.take_record.ensures.count, l.invariant.count);
      stood = taken ∙ c.in_ok-take_record.ensures.stands;
    }

pub returns-in_err-take_record-clause-stands : goal.returns-in_err-take_record-clause-stands
returns-in_err-take_record-clause-stands c =
    let l = c.loop-at in
    let ps = c.args.records.now in
    let fault = c.in_err-take_record.field-0.0 in
    let s = hub_standing l.opened.hub l.opened.count in
    let within : l.at < length ps = omega (arith, c.loop-at-test.true, c.requires.within) in
    let next = next_stands l.at ps c.index-records-at.result s within c.index-records-at.is l.invariant.stood in
    let taken = subst (λ (x : List ℕ). stands_as_hub (take (l.at + 1) ps) ≡ hub_after_record (l.at + 1) s (hub_record_in x)) (sym c.as_slice.ensures) next in
    let here = subst (λ (r : Result HubStanding RecordFault). IsStandFault r fault) (sym taken) c.in_err-take_record.ensures.stands in
    let p = err_from_is_err_and c.from_residual.result c.from_residual.ensures.1 in
    rw (p.1, p.2) (all_fail (l.at + 1) ps fault (omega arith) (omega (arith, within)) here)

use Rattle.std.proofs.Common.{◌≡◌, ◌∙◌, inl, inr, Err, get_or, sym, ap, subst, arith}
use Rattle.gate_log.specs.LogOnDisk.{LogState}
use Rattle.gate_log.specs.declared.fault.LogFault.{LogFault}
use Rattle.store_run.proofs.Outcomes.{passed_on}
use Rattle.store_new.specs.Making.{StopsAppending}
use Rattle.store_new.proofs.Appending.{one_more, stopped}
use Rattle.store_new.proofs.making.append_all.Goals as goal

pub returns-in_err-append-clause-stopped : goal.returns-in_err-append-clause-stopped
returns-in_err-append-clause-stopped g c =
    let disk = g.D.Disk in
    let l = c.loop-next in
    let records = c.as_slice-records.result.now in
    let payload = c.as_slice.result.now in
    let fault = c.in_err-append.field-0.0 in
    let is = subst (λ p. p ≡ get_or records l.next p) (sym c.as_slice.ensures) c.index-records-next.is in
    passed_on c.from_residual.result (StopsAppending disk c.append.new.disk c.args.payloads.now) fault
    (stopped disk g.met.D.Disk.content_is_image l.disk c.append.new.disk l.log c.append.new.self c.args.payloads.now records l.next payload fault c.loop-next-test.true is l.invariant.stored
    c.in_err-append.ensures.ends (λ e. c.in_err-append.ensures.full.0 (ap (λ (x : LogFault). Err x) e))
    (λ why. elim why [ inl e ↦ c.in_err-append.ensures.untouched (inl (ap (λ (x : LogFault). Err x) e)) | inr e ↦ c.in_err-append.ensures.untouched (inr (ap (λ (x : LogFault). Err x) e)) ]))
    c.from_residual.ensures.1

pub loop-next-preserved : goal.loop-next-preserved
loop-next-preserved g c =
    let disk = g.D.Disk in
    let l = c.loop-next in
    let records = c.as_slice-records.result.now in
    let payload = c.as_slice.result.now in
    let is = subst (λ p. p ≡ get_or records l.next p) (sym c.as_slice.ensures) c.index-records-next.is in
    record {
      stored = one_more disk l.disk c.append.new.disk l.log c.append.new.self c.args.payloads.now records l.next payload c.loop-next-test.true is l.invariant.stored
          c.in_ok-append.ensures.ends (ap (λ (x : LogState). x.gate) c.in_ok-append.ensures.log) c.in_ok-append.ensures.rest;
      faults = omega (arith, l.invariant.faults, c.in_ok-append.ensures.faults);
      room = c.append.ensures.room ∙ l.invariant.room;
    }

use Rattle.std.proofs.Common.{rules, ◌≡◌, ◌+◌, ◌-◌, ◌^◌, ◌<◌, List, ℕ, length, Result, Ok, Err, IfSome, sym, ap, ◌∙◌, subst, arith}
use Rattle.lens_io.specs.DiskRuns.{LeavesOnly}
use Rattle.gate_log.specs.CallEnds.{AppendEnds, AppendLeaves}
use Rattle.gate_log.specs.LogOnDisk.{LogState, HoldsOneMore, Stands}
use Rattle.gate_log.specs.Steps.{KeepsBehind}
use Rattle.gate_log.specs.declared.fault.LogFault.{LogFault}
use Rattle.gate_log.specs.declared.fault.LogFault.TheVariants.{LogFull}
use Rattle.sealed_log.specs.SealedLists.{sealed}
use Rattle.sealed_log.specs.SealedRecords.{seal_of}
use Rattle.sealed_log.specs.SealedLogs.{SealedAppendEnds, SealedAppendLeaves, SealedStands, next_number, next_record}
use Rattle.sealed_log.proofs.Appends.{ends_err, ends_ok, leaves_of, read_err, read_ok, weaker_known}
use Rattle.sealed_log.proofs.log.SealedLog.append.Goals as goal

pub returns-in_err-append-clause-ends : goal.returns-in_err-append-clause-ends
returns-in_err-append-clause-ends g c =
    let d = g.D.Disk in
    let old = d.content c.args.disk.now in
    let new = d.content c.append.new.disk in
    let before = d.images c.args.disk.now in
    let after = d.images c.append.new.disk in
    let log = c.args.self.now in
    let payload = c.args.payload.now in
    let bytes = c.as_slice.result.now in
    let first = c.self.inside.stored in
    let then = c.append.new.self in
    let stored_is : first ≡ log.stored = search rules in
    let bytes_are : bytes ≡ next_record log payload = search rules in
    let n = length bytes in
    let step = KeepsBehind (first.gate + 10 + n) in
    let rest = c.append.ensures.rest in
    let fault = c.in_err-append.field-0.0 in
    let came : c.append.result ≡ Err fault = search rules in
    let result_is : c.from_residual-in_err-append.result ≡ Err fault = search rules in
    let full : 2 ^ 63 - 1 < log.stored.gate + 10 + n → Err fault ≡ Err LogFull =
    λ over. sym came ∙ c.append.ensures.full.1 (omega (arith, over, ap (λ (l : LogState). l.gate) stored_is)) in
    let last : c.self.inside.last ≡ log.last = search rules in
    λ held stands.
    let plain : Stands old before first (sealed held) = subst (λ (l : LogState). Stands old before l (sealed held)) (sym stored_is) stands.records in
    let made : AppendEnds (Stands new after then) after (sealed held) (next_record log payload) (Err fault) =
    subst (λ (b : List ℕ). AppendEnds (Stands new after then) after (sealed held) b (Err fault)) bytes_are
    (subst (λ (r : Result (Unit {0}) LogFault). AppendEnds (Stands new after then) after (sealed held) bytes r) came (c.append.ensures.ends (sealed held) plain)) in
    let ends = ends_err old new before after log held payload stands step rest n then fault full (λ i now. g.met.D.Disk.content_is_image c.append.new.disk i now) made in
    subst (λ (r : Result (Unit {0}) LogFault). SealedAppendEnds (SealedStands new after (record { stored = then; last = c.self.inside.last })) after held payload r) (sym result_is)
    (subst (λ (l : ℕ). SealedAppendEnds (SealedStands new after (record { stored = then; last = l })) after held payload (Err fault)) (sym last) ends)

pub returns-in_err-append-clause-read : goal.returns-in_err-append-clause-read
returns-in_err-append-clause-read g c =
    let d = g.D.Disk in
    let old = d.content c.args.disk.now in
    let new = d.content c.append.new.disk in
    let before = d.images c.args.disk.now in
    let after = d.images c.append.new.disk in
    let log = c.args.self.now in
    let payload = c.args.payload.now in
    let bytes = c.as_slice.result.now in
    let first = c.self.inside.stored in
    let then = c.append.new.self in
    let stored_is : first ≡ log.stored = search rules in
    let bytes_are : bytes ≡ next_record log payload = search rules in
    let n = length bytes in
    let step = KeepsBehind (first.gate + 10 + n) in
    let rest = c.append.ensures.rest in
    let fault = c.in_err-append.field-0.0 in
    let came : c.append.result ≡ Err fault = search rules in
    let result_is : c.from_residual-in_err-append.result ≡ Err fault = search rules in
    let full : 2 ^ 63 - 1 < log.stored.gate + 10 + n → Err fault ≡ Err LogFull =
    λ over. sym came ∙ c.append.ensures.full.1 (omega (arith, over, ap (λ (l : LogState). l.gate) stored_is)) in
    λ held stands.
    let plain : Stands old before first (sealed held) = subst (λ (l : LogState). Stands old before l (sealed held)) (sym stored_is) stands.records in
    let made : AppendEnds (Stands new after then) after (sealed held) (next_record log payload) (Err fault) =
    subst (λ (b : List ℕ). AppendEnds (Stands new after then) after (sealed held) b (Err fault)) bytes_are
    (subst (λ (r : Result (Unit {0}) LogFault). AppendEnds (Stands new after then) after (sealed held) bytes r) came (c.append.ensures.ends (sealed held) plain)) in
    let read : IfSome new (HoldsOneMore (sealed held) (next_record log payload)) =
    subst (λ (b : List ℕ). IfSome new (HoldsOneMore (sealed held) b)) bytes_are (c.append.ensures.read (sealed held) plain) in
    read_err old new before after log held payload stands step rest n then fault full made read

pub returns-in_err-append-clause-moments : goal.returns-in_err-append-clause-moments
returns-in_err-append-clause-moments g c =
    let d = g.D.Disk in
    let old = d.content c.args.disk.now in
    let new = d.content c.append.new.disk in
    let before = d.images c.args.disk.now in
    let after = d.images c.append.new.disk in
    let log = c.args.self.now in
    let payload = c.args.payload.now in
    let bytes = c.as_slice.result.now in
    let first = c.self.inside.stored in
    let then = c.append.new.self in
    let stored_is : first ≡ log.stored = search rules in
    let bytes_are : bytes ≡ next_record log payload = search rules in
    let n = length bytes in
    let step = KeepsBehind (first.gate + 10 + n) in
    let rest = c.append.ensures.rest in
    let fault = c.in_err-append.field-0.0 in
    let came : c.append.result ≡ Err fault = search rules in
    let result_is : c.from_residual-in_err-append.result ≡ Err fault = search rules in
    let full : 2 ^ 63 - 1 < log.stored.gate + 10 + n → Err fault ≡ Err LogFull =
    λ over. sym came ∙ c.append.ensures.full.1 (omega (arith, over, ap (λ (l : LogState). l.gate) stored_is)) in
    λ held stands.
    let plain : Stands old before first (sealed held) = subst (λ (l : LogState). Stands old before l (sealed held)) (sym stored_is) stands.records in
    let run : LeavesOnly d c.args.disk.now c.append.new.disk (AppendLeaves (sealed held) (next_record log payload) (Err fault)) =
    subst (λ (b : List ℕ). LeavesOnly d c.args.disk.now c.append.new.disk (AppendLeaves (sealed held) b (Err fault))) bytes_are
    (subst (λ (r : Result (Unit {0}) LogFault). LeavesOnly d c.args.disk.now c.append.new.disk (AppendLeaves (sealed held) bytes r)) came
    (c.append.ensures.moments (sealed held) plain)) in
    let leaves : LeavesOnly d c.args.disk.now c.append.new.disk (SealedAppendLeaves held payload (Err fault)) =
    weaker_known d (λ (disk : g.row.D.Denot) t i was. g.met.D.Disk.since_is_told disk t i was) c.args.disk.now c.append.new.disk _ _ run
    (λ i known p. leaves_of old new before after log held payload stands step rest n then (Err fault) full i known p) in
    subst (λ (r : Result (Unit {0}) LogFault). LeavesOnly d c.args.disk.now c.append.new.disk (SealedAppendLeaves held payload r)) (sym result_is) leaves

pub returns-clause-ends : goal.returns-clause-ends
returns-clause-ends g c =
    let d = g.D.Disk in
    let old = d.content c.args.disk.now in
    let new = d.content c.append.new.disk in
    let before = d.images c.args.disk.now in
    let after = d.images c.append.new.disk in
    let log = c.args.self.now in
    let payload = c.args.payload.now in
    let bytes = c.as_slice.result.now in
    let first = c.self.inside.stored in
    let then = c.append.new.self in
    let stored_is : first ≡ log.stored = search rules in
    let bytes_are : bytes ≡ next_record log payload = search rules in
    let n = length bytes in
    let step = KeepsBehind (first.gate + 10 + n) in
    let rest = c.append.ensures.rest in
    let came : c.append.result ≡ Ok tt = search rules in
    let full : 2 ^ 63 - 1 < log.stored.gate + 10 + n → Ok tt ≡ Err LogFull =
    λ over. sym came ∙ c.append.ensures.full.1 (omega (arith, over, ap (λ (l : LogState). l.gate) stored_is)) in
    let seal : c.in_ok-record.record.seal ≡ seal_of log.last (next_number log) payload = search rules in
    λ held stands.
    let plain : Stands old before first (sealed held) = subst (λ (l : LogState). Stands old before l (sealed held)) (sym stored_is) stands.records in
    let made : AppendEnds (Stands new after then) after (sealed held) (next_record log payload) (Ok tt) =
    subst (λ (b : List ℕ). AppendEnds (Stands new after then) after (sealed held) b (Ok tt)) bytes_are
    (subst (λ (r : Result (Unit {0}) LogFault). AppendEnds (Stands new after then) after (sealed held) bytes r) came (c.append.ensures.ends (sealed held) plain)) in
    ends_ok old new before after log held payload stands step rest n then full c.in_ok-record.record.seal seal made

pub returns-clause-read : goal.returns-clause-read
returns-clause-read g c =
    let d = g.D.Disk in
    let old = d.content c.args.disk.now in
    let new = d.content c.append.new.disk in
    let before = d.images c.args.disk.now in
    let after = d.images c.append.new.disk in
    let log = c.args.self.now in
    let payload = c.args.payload.now in
    let bytes = c.as_slice.result.now in
    let first = c.self.inside.stored in
    let then = c.append.new.self in
    let stored_is : first ≡ log.stored = search rules in
    let bytes_are : bytes ≡ next_record log payload = search rules in
    let n = length bytes in
    let step = KeepsBehind (first.gate + 10 + n) in
    let rest = c.append.ensures.rest in
    let came : c.append.result ≡ Ok tt = search rules in
    let full : 2 ^ 63 - 1 < log.stored.gate + 10 + n → Ok tt ≡ Err LogFull =
    λ over. sym came ∙ c.append.ensures.full.1 (omega (arith, over, ap (λ (l : LogState). l.gate) stored_is)) in
    λ held stands.
    let plain : Stands old before first (sealed held) = subst (λ (l : LogState). Stands old before l (sealed held)) (sym stored_is) stands.records in
    let read : IfSome new (HoldsOneMore (sealed held) (next_record log payload)) =
    subst (λ (b : List ℕ). IfSome new (HoldsOneMore (sealed held) b)) bytes_are (c.append.ensures.read (sealed held) plain) in
    read_ok old new before after log held payload stands step rest n then full read

pub returns-clause-moments : goal.returns-clause-moments
returns-clause-moments g c =
    let d = g.D.Disk in
    let old = d.content c.args.disk.now in
    let new = d.content c.append.new.disk in
    let before = d.images c.args.disk.now in
    let after = d.images c.append.new.disk in
    let log = c.args.self.now in
    let payload = c.args.payload.now in
    let bytes = c.as_slice.result.now in
    let first = c.self.inside.stored in
    let then = c.append.new.self in
    let stored_is : first ≡ log.stored = search rules in
    let bytes_are : bytes ≡ next_record log payload = search rules in
    let n = length bytes in
    let step = KeepsBehind (first.gate + 10 + n) in
    let rest = c.append.ensures.rest in
    let came : c.append.result ≡ Ok tt = search rules in
    let full : 2 ^ 63 - 1 < log.stored.gate + 10 + n → Ok tt ≡ Err LogFull =
    λ over. sym came ∙ c.append.ensures.full.1 (omega (arith, over, ap (λ (l : LogState). l.gate) stored_is)) in
    λ held stands.
    let plain : Stands old before first (sealed held) = subst (λ (l : LogState). Stands old before l (sealed held)) (sym stored_is) stands.records in
    let run : LeavesOnly d c.args.disk.now c.append.new.disk (AppendLeaves (sealed held) (next_record log payload) (Ok tt)) =
    subst (λ (b : List ℕ). LeavesOnly d c.args.disk.now c.append.new.disk (AppendLeaves (sealed held) b (Ok tt))) bytes_are
    (subst (λ (r : Result (Unit {0}) LogFault). LeavesOnly d c.args.disk.now c.append.new.disk (AppendLeaves (sealed held) bytes r)) came
    (c.append.ensures.moments (sealed held) plain)) in
    let leaves : LeavesOnly d c.args.disk.now c.append.new.disk (SealedAppendLeaves held payload (Ok tt)) =
    weaker_known d (λ (disk : g.row.D.Denot) t i was. g.met.D.Disk.since_is_told disk t i was) c.args.disk.now c.append.new.disk _ _ run
    (λ i known p. leaves_of old new before after log held payload stands step rest n then (Ok tt) full i known p) in
    leaves

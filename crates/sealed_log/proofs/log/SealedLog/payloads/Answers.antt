use Rattle.std.proofs.Common.{rules, ◌≡◌, ◌≤◌, length, Result, Ok, Err, IfSome, sym, ◌∙◌, subst, arith}
use Rattle.gate_log.specs.CallEnds.{NoBadRecord}
use Rattle.gate_log.specs.declared.fault.LogFault.{LogFault}
use Rattle.gate_log.specs.declared.fault.LogFault.TheVariants.{BadRecord}
use Rattle.lens_io.specs.declared.payloads.Payloads.{Payloads}
use Rattle.sealed_log.specs.SealedLists.{unsealed, IsUnsealFault}
use Rattle.sealed_log.specs.SealedLogs.{log_fault_of}
use Rattle.sealed_log.proofs.Openings.{holds_sealed, length_unsealed, same_held, never_bad_of, numbers_of}
use Rattle.sealed_log.proofs.log.SealedLog.payloads.Goals as goal

pub returns-clause-all : goal.returns-clause-all
returns-clause-all g c =
    let stored = c.in_ok-records.records in
    let is : unsealed stored ≡ Ok c.in_ok-unsealed.unsealed.payloads = search rules in
    holds_sealed (g.D.Disk.content c.args.disk.now) stored c.in_ok-unsealed.unsealed.payloads is c.in_ok-records.ensures.all

pub returns-clause-count : goal.returns-clause-count
returns-clause-count g c =
    let stored = c.in_ok-records.records in
    let is : unsealed stored ≡ Ok c.in_ok-unsealed.unsealed.payloads = search rules in
    let count : length stored ≡ c.args.self.now.stored.count = search rules in
    length_unsealed stored c.in_ok-unsealed.unsealed.payloads is ∙ count

pub returns-clause-payloads : goal.returns-clause-payloads
returns-clause-payloads g c =
    let stored = c.in_ok-records.records in
    let is : unsealed stored ≡ Ok c.in_ok-unsealed.unsealed.payloads = search rules in
    λ held stands. same_held (g.D.Disk.content c.args.disk.now) stored c.in_ok-unsealed.unsealed.payloads held is c.in_ok-records.ensures.all stands.records.read

pub returns-in_err-unsealed-clause-numbers : goal.returns-in_err-unsealed-clause-numbers
returns-in_err-unsealed-clause-numbers g c =
    let stored = c.in_ok-records.records in
    let fault = c.in_err-unsealed.field-0.0 in
    let result_is : c.from_residual-in_err-unsealed.result ≡ Err (log_fault_of fault) = search rules in
    let refused : IsUnsealFault stored fault = search rules in
    let count : length stored ≡ c.args.self.now.stored.count = search rules in
    λ number is.
    let same : log_fault_of fault ≡ BadRecord number = cc (result_is, is) in
    let found : (1 ≤ number) × (number ≤ length stored) = numbers_of stored fault number refused same in
    (found.0, omega (arith, found.1, count))

pub returns-in_err-unsealed-clause-never_bad : goal.returns-in_err-unsealed-clause-never_bad
returns-in_err-unsealed-clause-never_bad g c =
    let stored = c.in_ok-records.records in
    let content = g.D.Disk.content c.args.disk.now in
    let fault = c.in_err-unsealed.field-0.0 in
    let result_is : c.from_residual-in_err-unsealed.result ≡ Err (log_fault_of fault) = search rules in
    let refused : IsUnsealFault stored fault = search rules in
    λ held stands.
    subst (λ (r : Result Payloads LogFault). IfSome content (λ _. NoBadRecord r)) (sym result_is)
    (never_bad_of Payloads content stored held fault refused c.in_ok-records.ensures.all stands.records.read)

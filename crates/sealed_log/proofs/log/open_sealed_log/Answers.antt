use Rattle.std.proofs.Common.{rules, ◌≡◌, List, ℕ, Ok, Option, IfSome, sym, subst}
use Rattle.gate_log.specs.LogOnDisk.{HoldsPayloads, Stands}
use Rattle.sealed_log.specs.SealedLists.{last_seal, unsealed}
use Rattle.sealed_log.proofs.Openings.{holds_sealed, always}
use Rattle.sealed_log.proofs.log.open_sealed_log.Goals as goal

pub returns-clause-log : goal.returns-clause-log
returns-clause-log g c =
    let stored = c.in_ok-records.records in
    let held = c.in_ok-unsealed.unsealed.payloads in
    let d = g.D.Disk in
    let old = d.content c.args.disk.now in
    let mid = d.content c.open_log.new.disk in
    let new = d.content c.payloads.new.disk in
    let is : unsealed stored ≡ Ok held = search rules in
    let last : c.in_ok-unsealed.unsealed.last ≡ last_seal held = search rules in
    let began : mid ≡ old = c.in_ok-stored.ensures.content in
    let goes_on : new ≡ mid = c.in_ok-records.ensures.content in
    let all : IfSome mid (HoldsPayloads stored) = c.in_ok-records.ensures.all in
    let all_old : IfSome old (HoldsPayloads stored) = subst (λ (o : Option (List ℕ)). IfSome o (HoldsPayloads stored)) began all in
    let all_new : IfSome new (HoldsPayloads stored) = subst (λ (o : Option (List ℕ)). IfSome o (HoldsPayloads stored)) (sym goes_on) all in
    let found = c.in_ok-stored.ensures.log in
    let stands : Stands new (d.images c.payloads.new.disk) c.in_ok-stored.stored found.0 = c.in_ok-records.ensures.stands found.0 found.2 in (
      holds_sealed old stored held is all_old,
      record {
        records = record { sound = stands.sound; behind = stands.behind; read = holds_sealed new stored held is all_new };
        goes_on = always new (c.in_ok-unsealed.unsealed.last ≡ last_seal held) last;
      },
    )

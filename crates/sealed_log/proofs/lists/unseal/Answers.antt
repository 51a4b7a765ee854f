use Rattle.std.proofs.Common.{◌≡◌, ◌+◌, ◌<◌, ◌++◌, [], ◌∷◌, List, ℕ, length, length-append, drop, Some, None, sym, ap, ap₂, ◌∙◌, arith, rules}
use Rattle.sealed_log.specs.SealedRecords.{seal_of, opened_record}
use Rattle.sealed_log.specs.SealedLists.{first_seal, unsealed_from, last_seal}
use Rattle.sealed_log.proofs.SealedLists.{behind_payloads, unsealed-more, unsealed-bad, last_seal-more}
use Rattle.sealed_log.proofs.lists.unseal.Goals as goal

pub returns-in_default-clause-payloads : goal.returns-in_default-clause-payloads
returns-in_default-clause-payloads c =
    let l = c.loop-i in
    let it = c.index-stored-i.result in
    let stored = c.args.stored.now in
    let within : l.i < length stored = omega (arith, c.loop-i-test.true) in
    let found : opened_record l.last (l.i + 1) c.as_slice.result.now ≡ None = search rules in
    let bad : opened_record l.last (l.i + 1) it ≡ None = ap (opened_record l.last (l.i + 1)) (sym c.as_slice.ensures) ∙ found in
    sym l.invariant.all ∙ unsealed-bad stored l.payloads.items l.last l.i it within c.index-stored-i.is bad

pub loop-i-preserved : goal.loop-i-preserved
loop-i-preserved c =
    let l = c.loop-i in
    let it = c.index-stored-i.result in
    let stored = c.args.stored.now in
    let payload = c.in-Some.record.payload in
    let out = l.payloads.items in
    let within : l.i < length stored = omega (arith, c.loop-i-test.true) in
    let some : opened_record l.last (l.i + 1) c.as_slice.result.now ≡ Some payload = search rules in
    let seal : c.in-Some.record.seal ≡ seal_of l.last (l.i + 1) payload = search rules in
    let opened : opened_record l.last (l.i + 1) it ≡ Some payload = ap (opened_record l.last (l.i + 1)) (sym c.as_slice.ensures) ∙ some in
    let items : c.push.new.self.items ≡ out ++ payload ∷ [] = search rules in
    let place : l.i + 1 ≡ 1 + length out = omega (arith, l.invariant.count) in
    record {
      all =
          ap₂ (λ (all : List (List ℕ)) (s : ℕ). behind_payloads all (unsealed_from s (l.i + 1 + 1) (drop (l.i + 1) stored))) items seal
          ∙ unsealed-more stored out l.last l.i it payload within c.index-stored-i.is opened
          ∙ l.invariant.all;
      seal =
          seal
          ∙ ap₂ (λ before number. seal_of before number payload) l.invariant.seal place
          ∙ sym (last_seal-more first_seal 1 out payload)
          ∙ ap last_seal (sym items);
      count = omega (arith, ap length items, length-append out (payload ∷ []), l.invariant.count);
    }

-- A chain has no place for a record that differs only within 32 adjacent bits.
use Rattle.std.proofs.Common.{◌≡◌, ◌≢◌, ℕ, suc, ◌+◌, ◌^◌, ◌<◌, List, [], ◌∷◌, ◌++◌, length, sym, ◌∙◌, subst, arith}
use Rattle.record_sums.specs.Bursts.{IsBytes, DifferWithin}
use Rattle.record_sums.specs.Chains.{StoredRecord, IsIntact, IsChain, last_checksum}
use Rattle.record_sums.proofs.ByteBits.{each_byte}
use Rattle.record_sums.proofs.Noticed.{record_sum-lt, record_sum-payload, record_sum-before}

-- what is behind a prefix of a chain is a chain that goes on from it
pub chain-behind : (before number : ℕ) (front rest : List StoredRecord) → IsChain before number (front ++ rest)
    → IsChain (last_checksum before front) (number + length front) rest
chain-behind before number [] rest h =
    let none : number ≡ number + 0 = omega arith in
    subst (λ n. IsChain before n rest) none h
chain-behind before number (it ∷ front) rest h =
    let one_more : number + 1 + length front ≡ number + suc (length front) = omega arith in
    subst (λ n. IsChain (last_checksum it.checksum front) n rest) one_more (chain-behind it.checksum (number + 1) front rest h.1)

pub chain-kept : (before number : ℕ) (front back : List StoredRecord) (it changed : StoredRecord)
    → IsBytes it.payload → IsBytes changed.payload → DifferWithin 32 it.payload changed.payload → it.checksum ≡ changed.checksum
    → IsChain before number (front ++ it ∷ back) → IsIntact (last_checksum before front) (number + length front) changed → ⊥
chain-kept before number front back it changed h k d same chain intact =
    let was : IsIntact (last_checksum before front) (number + length front) it = (chain-behind before number front (it ∷ back) chain).0 in
    record_sum-payload (last_checksum before front) (number + length front) it.payload changed.payload
    (each_byte it.payload h) (each_byte changed.payload k) d (sym was ∙ same ∙ intact)

pub chain-rewritten : (before number : ℕ) (front back : List StoredRecord) (it changed next : StoredRecord)
    → IsBytes it.payload → IsBytes changed.payload → IsBytes next.payload → DifferWithin 32 it.payload changed.payload
    → IsChain before number (front ++ it ∷ next ∷ back) → IsChain before number (front ++ changed ∷ next ∷ back) → ⊥
chain-rewritten before number front back it changed next h k m d chain other =
    let met : ℕ = last_checksum before front in
    let place : ℕ = number + length front in
    let one : IsChain met place (it ∷ next ∷ back) = chain-behind before number front (it ∷ next ∷ back) chain in
    let two : IsChain met place (changed ∷ next ∷ back) = chain-behind before number front (changed ∷ next ∷ back) other in
    let one_fits : it.checksum < 2 ^ 32 = omega (arith, one.0, record_sum-lt met place it.payload (each_byte it.payload h)) in
    let two_fits : changed.checksum < 2 ^ 32 = omega (arith, two.0, record_sum-lt met place changed.payload (each_byte changed.payload k)) in
    let unlike : it.checksum ≢ changed.checksum = λ e.
    record_sum-payload met place it.payload changed.payload (each_byte it.payload h) (each_byte changed.payload k) d (sym one.0 ∙ e ∙ two.0) in
    record_sum-before it.checksum changed.checksum (place + 1) next.payload one_fits two_fits (each_byte next.payload m) unlike
    (sym one.1.0 ∙ two.1.0)

-- The definitions on a small case.
use Rattle.std.proofs.Common.{◌≡◌, ℕ, List, ◌++◌, codes, refl, ap, ◌∙◌, arith}
use Rattle.std.proofs.lemmas.Fmt.{decimal_digit}
use Rattle.record_sums.specs.Crc32c.{shifted, shifted_by}
use Rattle.record_sums.specs.Records.{record_sum}
use Rattle.sealed_log.specs.SealedRecords.{seal_head, seal_digits, sealed_record}

digits : seal_digits 0x0a1b2c3d ≡ codes "0a1b2c3d"
digits = refl

-- the first record with the payload `1`, from the text of its number
abbrev from_number : List ℕ → List ℕ
from_number text =
    let body : List ℕ = (codes "\",\"number\":" ++ (text ++ codes ",\"record\":")) ++ codes "1}" in
    (seal_head ++ seal_digits (record_sum 0 1 body)) ++ body

computed : from_number (codes "1") ≡ codes "{\"seal\":\"213f20f8\",\"number\":1,\"record\":1}"
unfolding shifted shifted_by
computed = refl

one_record : sealed_record 0 1 (codes "1") ≡ codes "{\"seal\":\"213f20f8\",\"number\":1,\"record\":1}"
one_record = ap from_number (decimal_digit 1 (omega arith)) ∙ computed

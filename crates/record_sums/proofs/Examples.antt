-- The definitions on small cases. The sums of 32 bytes are those of RFC 3720, "Internet Small Computer Systems
-- Interface", B.4.
use Rattle.std.proofs.Common.{◌≡◌, true, false, [], ◌∷◌, get_or, replicate, codes, refl, ap, arith}
use Rattle.std.proofs.lemmas.Bool.{false≢true}
use Rattle.record_sums.specs.Crc32c.{shifted, shifted_by, crc32c}
use Rattle.record_sums.specs.Records.{record_sum}
use Rattle.record_sums.specs.Bursts.{low_bits, DifferWithin, DifferInOneByte}
use Rattle.record_sums.specs.Chains.{IsChain}

no_bytes : crc32c 0 [] ≡ 0
no_bytes = refl

nine_digits : crc32c 0 (codes "123456789") ≡ 0xE3069283
unfolding shifted shifted_by
nine_digits = refl

zeros : crc32c 0 (replicate 32 0) ≡ 0x8A9136AA
unfolding shifted shifted_by
zeros = refl

ones : crc32c 0 (replicate 32 255) ≡ 0x62A8AB43
unfolding shifted shifted_by
ones = refl

-- a sum that goes on
in_two_pieces : crc32c (crc32c 0 (codes "1234")) (codes "56789") ≡ 0xE3069283
unfolding shifted shifted_by
in_two_pieces = refl

first_record : record_sum 0 1 (codes "a") ≡ 0xDBC863CD
unfolding shifted shifted_by
first_record = refl

lowest_first : low_bits 8 6 ≡ false ∷ true ∷ true ∷ false ∷ false ∷ false ∷ false ∷ false ∷ []
lowest_first = refl

-- the second of three bytes differs
one_byte : DifferInOneByte (1 ∷ 2 ∷ 3 ∷ []) (1 ∷ 9 ∷ 3 ∷ [])
one_byte = record { front = 1 ∷ []; from = 2; to = 9; back = 3 ∷ []; one_bytes = refl; other_bytes = refl; unlike = λ e. absurd (omega arith) }

-- the highest bit of a byte and the lowest of the next are two adjacent bits
two_bits : DifferWithin 2 (0 ∷ 0 ∷ []) (128 ∷ 1 ∷ [])
two_bits =
    record {
      front = low_bits 7 0;
      from = false ∷ false ∷ [];
      to = true ∷ true ∷ [];
      back = low_bits 7 0;
      one_bits = refl;
      other_bits = refl;
      same_length = refl;
      short = omega arith;
      unlike = λ e. false≢true (ap (λ bits. get_or bits 0 true) e);
    }

-- the second record's sum covers that of the first
two_records : IsChain 0 0 (record { payload = []; checksum = 0x2B60B55D } ∷ record { payload = codes "b"; checksum = record_sum 0x2B60B55D 1 (codes "b") } ∷ [])
unfolding shifted shifted_by
two_records = (refl, (refl, tt))

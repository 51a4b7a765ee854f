-- The checksum of a record. It covers the checksum of the record before, the record's number and its payload. The main
-- definition is `record_sum`.
use Rattle.std.specs.Prelude.{ℕ, List, ◌++◌}
use Rattle.std.specs.Int.{w32, w64, to_le_bytes}
use Rattle.record_sums.specs.Crc32c.{crc32c}

-- what a record's checksum is of: 4 bytes of the checksum before, 8 of the number, lowest first, and the payload
abbrev pub covered_bytes : ℕ → ℕ → List ℕ → List ℕ
covered_bytes before number payload = to_le_bytes w32 before ++ (to_le_bytes w64 number ++ payload)

-- the checksum of a record, after a record with the checksum `before`
abbrev pub record_sum : ℕ → ℕ → List ℕ → ℕ
record_sum before number payload = crc32c 0 (covered_bytes before number payload)

-- A payload with its seal, as it is stored. The main definitions are `sealed_record` and `opened_record`.
--
-- Record 2 with the payload `["x"]` is stored as `{"seal":"0a1b2c3d","number":2,"record":["x"]}`, with the digits of
-- its seal. So it is one line of JSON if its payload is.
use Rattle.std.specs.Prelude.{ℕ, ◌+◌, ◌-◌, ◌/◌, ◌%◌, ◌^◌, if◌then◌else◌, List, [], ◌∷◌, ◌++◌, length, take, drop}
use Rattle.std.specs.Prelude.{codes, decimal, bytes_eq, Some, None}
use Rattle.std.specs.declared.option.Option.{Option}
use Rattle.std.specs.Char.{digit_char}
use Rattle.record_sums.specs.Records.{record_sum}

-- the eight hexadecimal digits of a seal, the highest first
abbrev pub seal_digits : ℕ → List ℕ
seal_digits seal =
    digit_char (seal / 2 ^ 28 % 16) ∷ digit_char (seal / 2 ^ 24 % 16) ∷ digit_char (seal / 2 ^ 20 % 16)
    ∷ digit_char (seal / 2 ^ 16 % 16) ∷ digit_char (seal / 2 ^ 12 % 16) ∷ digit_char (seal / 2 ^ 8 % 16)
    ∷ digit_char (seal / 2 ^ 4 % 16) ∷ digit_char (seal % 16) ∷ []

-- what is before the digits
abbrev pub seal_head : List ℕ
seal_head = codes "{\"seal\":\""

-- what is between the digits and the payload of the record with this number
abbrev pub body_head : ℕ → List ℕ
body_head number = codes "\",\"number\":" ++ (decimal number ++ codes ",\"record\":")

-- all that is behind the digits
abbrev pub sealed_body : ℕ → List ℕ → List ℕ
sealed_body number payload = body_head number ++ (payload ++ codes "}")

-- The seal of a record, behind a record with the seal `before`: a checksum of that seal, of the record's number and of
-- all that is behind the digits.
abbrev pub seal_of : ℕ → ℕ → List ℕ → ℕ
seal_of before number payload = record_sum before number (sealed_body number payload)

-- the record with this number, behind a record with the seal `before`
abbrev pub sealed_record : ℕ → ℕ → List ℕ → List ℕ
sealed_record before number payload =
    (seal_head ++ seal_digits (seal_of before number payload)) ++ sealed_body number payload

-- how many bytes are before the payload: the head, the digits, and what is between them and the payload
abbrev pub payload_start : ℕ → ℕ
payload_start number = 17 + length (body_head number)

-- what is in the place of the payload: all bytes from that place on but the last one
abbrev pub payload_in : ℕ → List ℕ → List ℕ
payload_in number stored = take (length stored - (payload_start number + 1)) (drop (payload_start number) stored)

-- The payload of a stored record, if it is the record with this number, behind a record with the seal `before`: its
-- bytes are exactly those that the payload is sealed as.
abbrev pub opened_record : ℕ → ℕ → List ℕ → Option (List ℕ)
opened_record before number stored =
    if bytes_eq stored (sealed_record before number (payload_in number stored))
    then Some (payload_in number stored)
    else None

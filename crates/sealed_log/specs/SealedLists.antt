-- Payloads and the records that they are stored as. The main definitions are `sealed` and `unsealed`.
use Rattle.std.specs.Prelude.{◌≡◌, ℕ, ◌+◌, List, [], ◌∷◌, Result, Ok, Err, Some, None}
use Rattle.std.specs.declared.option.Option.{Option}
use Rattle.sealed_log.specs.SealedRecords.{seal_of, sealed_record, opened_record}
use Rattle.sealed_log.specs.declared.lists.UnsealFault.{UnsealFault}
use Rattle.sealed_log.specs.declared.lists.UnsealFault.TheVariants.{BadRecord, NoMemory}

-- the seal before the first record
abbrev pub first_seal : ℕ
first_seal = 0

-- the records of these payloads, behind a record with the seal `before`; `number` is that of the first of them
abbrev pub sealed_from : ℕ → ℕ → List (List ℕ) → List (List ℕ)
sealed_from before number [] = []
sealed_from before number (payload ∷ rest) =
    sealed_record before number payload ∷ sealed_from (seal_of before number payload) (number + 1) rest

-- the seal of the last of these records, or `before` if there are none
abbrev pub last_seal_from : ℕ → ℕ → List (List ℕ) → ℕ
last_seal_from before number [] = before
last_seal_from before number (payload ∷ rest) = last_seal_from (seal_of before number payload) (number + 1) rest

-- the payloads with this one before them, unless a record is bad
abbrev pub behind_payload : List ℕ → Result (List (List ℕ)) ℕ → Result (List (List ℕ)) ℕ
behind_payload payload (Ok rest) = Ok (payload ∷ rest)
behind_payload payload (Err number) = Err number

-- what follows from the payload of the record with this number; `next` are the payloads behind it, from its seal
abbrev pub unsealed_next : (ℕ → Result (List (List ℕ)) ℕ) → ℕ → ℕ → Option (List ℕ) → Result (List (List ℕ)) ℕ
unsealed_next next before number None = Err number
unsealed_next next before number (Some payload) = behind_payload payload (next (seal_of before number payload))

-- the payloads of stored records, or the number of the first one that is bad
abbrev pub unsealed_from : ℕ → ℕ → List (List ℕ) → Result (List (List ℕ)) ℕ
unsealed_from before number [] = Ok []
unsealed_from before number (stored ∷ rest) =
    unsealed_next (λ seal. unsealed_from seal (number + 1) rest) before number (opened_record before number stored)

-- the records of these payloads, whose numbers go up from 1
abbrev pub sealed : List (List ℕ) → List (List ℕ)
sealed payloads = sealed_from first_seal 1 payloads

-- the seal of the last of them
abbrev pub last_seal : List (List ℕ) → ℕ
last_seal payloads = last_seal_from first_seal 1 payloads

-- the payloads of stored records, or the number of the first one that is bad
abbrev pub unsealed : List (List ℕ) → Result (List (List ℕ)) ℕ
unsealed stored = unsealed_from first_seal 1 stored

-- why stored records have no payloads
abbrev pub IsUnsealFault : List (List ℕ) → UnsealFault → Type 0
IsUnsealFault stored (BadRecord number) = unsealed stored ≡ Err number
IsUnsealFault stored NoMemory = Unit {0}

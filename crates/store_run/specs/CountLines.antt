-- The lines that say how many changes a store has.
use Rattle.std.specs.Prelude.{ℕ, List, ◌++◌, codes, decimal}

-- `packed N`
abbrev pub packed_line : ℕ → List ℕ
packed_line count = codes "packed " ++ decimal count ++ codes "\n"

-- `consistent N`
abbrev pub consistent_line : ℕ → List ℕ
consistent_line count = codes "consistent " ++ decimal count ++ codes "\n"

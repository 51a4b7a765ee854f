-- Texts that are numbers of JSON.
use Rattle.std.specs.Prelude.{ℕ, Bool, true, false, List, [], ◌∷◌, Option, Some, None}
use Rattle.json.specs.Word.{after_number}

abbrev pub nothing_left : Option (List ℕ) → Bool
nothing_left None = false
nothing_left (Some []) = true
nothing_left (Some (c ∷ cs)) = false

-- the whole text is a number of JSON
abbrev pub is_number : List ℕ → Bool
is_number s = nothing_left (after_number s)

-- For the helpers that cut a text into records: the text that is begun, before those behind it.
use Rattle.std.specs.Prelude.{ℕ, List, [], ◌∷◌}
use Rattle.std.specs.List.{onto_first}

-- the bytes in front of the first text; without texts they are one, unless there are none
abbrev pub onto : List ℕ → List (List ℕ) → List (List ℕ)
onto [] texts = texts
onto (byte ∷ bytes) texts = onto_first byte (onto bytes texts)

-- The answer to an item of a journal, and how it joins the answers before it.
use Rattle.std.specs.Prelude.{◌≡◌, ℕ, List, ◌++◌, Bool, Option, Some}

-- the answer line, with its line feed, and whether the item was refused
pub record Answer : Type 0 where
  pub line : List ℕ
  pub refused : Bool

-- What an item made of a state is this next state, with an answer. The answer line was added at the end of a text.
pub record AddsAnswer {T : Type 0} (made : Option (T × Answer)) (next : T) (old new : List ℕ) (refused : Bool) : Type 0
  where
    pub line : List ℕ
    pub answers : made ≡ Some (next, record { line = line; refused = refused })
    pub adds : new ≡ old ++ line

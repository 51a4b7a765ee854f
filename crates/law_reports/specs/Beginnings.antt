-- A list that begins with another, and bytes that are written as the beginning of others.
use Rattle.std.specs.Prelude.{◌≡◌, ℕ, List, ◌++◌}

-- the whole is the front and then some rest
pub record BeginsWith {X : Type 0} (whole front : List X) : Type 0 where
  pub rest : List X
  pub is : whole ≡ front ++ rest

-- What was written to a sink that held these bytes is the beginning of the whole.
pub record WritesBeginning (held held' whole : List ℕ) : Type 0 where
  pub text : List ℕ
  pub appends : held' ≡ held ++ text
  pub begins : BeginsWith whole text

-- A command that makes a store of a script.
use Rattle.std.specs.Prelude.{ℕ, List, Result}

-- What a program part says to a command: what it means, or why it is refused, and the line of a refusal.
pub record PartMeaning : Type 1 where
  pub Accepted : Type 0
  pub Refusal : Type 0
  pub accepted : List ℕ → Result Accepted Refusal
  pub refusal_line : Refusal → List ℕ

-- What a command makes of a script whose program part is accepted, by the bytes of the script: the payloads of its
-- store with the lines that are written then, or the line with which it refuses the script.
pub record Command : Type 1 where
  pub part : PartMeaning
  pub makes : List ℕ → List (List ℕ) → List ℕ → Type 0
  pub refuses : List ℕ → List ℕ → Type 0

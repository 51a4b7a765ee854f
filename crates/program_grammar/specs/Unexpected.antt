-- The unexpected token, the first that cannot continue: `IsUnexpectedToken`, at the end.
use Rattle.std.specs.Prelude.{◌≡◌, ℕ, List, [], ◌∷◌, ◌++◌, map}
use Rattle.program_tokens.specs.declared.token.Token.{Token}
use Rattle.program_tokens.specs.declared.token.PlacedToken.{PlacedToken}
use Rattle.program_grammar.specs.Grammar.{Symbol, IsViablePrefix}

-- tokens without their offsets
abbrev pub token_only : PlacedToken → Token
token_only t = t.token

abbrev pub without_offsets : List PlacedToken → List Token
without_offsets ts = map token_only ts

-- The token at this offset is the unexpected one: those before it are a viable prefix, and with it they are not.
pub record IsUnexpectedToken (s : List Symbol) (ts : List PlacedToken) (at : ℕ) : Type 0 where
  pub before : List PlacedToken
  pub first : PlacedToken
  pub after : List PlacedToken
  pub parts : ts ≡ before ++ first ∷ after
  pub place : first.at ≡ at
  pub viable : IsViablePrefix s (without_offsets before)
  pub not_viable : IsViablePrefix s (without_offsets (before ++ first ∷ [])) → ⊥

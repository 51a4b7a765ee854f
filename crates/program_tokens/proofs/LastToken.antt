-- The last token of a text is its end, or a bad one.
use Rattle.std.proofs.Common.{ℕ, zero, suc, ◌+◌, List, [], ◌∷◌}
use Rattle.std.specs.List.{AllByRecursion}
use Rattle.program_tokens.specs.declared.piece.Piece.{Piece}
use Rattle.program_tokens.specs.declared.piece.Piece.TheVariants as pieces
use Rattle.program_tokens.specs.declared.token.Token.TheVariants as tokens
use Rattle.program_tokens.specs.declared.token.PlacedToken.{PlacedToken}
use Rattle.program_tokens.specs.Tokens.{piece_of, placed, tokens_from}

-- so what all its tokens have, an end or a bad token has
module _ (P : PlacedToken → Type 0) (no_end : (at : ℕ) → P (placed tokens.End at) → ⊥) (no_bad : (at : ℕ) → P (placed tokens.Bad at) → ⊥) where
  by_piece : (at : ℕ) (bytes : List ℕ) (p : Piece) → ((n : ℕ) → AllByRecursion P (tokens_from n (at + 1) bytes) → ⊥)
      → AllByRecursion P (elim p [ pieces.Gap n ↦ tokens_from n (at + 1) bytes | pieces.Token t n ↦ placed t at ∷ tokens_from n (at + 1) bytes | pieces.Bad ↦ placed tokens.Bad at ∷ [] ]) → ⊥
  by_piece at bytes (pieces.Gap n) later h = later n h
  by_piece at bytes (pieces.Token t n) later h = later n h.1
  by_piece at bytes pieces.Bad later h = no_bad at h.0

  pub text_ends : (skip at : ℕ) (bytes : List ℕ) → AllByRecursion P (tokens_from skip at bytes) → ⊥
  unfolding tokens_from
  text_ends skip at [] h = no_end at h.0
  text_ends (suc skip) at (b ∷ bytes) h = text_ends skip (at + 1) bytes h
  text_ends zero at (b ∷ bytes) h = by_piece at bytes (piece_of b bytes) (λ n. text_ends n (at + 1) bytes) h

-- The token that a mark is.
use Rattle.std.proofs.Common.{◌≡◌, true, Some, refl, sym, ap, ◌∙◌, eqb}
use Rattle.std.proofs.lemmas.Bool.{eqb-true}
use Rattle.program_tokens.specs.declared.mark.Mark.{Mark}
use Rattle.program_tokens.specs.declared.mark.Mark.TheVariants.{Equals, Semicolon, OpenBrace, CloseBrace, Less, Greater, OpenBracket, CloseBracket, OpenParen, CloseParen, Colon, Comma, Tilde}
use Rattle.program_tokens.specs.declared.token.Token.{Token}
use Rattle.program_tokens.specs.declared.token.Token.TheVariants as tokens
use Rattle.program_tokens.specs.Words.{mark_byte, mark_of}
use Rattle.program_grammar.specs.Reading.{is_mark}
use Rattle.std.proofs.lemmas.Option.{same_Some}

-- a mark is known by its byte
mark_of_byte : (m : Mark) → mark_of (mark_byte m) ≡ Some m
unfolding mark_of
mark_of_byte Equals = refl
mark_of_byte Semicolon = refl
mark_of_byte OpenBrace = refl
mark_of_byte CloseBrace = refl
mark_of_byte Less = refl
mark_of_byte Greater = refl
mark_of_byte OpenBracket = refl
mark_of_byte CloseBracket = refl
mark_of_byte OpenParen = refl
mark_of_byte CloseParen = refl
mark_of_byte Colon = refl
mark_of_byte Comma = refl
mark_of_byte Tilde = refl

same_mark : (m k : Mark) → eqb (mark_byte k) (mark_byte m) ≡ true → k ≡ m
same_mark m k e = same_Some k m (sym (mark_of_byte k) ∙ ap mark_of (eqb-true (mark_byte k) (mark_byte m) e) ∙ mark_of_byte m)

pub mark_is : (m : Mark) (t : Token) → is_mark m t ≡ true → t ≡ tokens.Mark m
mark_is m (tokens.Mark k) e = ap tokens.Mark (same_mark m k e)
mark_is m (tokens.Keyword k) e = absurd cc
mark_is m (tokens.Name k) e = absurd cc
mark_is m (tokens.Text k) e = absurd cc
mark_is m (tokens.Number z) e = absurd cc
mark_is m tokens.Bad e = absurd cc
mark_is m tokens.End e = absurd cc

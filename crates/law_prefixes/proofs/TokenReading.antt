-- One token, read beside the machine.
use Rattle.std.proofs.Common.{◌≡◌, ℕ, cond, List, [], ◌∷◌, Some, None, refl, ◌∙◌, inl, inr}
use lib.IntN.{ℤ}
use Rattle.program_tokens.specs.declared.mark.Mark.{Mark}
use Rattle.program_tokens.specs.declared.token.Token.{Token}
use Rattle.program_tokens.specs.declared.token.Token.TheVariants as tokens
use Rattle.program_tokens.specs.declared.token.PlacedToken.{PlacedToken}
use Rattle.program_tokens.specs.Tokens.{placed}
use Rattle.program_grammar.specs.declared.mention.Mention.{Mention}
use Rattle.program_grammar.specs.Grammar.{Symbol, mark, a_string, a_number, rule, field}
use Rattle.program_grammar.specs.Mentions.{Point}
use Rattle.program_grammar.specs.Reading.{is_mark, mark_in, mark_at, string_in, number_in, field_in, token_value, string_from, string_at, number_from, number_at, field_from, field_at}
use Rattle.law_prefixes.proofs.Machine.{take_one}
use Rattle.law_prefixes.proofs.MachineSteps.{Takes, Reads, takes_ok, takes_none, takes_first, takes_not, either_way}

take_mark : (m : Mark) (s : List Symbol) (k : Token) → take_one (mark m ∷ s) k ≡ cond (is_mark m k) (Some s) None
unfolding take_one
take_mark m s k = refl

mark_after : (m : Mark) (s : List Symbol) (ms : List Mention) (ts : List PlacedToken) → Takes Point (λ q. q.1) (mark m ∷ s) s ts (mark_in m ms ts)
mark_after m s ms [] = takes_none (mark m ∷ s) s
mark_after m s ms (t ∷ ts) =
    elim (either_way (is_mark m t.token)) [
      | inl it_is ↦ rw it_is (takes_first t.token t.at ts s (take_mark m s t.token ∙ rw it_is refl) (takes_ok s (ms, ts)))
      | inr not_it ↦ rw not_it (takes_not t.token t.at ts (take_mark m s t.token ∙ rw not_it refl))
    ]

pub mark_takes : (m : Mark) (s : List Symbol) (p : Point) → Takes Point (λ q. q.1) (mark m ∷ s) s p.1 (mark_at m p)
unfolding mark_at
mark_takes m s p = mark_after m s p.0 p.1

string_token : (s : List Symbol) (k : Token) (at : ℕ) (ms : List Mention) (ts : List PlacedToken) → Takes (List ℕ × Point) (λ x. x.1.1) (a_string ∷ s) s (placed k at ∷ ts) (token_value (string_in k) at ms ts)
unfolding take_one
string_token s (tokens.Text n) at ms ts = takes_first (tokens.Text n) at ts s refl (takes_ok s (n, (ms, ts)))
string_token s (tokens.Name n) at ms ts = takes_not (tokens.Name n) at ts refl
string_token s (tokens.Keyword n) at ms ts = takes_not (tokens.Keyword n) at ts refl
string_token s (tokens.Mark n) at ms ts = takes_not (tokens.Mark n) at ts refl
string_token s (tokens.Number n) at ms ts = takes_not (tokens.Number n) at ts refl
string_token s tokens.Bad at ms ts = takes_not tokens.Bad at ts refl
string_token s tokens.End at ms ts = takes_not tokens.End at ts refl

string_after : (s : List Symbol) (ms : List Mention) (ts : List PlacedToken) → Takes (List ℕ × Point) (λ x. x.1.1) (a_string ∷ s) s ts (string_from ms ts)
string_after s ms [] = takes_none (a_string ∷ s) s
string_after s ms (t ∷ ts) = string_token s t.token t.at ms ts

pub string_takes : Reads (List ℕ) (a_string ∷ []) string_at
unfolding string_at
string_takes s p = string_after s p.0 p.1

number_token : (s : List Symbol) (k : Token) (at : ℕ) (ms : List Mention) (ts : List PlacedToken) → Takes (ℤ × Point) (λ x. x.1.1) (a_number ∷ s) s (placed k at ∷ ts) (token_value (number_in k) at ms ts)
unfolding take_one
number_token s (tokens.Number z) at ms ts = takes_first (tokens.Number z) at ts s refl (takes_ok s (z, (ms, ts)))
number_token s (tokens.Text n) at ms ts = takes_not (tokens.Text n) at ts refl
number_token s (tokens.Name n) at ms ts = takes_not (tokens.Name n) at ts refl
number_token s (tokens.Keyword n) at ms ts = takes_not (tokens.Keyword n) at ts refl
number_token s (tokens.Mark n) at ms ts = takes_not (tokens.Mark n) at ts refl
number_token s tokens.Bad at ms ts = takes_not tokens.Bad at ts refl
number_token s tokens.End at ms ts = takes_not tokens.End at ts refl

number_after : (s : List Symbol) (ms : List Mention) (ts : List PlacedToken) → Takes (ℤ × Point) (λ x. x.1.1) (a_number ∷ s) s ts (number_from ms ts)
number_after s ms [] = takes_none (a_number ∷ s) s
number_after s ms (t ∷ ts) = number_token s t.token t.at ms ts

pub number_takes : Reads ℤ (a_number ∷ []) number_at
unfolding number_at
number_takes s p = number_after s p.0 p.1

field_token : (s : List Symbol) (k : Token) (at : ℕ) (ms : List Mention) (ts : List PlacedToken) → Takes (List ℕ × Point) (λ x. x.1.1) (rule field ∷ s) s (placed k at ∷ ts) (token_value (field_in k) at ms ts)
unfolding take_one
field_token s (tokens.Text n) at ms ts = takes_first (tokens.Text n) at ts s refl (takes_ok s (n, (ms, ts)))
field_token s (tokens.Name n) at ms ts = takes_first (tokens.Name n) at ts s refl (takes_ok s (n, (ms, ts)))
field_token s (tokens.Keyword n) at ms ts = takes_not (tokens.Keyword n) at ts refl
field_token s (tokens.Mark n) at ms ts = takes_not (tokens.Mark n) at ts refl
field_token s (tokens.Number n) at ms ts = takes_not (tokens.Number n) at ts refl
field_token s tokens.Bad at ms ts = takes_not tokens.Bad at ts refl
field_token s tokens.End at ms ts = takes_not tokens.End at ts refl

field_after : (s : List Symbol) (ms : List Mention) (ts : List PlacedToken) → Takes (List ℕ × Point) (λ x. x.1.1) (rule field ∷ s) s ts (field_from ms ts)
field_after s ms [] = takes_none (rule field ∷ s) s
field_after s ms (t ∷ ts) = field_token s t.token t.at ms ts

pub field_takes : Reads (List ℕ) (rule field ∷ []) field_at
unfolding field_at
field_takes s p = field_after s p.0 p.1

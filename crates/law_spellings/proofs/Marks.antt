-- Single tokens: marks, words, strings, fields and names.
use Rattle.std.proofs.Common.{◌≡◌, ℕ, true, false, cond, List, [], ◌∷◌, Option, Some, Result, Ok, Err, refl, sym, ap, subst, ◌∙◌, eqb, inl, inr}
use Rattle.std.proofs.lemmas.Bool.{eq-eqb}
use lib.IntN.{ℤ}
use Rattle.program_tokens.specs.Words.{mark_byte}
use Rattle.program_tokens.specs.Tokens.{placed}
use Rattle.program_tokens.specs.declared.mark.Mark.{Mark}
use Rattle.program_tokens.specs.declared.token.Token.{Token}
use Rattle.program_tokens.specs.declared.token.Token.TheVariants as tokens
use Rattle.program_tokens.specs.declared.token.PlacedToken.{PlacedToken}
use Rattle.program_grammar.specs.declared.mention.Mention.{Mention}
use Rattle.program_grammar.specs.declared.mention.Sort.{Sort}
use Rattle.program_grammar.specs.Mentions.{Point}
use Rattle.program_grammar.specs.Reading.{◌>>=◌, is_mark, next_is, mark_in, mark_at, string_in, string_from, string_at, number_in, number_from, number_at, field_in, field_from, field_at, token_value}
use Rattle.program_grammar.specs.Spelling.{Is, IsField, IsMention}
use Rattle.program_grammar.proofs.ReadingResults.{ok_is, bind_ok, chosen}
use Rattle.program_grammar.proofs.MarkTokens.{mark_is}
use Rattle.law_spellings.proofs.ReadingSteps.{ComesBefore, is_ahead, Anything, Exact, read_as}

-- the point where this token stands before those of another point
abbrev pub before : Token → ℕ → Point → Point
before k at here = (here.0, placed k at ∷ here.1)

pub it_is : (k : Token) (at : ℕ) (here : Point) → Is k (before k at here) here
it_is k at here = record { at = at; names = refl; parts = refl }

pub point_is : {k : Token} {here there : Point} → (h : Is k here there) → here ≡ before k h.at there
point_is {k = k} {here = here} {there = there} h = ap (λ (ts : List PlacedToken). (here.0, ts)) h.parts ∙ ap (λ (ms : List Mention). (ms, placed k h.at ∷ there.1)) (sym h.names)

-- marks have different bytes

pub is_token : (k : Token) (ms : List Mention) (t : PlacedToken) (ts : List PlacedToken) → t.token ≡ k → Is k (ms, t ∷ ts) (ms, ts)
is_token k ms t ts h = subst (λ j. Is j (ms, t ∷ ts) (ms, ts)) h (it_is t.token t.at (ms, ts))

pub this_mark : (m : Mark) (ms : List Mention) (t : PlacedToken) (ts : List PlacedToken) → is_mark m t.token ≡ true → Is (tokens.Mark m) (ms, t ∷ ts) (ms, ts)
this_mark m ms t ts h = is_token (tokens.Mark m) ms t ts (mark_is m t.token h)

mark_in_found : (m : Mark) (ms : List Mention) (ts : List PlacedToken) (there : Point) → mark_in m ms ts ≡ Ok there → Is (tokens.Mark m) (ms, ts) there
mark_in_found m ms [] there e = absurd cc
mark_in_found m ms (t ∷ ts) there e =
    elim (chosen (is_mark m t.token) (Ok (ms, ts)) (Err (Some t.at)) (Ok there) e) [
      | inl p ↦ subst (λ r. Is (tokens.Mark m) (ms, t ∷ ts) r) (ok_is (ms, ts) there p.1) (this_mark m ms t ts p.0)
      | inr p ↦ absurd cc
    ]

pub mark_found : (m : Mark) (here there : Point) → mark_at m here ≡ Ok there → Is (tokens.Mark m) here there
unfolding mark_at
mark_found m here there e = mark_in_found m here.0 here.1 there e

pub mark_again : (m : Mark) (here there : Point) → Is (tokens.Mark m) here there → mark_at m here ≡ Ok there
unfolding mark_at
mark_again m here there h = ap (mark_at m) (point_is h) ∙ ap (λ b. cond b (Ok there) (Err (Some h.at))) (eq-eqb (mark_byte m) (mark_byte m) refl)

-- a mark, and what follows from the steps after it
pub mark_first : {B : Type 0} (m : Mark) (here : Point) (f : Point → Result B (Option ℕ)) (y : B) (G : Type 0) → (mark_at m here >>= f) ≡ Ok y
    → ((there : Point) → Is (tokens.Mark m) here there → f there ≡ Ok y → G) → G
mark_first m here f y G h k = let a = bind_ok (mark_at m here) f y h in k a.0 (mark_found m here a.0 a.1) a.2

pub mark_next : (m : Mark) {here there : Point} → Is (tokens.Mark m) here there → next_is m here.1 ≡ true
mark_next m h = ap (next_is m) h.parts ∙ eq-eqb (mark_byte m) (mark_byte m) refl

pub other_mark : (m k : Mark) {here there : Point} → eqb (mark_byte k) (mark_byte m) ≡ false → Is (tokens.Mark k) here there → next_is m here.1 ≡ false
other_mark m k e h = ap (next_is m) h.parts ∙ e

-- strings

abbrev pub IsText : List ℕ → Point → Point → Type 0
IsText s here there = Is (tokens.Text s) here there

text_value : (ms : List Mention) (k : Token) (at : ℕ) (ts : List PlacedToken) (x : List ℕ × Point) → token_value (string_in k) at ms ts ≡ Ok x → IsText x.0 (ms, placed k at ∷ ts) x.1
text_value ms (tokens.Text s) at ts x e = read_as IsText (ms, placed (tokens.Text s) at ∷ ts) (s, (ms, ts)) x e (it_is (tokens.Text s) at (ms, ts))
text_value ms (tokens.Mark m) at ts x e = absurd cc
text_value ms (tokens.Keyword k) at ts x e = absurd cc
text_value ms (tokens.Name n) at ts x e = absurd cc
text_value ms (tokens.Number z) at ts x e = absurd cc
text_value ms tokens.Bad at ts x e = absurd cc
text_value ms tokens.End at ts x e = absurd cc

text_from : (ms : List Mention) (ts : List PlacedToken) (x : List ℕ × Point) → string_from ms ts ≡ Ok x → IsText x.0 (ms, ts) x.1
text_from ms [] x e = absurd cc
text_from ms (t ∷ ts) x e = text_value ms t.token t.at ts x e

pub string_exact : Exact IsText Anything string_at
unfolding string_at
string_exact = record {
  moves = λ s here there h. is_ahead h;
  found = λ here x e. text_from here.0 here.1 x e;
  again = λ s here there h behind. ap string_at (point_is h);
}

-- numbers

abbrev pub IsNumber : ℤ → Point → Point → Type 0
IsNumber z here there = Is (tokens.Number z) here there

number_value : (ms : List Mention) (k : Token) (at : ℕ) (ts : List PlacedToken) (x : ℤ × Point) → token_value (number_in k) at ms ts ≡ Ok x → IsNumber x.0 (ms, placed k at ∷ ts) x.1
number_value ms (tokens.Number z) at ts x e = read_as IsNumber (ms, placed (tokens.Number z) at ∷ ts) (z, (ms, ts)) x e (it_is (tokens.Number z) at (ms, ts))
number_value ms (tokens.Mark m) at ts x e = absurd cc
number_value ms (tokens.Keyword k) at ts x e = absurd cc
number_value ms (tokens.Name n) at ts x e = absurd cc
number_value ms (tokens.Text s) at ts x e = absurd cc
number_value ms tokens.Bad at ts x e = absurd cc
number_value ms tokens.End at ts x e = absurd cc

number_from_found : (ms : List Mention) (ts : List PlacedToken) (x : ℤ × Point) → number_from ms ts ≡ Ok x → IsNumber x.0 (ms, ts) x.1
number_from_found ms [] x e = absurd cc
number_from_found ms (t ∷ ts) x e = number_value ms t.token t.at ts x e

pub number_exact : Exact IsNumber Anything number_at
unfolding number_at
number_exact = record {
  moves = λ z here there h. is_ahead h;
  found = λ here x e. number_from_found here.0 here.1 x e;
  again = λ z here there h behind. ap number_at (point_is h);
}

-- fields

field_value : (ms : List Mention) (k : Token) (at : ℕ) (ts : List PlacedToken) (x : List ℕ × Point) → token_value (field_in k) at ms ts ≡ Ok x → IsField x.0 (ms, placed k at ∷ ts) x.1
field_value ms (tokens.Name s) at ts x e = read_as IsField (ms, placed (tokens.Name s) at ∷ ts) (s, (ms, ts)) x e (inl (it_is (tokens.Name s) at (ms, ts)))
field_value ms (tokens.Text s) at ts x e = read_as IsField (ms, placed (tokens.Text s) at ∷ ts) (s, (ms, ts)) x e (inr (it_is (tokens.Text s) at (ms, ts)))
field_value ms (tokens.Mark m) at ts x e = absurd cc
field_value ms (tokens.Keyword k) at ts x e = absurd cc
field_value ms (tokens.Number z) at ts x e = absurd cc
field_value ms tokens.Bad at ts x e = absurd cc
field_value ms tokens.End at ts x e = absurd cc

field_from_found : (ms : List Mention) (ts : List PlacedToken) (x : List ℕ × Point) → field_from ms ts ≡ Ok x → IsField x.0 (ms, ts) x.1
field_from_found ms [] x e = absurd cc
field_from_found ms (t ∷ ts) x e = field_value ms t.token t.at ts x e

field_moves : (f : List ℕ) (here there : Point) → IsField f here there → ComesBefore here there
field_moves f here there (inl h) = is_ahead h
field_moves f here there (inr h) = is_ahead h

pub field_again : (f : List ℕ) (here there : Point) → IsField f here there → field_at here ≡ Ok (f, there)
unfolding field_at
field_again f here there (inl h) = ap field_at (point_is h)
field_again f here there (inr h) = ap field_at (point_is h)

pub field_exact : Exact IsField Anything field_at
unfolding field_at
field_exact = record {
  moves = field_moves;
  found = λ here x e. field_from_found here.0 here.1 x e;
  again = λ f here there h behind. field_again f here there h;
}

-- a field is no mark
pub field_no_mark : (m : Mark) (f : List ℕ) (here there : Point) → IsField f here there → next_is m here.1 ≡ false
field_no_mark m f here there (inl h) = ap (next_is m) h.parts
field_no_mark m f here there (inr h) = ap (next_is m) h.parts

-- a name that is mentioned is one token
pub mention_ahead : {sort : Sort} {s : List ℕ} {here there : Point} → IsMention sort s here there → ComesBefore here there
mention_ahead {s = s} h = record { rest = record { front = placed (tokens.Name s) h.at ∷ []; parts = h.parts } }

-- The tokens of an initial value, which is written or left out.
use Rattle.std.proofs.Common.{◌≡◌, ◌<◌, ◌^◌, ℕ, Bool, true, false, cond, List, [], ◌∷◌, ◌++◌, bytes_eq, refl, ap, ◌||◌, w64, of_z, inl, inr}
use Rattle.std.proofs.lemmas.Bool.Decides.{Decides-int_eq}
use Rattle.std.proofs.lemmas.Slice.Eq.{bytes_eq-Decides}
use Rattle.std.specs.Prelude.{codes}
use Rattle.std.specs.Fmt.{signed_decimal}
use Rattle.std.specs.Ordering.{int_eq}
use lib.IntN.{ℤ, pos}
use lib.Signed.{mag}
use Rattle.program_tokens.specs.Numbers.{is_digit}
use Rattle.program_tokens.specs.Words.{begins_word, in_word}
use Rattle.program_tokens.specs.declared.mark.Mark.TheVariants as marks
use Rattle.program_tokens.specs.declared.token.Token.{Token}
use Rattle.program_tokens.specs.declared.token.Token.TheVariants as tokens
use Rattle.program_tokens.proofs.FirstToken.{Stops, stops_at_space}
use Rattle.program_terms.specs.Terms.{initial_number, initial_text}
use Rattle.program_grammar.specs.Spelling.{Is, IsInitial}
use Rattle.program_writing.specs.Canonical.{put_string, put_initial_number, put_initial_string}
use Rattle.program_writing.specs.Writable.{IsText, IsInitialText}
use Rattle.program_writing.proofs.TextSteps.{Spelt, space_mark_space, string, number, two}
use Rattle.texts.proofs.Tests.{neither_second}

-- ---- where no word goes on, no number does

no_number : (rest : List ℕ) → Stops in_word rest → Stops is_digit rest
unfolding in_word
no_number [] h = tt
no_number (b ∷ rest) h = neither_second (begins_word b) (is_digit b) h

-- ---- written where it differs

left_out_or : {A : Type 0} (token : A → Token) (left_out x : A) (same : Bool) (value rest : List ℕ) → (same ≡ true → x ≡ left_out) → (same ≡ false → Spelt (Is (token x)) value rest)
    → Spelt (IsInitial token left_out x) (cond same rest (codes " = " ++ value)) rest
left_out_or token left_out x true value rest is written = record { from = λ ms at. ((ms, at), inl (is refl, refl)) }
left_out_or token left_out x false value rest is written =
    let both = two (space_mark_space marks.Equals value) (written refl) in
    record { from = λ ms at. let r = both.from ms at in (r.0, inr r.1) }

stops_by : (same : Bool) (value rest : List ℕ) → Stops in_word rest → Stops in_word (cond same rest (codes " = " ++ value))
stops_by true value rest h = h
stops_by false value rest h = stops_at_space

pub a_number : (z : ℤ) (rest : List ℕ) → mag z < 2 ^ 63 → Stops in_word rest → Spelt (IsInitial tokens.Number initial_number z) (put_initial_number z rest) rest
unfolding put_initial_number
a_number z rest h stops =
    left_out_or tokens.Number initial_number z (int_eq z initial_number) (signed_decimal z ++ rest) rest (λ same. (Decides-int_eq z initial_number).0 same) (λ other. number z rest h (no_number rest stops))

pub a_string : (left_out s rest : List ℕ) → IsText s → Spelt (IsInitial tokens.Text left_out s) (put_initial_string left_out s rest) rest
a_string left_out s rest h =
    left_out_or tokens.Text left_out s (bytes_eq s left_out) (put_string s rest) rest (λ same. (bytes_eq-Decides s left_out).0 same) (λ other. string s rest h)

pub a_text : (s rest : List ℕ) → IsInitialText s → Spelt (IsInitial tokens.Text initial_text s) (put_initial_string initial_text s rest) rest
a_text s rest (inl h) = left_out_or tokens.Text initial_text s (bytes_eq s initial_text) (put_string s rest) rest (λ same. h) (λ other. absurd (empty_differs s h other))
  where
    empty_differs : (s : List ℕ) → s ≡ [] → bytes_eq s [] ≡ false → ⊥
    empty_differs [] h other = absurd cc
    empty_differs (c ∷ s) h other = absurd cc
a_text s rest (inr h) = a_string initial_text s rest h

pub number_stops : (z : ℤ) (rest : List ℕ) → Stops in_word rest → Stops in_word (put_initial_number z rest)
unfolding put_initial_number
number_stops z rest h = stops_by (int_eq z initial_number) (signed_decimal z ++ rest) rest h

pub string_stops : (left_out s rest : List ℕ) → Stops in_word rest → Stops in_word (put_initial_string left_out s rest)
string_stops left_out s rest h = stops_by (bytes_eq s left_out) (put_string s rest) rest h

-- ---- a number whose bits are not those of 0

no_other : (z : ℤ) (b : Bool) → int_eq z (pos 0) ≡ b → (of_z w64 z ≡ 0 → ⊥) → b ≡ false
no_other z true e h = absurd (h (ap (of_z w64) ((Decides-int_eq z (pos 0)).0 e)))
no_other z false e h = refl

pub not_zero : (z : ℤ) → (of_z w64 z ≡ 0 → ⊥) → int_eq z (pos 0) ≡ false
not_zero z h = no_other z (int_eq z (pos 0)) refl h

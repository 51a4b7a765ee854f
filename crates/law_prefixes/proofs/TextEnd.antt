-- Reading passes tokens that are neither the end nor bad; so the tokens of a text never run out.
use Rattle.std.proofs.Common.{◌≡◌, ℕ, zero, suc, ◌-◌, Bool, true, false, cond, List, [], ◌∷◌, ◌++◌, length, drop, Option, Some, None, Result, Ok, Err, refl, sym, ap, subst, ◌∙◌, append_assoc}
use Rattle.std.specs.List.{AllByRecursion}
use lib.IntN.{ℤ}
use Rattle.program_tokens.specs.declared.keyword.Keyword.{Keyword}
use Rattle.program_tokens.specs.declared.keyword.Keyword.TheVariants as words
use Rattle.program_tokens.specs.declared.mark.Mark.{Mark}
use Rattle.program_tokens.specs.declared.mark.Mark.TheVariants.{Equals, Semicolon, OpenBrace, CloseBrace, Less, Greater, OpenBracket, CloseBracket, OpenParen, CloseParen, Colon, Comma, Tilde}
use Rattle.program_tokens.specs.declared.token.Token.{Token}
use Rattle.program_tokens.specs.declared.token.Token.TheVariants as tokens
use Rattle.program_tokens.specs.declared.token.PlacedToken.{PlacedToken}
use Rattle.program_tokens.specs.Tokens.{tokens_of}
use Rattle.program_tokens.proofs.LastToken.{text_ends}
use Rattle.program_terms.specs.Terms.{TypeTree, LensTree, DefTree, initial_number, initial_text, initial_member, initial_left}
use Rattle.program_grammar.specs.declared.mention.Mention.{Mention}
use Rattle.program_grammar.specs.Mentions.{Point, NotedDefinition}
use Rattle.program_grammar.specs.Reading.{Read, ◌>>=◌, is_mark, next_is, word_in, next_word, string_in, number_in, field_in, mark_in, mark_at, token_value, string_from, string_at, number_from, number_at, field_from, field_at, more_at, list_at, closed_at, perhaps_at, initial_at, typed_at, enum_at, record_at, one_of_at, word_type, mark_type, begun_type, type_from, type_step, type_at, pair_at, bij_at, arm_at, left_row_at, right_row_at, both_row_at, row_by, row_at, then_at, disc_at, part_at, word_lens, rec_at, alt_at, mark_lens, begun_lens, lens_from, lens_step, lens_at, name_in, name_from, name_at, type_term_at, lens_term_at, definition_at, definition_of, definitions_at, is_main, main_at, is_end, none_left, end_at, program_at, next_offset}
use Rattle.program_grammar.proofs.RestOfTokens.{IsRest, drop_to_rest}

-- a token that is neither the end nor bad
abbrev pub is_free : Token → Bool
is_free tokens.Bad = false
is_free tokens.End = false
is_free _ = true

abbrev pub Free : List PlacedToken → Type 0
Free ts = AllByRecursion (λ t. is_free t.token ≡ true) ts

-- these tokens are a rest, and the tokens before them are free
pub record PassesFree (ts left : List PlacedToken) : Type 0 where
  pub rest : IsRest left ts
  pub free : Free rest.front

free_append : (a b : List PlacedToken) → Free a → Free b → Free (a ++ b)
free_append [] b h k = k
free_append (t ∷ a) b h k = (h.0, free_append a b h.1 k)

pub free_self : (ts : List PlacedToken) → PassesFree ts ts
free_self ts = record { rest = record { front = []; parts = refl }; free = tt }

free_cons : (t : PlacedToken) (ts left : List PlacedToken) → is_free t.token ≡ true → PassesFree ts left → PassesFree (t ∷ ts) left
free_cons t ts left f h = record { rest = record { front = t ∷ h.rest.front; parts = ap (λ x. t ∷ x) h.rest.parts }; free = (f, h.free) }

free_then : (a b c : List PlacedToken) → PassesFree a b → PassesFree b c → PassesFree a c
free_then a b c p q = record {
  rest = record { front = p.rest.front ++ q.rest.front; parts = p.rest.parts ∙ ap (λ x. p.rest.front ++ x) q.rest.parts ∙ sym (append_assoc p.rest.front q.rest.front c) };
  free = free_append p.rest.front q.rest.front p.free q.free;
}

free_before : (a b : List PlacedToken) → PassesFree a b → Free b → Free a
free_before a b p h = subst Free (sym p.rest.parts) (free_append p.rest.front b p.free h)

-- Reading that began at some tokens passed free tokens; where they ran out all were free.
abbrev pub Good : {A : Type 0} → (A → List PlacedToken) → List PlacedToken → Result A (Option ℕ) → Type 0
Good left ts (Ok x) = PassesFree ts (left x)
Good left ts (Err None) = Free ts
Good left ts (Err (Some n)) = Unit {0}

-- what is left behind a value, and at a point
abbrev pub behind : {A : Type 0} → A × Point → List PlacedToken
behind x = x.1.1

abbrev pub here : Point → List PlacedToken
here p = p.1

abbrev pub all : List PlacedToken → List PlacedToken
all ts = ts

-- from a rest on, and so from the beginning on
pub good_from : {A : Type 0} (left : A → List PlacedToken) (ts rest : List PlacedToken) (r : Result A (Option ℕ)) → PassesFree ts rest → Good left rest r → Good left ts r
good_from left ts rest (Ok x) h g = free_then ts rest (left x) h g
good_from left ts rest (Err None) h g = free_before ts rest h g
good_from left ts rest (Err (Some n)) h g = tt

-- one step, and then another
pub good_then : {A B : Type 0} (left : A → List PlacedToken) (last : B → List PlacedToken) (ts : List PlacedToken) (r : Result A (Option ℕ)) (f : A → Result B (Option ℕ))
    → Good left ts r → ((x : A) → PassesFree ts (left x) → Good last (left x) (f x)) → Good last ts (r >>= f)
good_then left last ts (Ok x) f g h = good_from last ts (left x) (f x) g (h x g)
good_then left last ts (Err None) f g h = g
good_then left last ts (Err (Some n)) f g h = tt

pub good_if : {A : Type 0} (left : A → List PlacedToken) (ts : List PlacedToken) (b : Bool) (r s : Result A (Option ℕ)) → (b ≡ true → Good left ts r) → Good left ts s → Good left ts (cond b r s)
good_if left ts true r s g h = g refl
good_if left ts false r s g h = h

abbrev pub Sound : {A : Type 0} → (Point → Read A) → Type 0
Sound f = (p : Point) → Good behind p.1 (f p)

-- one token

free_mark : (m : Mark) (t : Token) → is_mark m t ≡ true → is_free t ≡ true
free_mark m (tokens.Mark k) h = refl
free_mark m (tokens.Keyword k) h = refl
free_mark m (tokens.Name n) h = refl
free_mark m (tokens.Text s) h = refl
free_mark m (tokens.Number s) h = refl
free_mark m tokens.Bad h = h
free_mark m tokens.End h = h

one_mark : (m : Mark) (ms : List Mention) (ts : List PlacedToken) → Good here ts (mark_in m ms ts)
one_mark m ms [] = tt
one_mark m ms (t ∷ ts) = good_if here (t ∷ ts) (is_mark m t.token) (Ok (ms, ts)) (Err (Some t.at)) (λ h. free_cons t ts ts (free_mark m t.token h) (free_self ts)) tt

pub mark_sound : (m : Mark) (p : Point) → Good here p.1 (mark_at m p)
unfolding mark_at
mark_sound m p = one_mark m p.0 p.1

good_value : {A : Type 0} (o : Option A) (t : PlacedToken) (ms : List Mention) (ts : List PlacedToken) → ((x : A) → o ≡ Some x → is_free t.token ≡ true) → Good behind (t ∷ ts) (token_value o t.at ms ts)
good_value (Some x) t ms ts h = free_cons t ts ts (h x refl) (free_self ts)
good_value None t ms ts h = tt

free_string : (t : Token) (x : List ℕ) → string_in t ≡ Some x → is_free t ≡ true
free_string (tokens.Text s) x h = refl
free_string (tokens.Number s) x h = refl
free_string (tokens.Mark k) x h = refl
free_string (tokens.Keyword k) x h = refl
free_string (tokens.Name n) x h = refl
free_string tokens.Bad x h = absurd cc
free_string tokens.End x h = absurd cc

free_number : (t : Token) (x : ℤ) → number_in t ≡ Some x → is_free t ≡ true
free_number (tokens.Number z) x h = refl
free_number (tokens.Text s) x h = refl
free_number (tokens.Mark k) x h = refl
free_number (tokens.Keyword k) x h = refl
free_number (tokens.Name n) x h = refl
free_number tokens.Bad x h = absurd cc
free_number tokens.End x h = absurd cc

free_field : (t : Token) (x : List ℕ) → field_in t ≡ Some x → is_free t ≡ true
free_field (tokens.Text s) x h = refl
free_field (tokens.Number s) x h = refl
free_field (tokens.Mark k) x h = refl
free_field (tokens.Keyword k) x h = refl
free_field (tokens.Name n) x h = refl
free_field tokens.Bad x h = absurd cc
free_field tokens.End x h = absurd cc

free_name : (t : Token) (at : ℕ) (x : List ℕ × ℕ) → name_in t at ≡ Some x → is_free t ≡ true
free_name (tokens.Text s) at x h = refl
free_name (tokens.Number s) at x h = refl
free_name (tokens.Mark k) at x h = refl
free_name (tokens.Keyword k) at x h = refl
free_name (tokens.Name n) at x h = refl
free_name tokens.Bad at x h = absurd cc
free_name tokens.End at x h = absurd cc

free_word : (t : Token) (k : Keyword) → word_in t ≡ Some k → is_free t ≡ true
free_word (tokens.Text s) k h = refl
free_word (tokens.Number s) k h = refl
free_word (tokens.Mark m) k h = refl
free_word (tokens.Keyword j) k h = refl
free_word (tokens.Name n) k h = refl
free_word tokens.Bad k h = absurd cc
free_word tokens.End k h = absurd cc

one_string : (ms : List Mention) (ts : List PlacedToken) → Good behind ts (string_from ms ts)
one_string ms [] = tt
one_string ms (t ∷ ts) = good_value (string_in t.token) t ms ts (free_string t.token)

pub string_sound : Sound string_at
unfolding string_at
string_sound p = one_string p.0 p.1

one_number : (ms : List Mention) (ts : List PlacedToken) → Good behind ts (number_from ms ts)
one_number ms [] = tt
one_number ms (t ∷ ts) = good_value (number_in t.token) t ms ts (free_number t.token)

number_sound : Sound number_at
unfolding number_at
number_sound p = one_number p.0 p.1

one_field : (ms : List Mention) (ts : List PlacedToken) → Good behind ts (field_from ms ts)
one_field ms [] = tt
one_field ms (t ∷ ts) = good_value (field_in t.token) t ms ts (free_field t.token)

pub field_sound : Sound field_at
unfolding field_at
field_sound p = one_field p.0 p.1

one_name : (ms : List Mention) (ts : List PlacedToken) → Good behind ts (name_from ms ts)
one_name ms [] = tt
one_name ms (t ∷ ts) = good_value (name_in t.token t.at) t ms ts (free_name t.token t.at)

name_sound : Sound name_at
unfolding name_at
name_sound p = one_name p.0 p.1

-- lists

abbrev pub given : {A : Type 0} → A → Point → Read A
given x p = Ok (x, p)

more_sound : {A : Type 0} (element : Point → Read A) → Sound element → (skip : ℕ) (ms : List Mention) (ts : List PlacedToken) → Good behind (drop skip ts) (more_at element skip ms ts)
unfolding more_at
more_sound element s zero ms [] = free_self []
more_sound element s (suc skip) ms [] = free_self []
more_sound element s (suc skip) ms (t ∷ ts) = more_sound element s skip ms ts
more_sound {A = A} element s zero ms (t ∷ ts) =
    good_if behind (t ∷ ts) (is_mark Comma t.token) _ (Ok ([], (ms, t ∷ ts))) (λ h.
    good_from behind (t ∷ ts) ts _ (free_cons t ts ts (free_mark Comma t.token h) (free_self ts))
    (good_then behind behind ts (element (ms, ts)) _ (s (ms, ts)) (λ (x : A × Point) l.
    good_then behind behind x.1.1 (more_at element (length ts - length x.1.1) x.1.0 ts) _
    (subst (λ us. Good behind us (more_at element (length ts - length x.1.1) x.1.0 ts)) (drop_to_rest ts x.1.1 l.rest) (more_sound element s (length ts - length x.1.1) x.1.0 ts))
    (λ xs k. free_self xs.1.1))))
    (free_self (t ∷ ts))

list_sound : {A : Type 0} (element : Point → Read A) → Sound element → Sound (list_at element)
unfolding list_at
list_sound {A = A} element s p =
    good_then behind behind p.1 (element p) _ (s p) (λ (x : A × Point) l.
    good_then behind behind x.1.1 (more_at element 0 x.1.0 x.1.1) _ (more_sound element s 0 x.1.0 x.1.1) (λ xs k. free_self xs.1.1))

closed_sound : {A : Type 0} (element : Point → Read A) (close : Mark) → Sound element → Sound (closed_at element close)
unfolding closed_at
closed_sound {A = A} element close s p =
    good_then behind behind p.1 (list_at element p) _ (list_sound element s p) (λ (xs : List A × Point) l.
    good_then here behind xs.1.1 (mark_at close xs.1) _ (mark_sound close xs.1) (λ rest k. free_self rest.1))

perhaps_sound : {A : Type 0} (element : Point → Read A) (close : Mark) → Sound element → Sound (perhaps_at element close)
unfolding perhaps_at
perhaps_sound {A = A} element close s p =
    good_if behind p.1 (next_is close p.1) _ (closed_at element close p)
    (λ h. good_then here behind p.1 (mark_at close p) _ (mark_sound close p) (λ rest k. free_self rest.1))
    (closed_sound element close s p)

-- a value made of one that was read
wrapped : {A B : Type 0} (f : Point → Read A) → Sound f → (make : A → B) (p : Point) → Good {A = B × Point} behind p.1 (f p >>= λ x. Ok (make x.0, x.1))
wrapped {A = A} f s make p = good_then behind behind p.1 (f p) _ (s p) (λ (x : A × Point) l. free_self x.1.1)

-- initial values

initial_sound : {A : Type 0} (value : Point → Read A) (left_out : A) → Sound value → Sound (initial_at value left_out)
unfolding initial_at
initial_sound value left_out s p =
    good_if behind p.1 (next_is Equals p.1) _ (Ok (left_out, p))
    (λ h. good_then here behind p.1 (mark_at Equals p) _ (mark_sound Equals p) (λ rest k. s rest))
    (free_self p.1)

-- types

typed_sound : {A : Type 0} (inner : Point → Read A) → Sound inner → Sound (typed_at inner)
unfolding typed_at
typed_sound {A = A} inner s p =
    good_then behind behind p.1 (field_at p) _ (field_sound p) (λ (f : List ℕ × Point) l.
    good_then here behind f.1.1 (mark_at Colon f.1) _ (mark_sound Colon f.1) (λ rest k.
    good_then behind behind rest.1 (inner rest) _ (s rest) (λ (t : A × Point) j. free_self t.1.1)))

enum_sound : Sound enum_at
unfolding enum_at
enum_sound p =
    good_then here behind p.1 (mark_at OpenBracket p) _ (mark_sound OpenBracket p) (λ rest l.
    good_then behind behind rest.1 (closed_at string_at CloseBracket rest) _ (closed_sound string_at CloseBracket string_sound rest) (λ (ms : List (List ℕ) × Point) k.
    wrapped (initial_at string_at (initial_member ms.0)) (initial_sound string_at (initial_member ms.0) string_sound) _ ms.1))

record_sound : (inner : Point → Read TypeTree) → Sound inner → Sound (record_at inner)
unfolding record_at
record_sound inner s p = wrapped (perhaps_at (typed_at inner) CloseBrace) (perhaps_sound (typed_at inner) CloseBrace (typed_sound inner s)) _ p

one_of_sound : (inner : Point → Read TypeTree) → Sound inner → Sound (one_of_at inner)
unfolding one_of_at
one_of_sound inner s p = wrapped (closed_at (typed_at inner) Greater) (closed_sound (typed_at inner) Greater (typed_sound inner s)) _ p

word_type_sound : (inner : Point → Read TypeTree) → Sound inner → (k : Keyword) (at : ℕ) → Sound (word_type inner k at)
unfolding word_type
word_type_sound inner s words.Unit at p = free_self p.1
word_type_sound inner s words.Bool at p = free_self p.1
word_type_sound inner s words.Int at p = wrapped (initial_at number_at initial_number) (initial_sound number_at initial_number number_sound) _ p
word_type_sound inner s words.Text at p = wrapped (initial_at string_at initial_text) (initial_sound string_at initial_text string_sound) _ p
word_type_sound inner s words.Enum at p = enum_sound p
word_type_sound inner s words.List at p = wrapped inner s _ p
word_type_sound inner s words.Keyed at p = wrapped inner s _ p
word_type_sound inner s words.Tree at p = wrapped inner s _ p
word_type_sound inner s _ at p = tt

mark_type_sound : (inner : Point → Read TypeTree) → Sound inner → (m : Mark) (at : ℕ) → Sound (mark_type inner m at)
unfolding mark_type
mark_type_sound inner s OpenBrace at p = record_sound inner s p
mark_type_sound inner s Less at p = one_of_sound inner s p
mark_type_sound inner s _ at p = tt

type_begins : (inner : Point → Read TypeTree) → Sound inner → (t : PlacedToken) (ms : List Mention) (ts : List PlacedToken) → Good behind (t ∷ ts) (begun_type inner t.token t.at (ms, ts))
unfolding begun_type
type_begins inner s t ms ts = by_token t.token refl
  where
    by_token : (k : Token) → t.token ≡ k → Good behind (t ∷ ts) (begun_type inner k t.at (ms, ts))
    by_token (tokens.Keyword k) e = good_from behind (t ∷ ts) ts _ (free_cons t ts ts (ap is_free e) (free_self ts)) (word_type_sound inner s k t.at (ms, ts))
    by_token (tokens.Name n) e = free_cons t ts ts (ap is_free e) (free_self ts)
    by_token (tokens.Mark m) e = good_from behind (t ∷ ts) ts _ (free_cons t ts ts (ap is_free e) (free_self ts)) (mark_type_sound inner s m t.at (ms, ts))
    by_token (tokens.Text x) e = tt
    by_token (tokens.Number x) e = tt
    by_token tokens.Bad e = tt
    by_token tokens.End e = tt

type_starts : (inner : Point → Read TypeTree) → Sound inner → (ms : List Mention) (ts : List PlacedToken) → Good behind ts (type_from inner ms ts)
type_starts inner s ms [] = tt
type_starts inner s ms (t ∷ ts) = type_begins inner s t ms ts

next_offset_good : {A : Type 0} (left : A → List PlacedToken) (ts : List PlacedToken) → Good left ts (Err (next_offset ts))
next_offset_good left [] = tt
next_offset_good left (t ∷ ts) = tt

type_sound : (room : ℕ) → Sound (type_at room)
unfolding type_at type_step
type_sound zero p = next_offset_good (behind {A = TypeTree}) p.1
type_sound (suc room) p = type_starts (type_at room) (type_sound room) p.0 p.1

-- lenses

pair_sound : Sound pair_at
unfolding pair_at
pair_sound p =
    good_then behind behind p.1 (string_at p) _ (string_sound p) (λ (a : List ℕ × Point) l.
    good_then here behind a.1.1 (mark_at Equals a.1) _ (mark_sound Equals a.1) (λ rest k.
    good_then behind behind rest.1 (string_at rest) _ (string_sound rest) (λ (b : List ℕ × Point) j. free_self b.1.1)))

bij_sound : Sound bij_at
unfolding bij_at
bij_sound p =
    good_then here behind p.1 (mark_at OpenBracket p) _ (mark_sound OpenBracket p) (λ rest l.
    good_then behind behind rest.1 (closed_at pair_at CloseBracket rest) _ (closed_sound pair_at CloseBracket pair_sound rest) (λ (ps : List (List ℕ × List ℕ) × Point) k.
    wrapped (initial_at string_at (initial_left ps.0)) (initial_sound string_at (initial_left ps.0) string_sound) _ ps.1))

arm_sound : (inner : Point → Read LensTree) → Sound inner → Sound (arm_at inner)
unfolding arm_at
arm_sound inner s p =
    good_then behind behind p.1 (field_at p) _ (field_sound p) (λ (a : List ℕ × Point) l.
    good_then here behind a.1.1 (mark_at Tilde a.1) _ (mark_sound Tilde a.1) (λ rest k.
    good_then behind behind rest.1 (field_at rest) _ (field_sound rest) (λ (b : List ℕ × Point) j.
    good_then here behind b.1.1 (mark_at Colon b.1) _ (mark_sound Colon b.1) (λ next i.
    good_then behind behind next.1 (inner next) _ (s next) (λ (x : LensTree × Point) h. free_self x.1.1)))))

both_sound : (inner : Point → Read LensTree) → Sound inner → Sound (both_row_at inner)
unfolding both_row_at
both_sound inner s p = wrapped (arm_at inner) (arm_sound inner s) _ p

left_sound : (type : Point → Read TypeTree) → Sound type → Sound (left_row_at type)
unfolding left_row_at
left_sound type s p = wrapped (typed_at type) (typed_sound type s) _ p

right_sound : (type : Point → Read TypeTree) → Sound type → Sound (right_row_at type)
unfolding right_row_at
right_sound type s p = wrapped (typed_at type) (typed_sound type s) _ p

row_starts : (type : Point → Read TypeTree) (inner : Point → Read LensTree) → Sound type → Sound inner → (o : Option Keyword) (ms : List Mention) (ts : List PlacedToken) → next_word ts ≡ o → Good behind ts (row_by type inner o ms ts)
row_starts type inner u s (Some words.Left) ms (t ∷ ts) e = good_from behind (t ∷ ts) ts _ (free_cons t ts ts (free_word t.token words.Left e) (free_self ts)) (left_sound type u (ms, ts))
row_starts type inner u s (Some words.Right) ms (t ∷ ts) e = good_from behind (t ∷ ts) ts _ (free_cons t ts ts (free_word t.token words.Right e) (free_self ts)) (right_sound type u (ms, ts))
row_starts type inner u s (Some words.Left) ms [] e = both_sound inner s (ms, [])
row_starts type inner u s (Some words.Right) ms [] e = both_sound inner s (ms, [])
row_starts type inner u s _ ms ts e = both_sound inner s (ms, ts)

row_sound : (type : Point → Read TypeTree) (inner : Point → Read LensTree) → Sound type → Sound inner → Sound (row_at type inner)
unfolding row_at
row_sound type inner u s p = row_starts type inner u s (next_word p.1) p.0 p.1 refl

then_sound : (inner : Point → Read LensTree) → Sound inner → Sound (then_at inner)
unfolding then_at
then_sound inner s p =
    good_then here behind p.1 (mark_at OpenParen p) _ (mark_sound OpenParen p) (λ rest l.
    good_then behind behind rest.1 (inner rest) _ (s rest) (λ (a : LensTree × Point) k.
    good_then here behind a.1.1 (mark_at Comma a.1) _ (mark_sound Comma a.1) (λ next j.
    good_then behind behind next.1 (inner next) _ (s next) (λ (b : LensTree × Point) i.
    good_then here behind b.1.1 (mark_at CloseParen b.1) _ (mark_sound CloseParen b.1) (λ last h. free_self last.1)))))

disc_sound : (type : Point → Read TypeTree) → Sound type → Sound (disc_at type)
unfolding disc_at
disc_sound type s p =
    good_then behind behind p.1 (type p) _ (s p) (λ (a : TypeTree × Point) l. wrapped type s _ a.1)

part_sound : (type : Point → Read TypeTree) → Sound type → Sound (part_at type)
unfolding part_at
part_sound type s p =
    good_then here behind p.1 (mark_at Less p) _ (mark_sound Less p) (λ rest l.
    wrapped (closed_at (typed_at type) Greater) (closed_sound (typed_at type) Greater (typed_sound type s)) _ rest)

word_lens_sound : (type : Point → Read TypeTree) (inner : Point → Read LensTree) → Sound type → Sound inner → (k : Keyword) (at : ℕ) → Sound (word_lens type inner k at)
unfolding word_lens
word_lens_sound type inner u s words.Id at p = wrapped type u _ p
word_lens_sound type inner u s words.Bij at p = bij_sound p
word_lens_sound type inner u s words.Disc at p = disc_sound type u p
word_lens_sound type inner u s words.Then at p = then_sound inner s p
word_lens_sound type inner u s words.Each at p = wrapped inner s _ p
word_lens_sound type inner u s words.Keyed at p = wrapped inner s _ p
word_lens_sound type inner u s words.Tree at p = wrapped inner s _ p
word_lens_sound type inner u s words.Part at p = part_sound type u p
word_lens_sound type inner u s words.Inv at p = wrapped inner s _ p
word_lens_sound type inner u s _ at p = tt

mark_lens_sound : (type : Point → Read TypeTree) (inner : Point → Read LensTree) → Sound type → Sound inner → (m : Mark) (at : ℕ) → Sound (mark_lens type inner m at)
unfolding mark_lens rec_at alt_at
mark_lens_sound type inner u s OpenBrace at p = wrapped (perhaps_at (row_at type inner) CloseBrace) (perhaps_sound (row_at type inner) CloseBrace (row_sound type inner u s)) _ p
mark_lens_sound type inner u s Less at p = wrapped (closed_at (arm_at inner) Greater) (closed_sound (arm_at inner) Greater (arm_sound inner s)) _ p
mark_lens_sound type inner u s _ at p = tt

lens_begins : (type : Point → Read TypeTree) (inner : Point → Read LensTree) → Sound type → Sound inner → (t : PlacedToken) (ms : List Mention) (ts : List PlacedToken) → Good behind (t ∷ ts) (begun_lens type inner t.token t.at (ms, ts))
unfolding begun_lens
lens_begins type inner u s t ms ts = by_token t.token refl
  where
    by_token : (k : Token) → t.token ≡ k → Good behind (t ∷ ts) (begun_lens type inner k t.at (ms, ts))
    by_token (tokens.Keyword k) e = good_from behind (t ∷ ts) ts _ (free_cons t ts ts (ap is_free e) (free_self ts)) (word_lens_sound type inner u s k t.at (ms, ts))
    by_token (tokens.Name n) e = free_cons t ts ts (ap is_free e) (free_self ts)
    by_token (tokens.Mark m) e = good_from behind (t ∷ ts) ts _ (free_cons t ts ts (ap is_free e) (free_self ts)) (mark_lens_sound type inner u s m t.at (ms, ts))
    by_token (tokens.Text x) e = tt
    by_token (tokens.Number x) e = tt
    by_token tokens.Bad e = tt
    by_token tokens.End e = tt

lens_starts : (type : Point → Read TypeTree) (inner : Point → Read LensTree) → Sound type → Sound inner → (ms : List Mention) (ts : List PlacedToken) → Good behind ts (lens_from type inner ms ts)
lens_starts type inner u s ms [] = tt
lens_starts type inner u s ms (t ∷ ts) = lens_begins type inner u s t ms ts

lens_sound : (room : ℕ) → Sound (lens_at room)
unfolding lens_at lens_step
lens_sound zero p = next_offset_good (behind {A = LensTree}) p.1
lens_sound (suc room) p = lens_starts (type_at room) (lens_at room) (type_sound room) (lens_sound room) p.0 p.1

-- programs

abbrev left : {A : Type 0} → A × List PlacedToken → List PlacedToken
left x = x.1

term_sound : (term : Point → Read DefTree) → Sound term → (ts : List PlacedToken) → Good left ts (definition_at term ts)
unfolding definition_at
term_sound term s ts =
    good_then behind left ts (name_at ([], ts)) _ (name_sound ([], ts)) (λ (n : (List ℕ × ℕ) × Point) l.
    good_then here left n.1.1 (mark_at Equals n.1) _ (mark_sound Equals n.1) (λ rest k.
    good_then behind left rest.1 (term rest) _ (s rest) (λ (d : DefTree × Point) j.
    good_then here left d.1.1 (mark_at Semicolon d.1) _ (mark_sound Semicolon d.1) (λ next i. free_self next.1))))

type_term_sound : Sound type_term_at
unfolding type_term_at
type_term_sound p = wrapped (type_at 100) (type_sound 100) _ p

lens_term_sound : Sound lens_term_at
unfolding lens_term_at
lens_term_sound p = wrapped (lens_at 100) (lens_sound 100) _ p

definition_sound : (o : Option Keyword) (term : Point → Read DefTree) → definition_of o ≡ Some term → Sound term
definition_sound (Some words.Type) term e = let same : type_term_at ≡ term = cc in subst Sound same type_term_sound
definition_sound (Some words.Lens) term e = let same : lens_term_at ≡ term = cc in subst Sound same lens_term_sound
definition_sound o term e = absurd cc

word_there : (o : Option Keyword) (term : Point → Read DefTree) → definition_of o ≡ Some term → (k : Keyword) × (o ≡ Some k)
word_there (Some k) term e = (k, refl)
word_there None term e = absurd cc

definitions_sound : (skip : ℕ) (ts : List PlacedToken) → Good left (drop skip ts) (definitions_at skip ts)
unfolding definitions_at
definitions_sound zero [] = free_self []
definitions_sound (suc skip) [] = free_self []
definitions_sound (suc skip) (t ∷ ts) = definitions_sound skip ts
definitions_sound zero (t ∷ ts) =
    by_word (definition_of (word_in t.token)) refl (λ skip. definitions_sound skip ts)
  where
    by_word : (o : Option (Point → Read DefTree)) → definition_of (word_in t.token) ≡ o → ((skip : ℕ) → Good left (drop skip ts) (definitions_at skip ts))
        → Good left (t ∷ ts) (elim o [ Some term ↦ definition_at term ts >>= λ d. definitions_at (length ts - length d.1) ts >>= λ ds. Ok (d.0 ∷ ds.0, ds.1) | None ↦ Ok ([], t ∷ ts) ])
    by_word (Some term) e later =
        let w = word_there (word_in t.token) term e in
        good_from left (t ∷ ts) ts _ (free_cons t ts ts (free_word t.token w.0 w.1) (free_self ts))
        (good_then left left ts (definition_at term ts) _ (term_sound term (definition_sound (word_in t.token) term e) ts) (λ (d : NotedDefinition × List PlacedToken) l.
        good_then left left d.1 (definitions_at (length ts - length d.1) ts) _ (subst (λ us. Good left us (definitions_at (length ts - length d.1) ts)) (drop_to_rest ts d.1 l.rest) (later (length ts - length d.1)))
        (λ (ds : List NotedDefinition × List PlacedToken) k. free_self ds.1)))
    by_word None e later = free_self (t ∷ ts)

main_there : (o : Option Keyword) → is_main o ≡ true → (k : Keyword) × (o ≡ Some k)
main_there (Some k) e = (k, refl)
main_there None e = absurd cc

main_sound : (ts : List PlacedToken) → Good all ts (main_at ts)
unfolding main_at
main_sound [] = tt
main_sound (t ∷ ts) = good_if all (t ∷ ts) (is_main (word_in t.token)) (Ok ts) (Err (Some t.at)) (λ h. let w = main_there (word_in t.token) h in free_cons t ts ts (free_word t.token w.0 w.1) (free_self ts)) tt

-- the end is not free, so that tokens that ran out before it are all free
abbrev Runs : {A : Type 0} → List PlacedToken → Result A (Option ℕ) → Type 0
Runs ts (Ok x) = Unit {0}
Runs ts (Err None) = Free ts
Runs ts (Err (Some n)) = Unit {0}

run_then : {A B : Type 0} (last : A → List PlacedToken) (ts : List PlacedToken) (r : Result A (Option ℕ)) (f : A → Result B (Option ℕ)) → Good last ts r → ((x : A) → Runs (last x) (f x)) → Runs ts (r >>= f)
run_then {B = B} last ts (Ok x) f g h = further (f x) (h x)
  where
    further : (s : Result B (Option ℕ)) → Runs (last x) s → Runs ts s
    further (Ok y) k = tt
    further (Err None) k = free_before ts (last x) g k
    further (Err (Some n)) k = tt
run_then last ts (Err None) f g h = g
run_then last ts (Err (Some n)) f g h = tt

none_runs : {B : Type 0} (ts us : List PlacedToken) (b : Bool) (at : ℕ) (f : List PlacedToken → B) → Runs ts ((cond b (none_left us) (Err (Some at))) >>= λ r. Ok (f r))
none_runs ts [] true at f = tt
none_runs ts (u ∷ us) true at f = tt
none_runs ts us false at f = tt

end_runs : {B : Type 0} (ts : List PlacedToken) (f : List PlacedToken → B) → Runs ts (end_at ts >>= λ r. Ok (f r))
unfolding end_at
end_runs [] f = tt
end_runs (t ∷ ts) f = none_runs (t ∷ ts) ts (is_end t.token) t.at f

program_runs : (ts : List PlacedToken) → Runs ts (program_at ts)
unfolding program_at
program_runs ts =
    run_then left ts (definitions_at 0 ts) _ (definitions_sound 0 ts) (λ (ds : List NotedDefinition × List PlacedToken).
    run_then all ds.1 (main_at ds.1) _ (main_sound ds.1) (λ rest.
    run_then behind rest (lens_at 100 ([], rest)) _ (lens_sound 100 ([], rest)) (λ (l : LensTree × Point).
    end_runs l.1.1 (λ u. record { definitions = ds.0; main = l.0; mentions = l.1.0 }))))

pub a_text_ends : (text : List ℕ) → program_at (tokens_of text) ≡ Err None → ⊥
a_text_ends text e = text_ends (λ t. is_free t.token ≡ true) (λ at h. absurd cc) (λ at h. absurd cc) 0 0 text (subst (Runs (tokens_of text)) e (program_runs (tokens_of text)))

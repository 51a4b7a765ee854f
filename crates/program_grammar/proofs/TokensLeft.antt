-- What reading leaves: the tokens that were there without those that were read, and so fewer.
use Rattle.std.proofs.Common.{◌≡◌, ℕ, zero, suc, ◌-◌, ◌<◌, List, [], ◌∷◌, ◌++◌, length, Option, Some, None, Result, Ok, Err, ap, subst, arith, length-append, inl, inr}
use Rattle.program_tokens.specs.declared.keyword.Keyword.{Keyword}
use Rattle.program_tokens.specs.declared.keyword.Keyword.TheVariants as words
use Rattle.program_tokens.specs.declared.mark.Mark.{Mark}
use Rattle.program_tokens.specs.declared.mark.Mark.TheVariants.{Equals, Semicolon, OpenBrace, CloseBrace, Less, Greater, OpenBracket, CloseBracket, OpenParen, CloseParen, Colon, Comma, Tilde}
use Rattle.program_tokens.specs.declared.token.Token.{Token}
use Rattle.program_tokens.specs.declared.token.Token.TheVariants as tokens
use Rattle.program_tokens.specs.declared.token.PlacedToken.{PlacedToken}
use Rattle.program_terms.specs.Terms.{TypeTree, unit, bool, int, text, enum_of, record_of, one_of, list, keyed, tree, named, term_fields_of, LensTree, id_of, bij_of, disc_of, then_of, rec_lens, alt_lens, each_of, keyed_each, tree_each, part_of, inv_of, named_lens, RowTree, row_both, row_left, row_right, term_rows_of, term_arms_of, DefTree, type_def, lens_def, initial_number, initial_text, initial_member, initial_left}
use Rattle.program_grammar.specs.declared.mention.Mention.{Mention}
use Rattle.program_grammar.specs.declared.mention.Sort.TheVariants as sorts
use Rattle.program_grammar.specs.Mentions.{Point, mention, NotedDefinition}
use Rattle.program_grammar.specs.Reading.{Read, ◌>>=◌, is_mark, next_is, next_word, mark_in, mark_at, string_in, number_in, field_in, name_in, token_value, string_at, number_at, field_at, name_at, more_at, list_at, closed_at, perhaps_at, initial_at, typed_at, enum_at, record_at, one_of_at, word_type, mark_type, begun_type, type_from, type_step, type_at, pair_at, bij_at, arm_at, left_row_at, right_row_at, both_row_at, row_by, row_at, then_at, disc_at, part_at, word_lens, rec_at, alt_at, mark_lens, begun_lens, lens_from, lens_step, lens_at, type_term_at, lens_term_at, definition_at}
use Rattle.program_grammar.proofs.ReadingResults.{done, ok_is, bind_ok, chosen}
use Rattle.program_grammar.proofs.RestOfTokens.{IsRest, rest_self, rest_cons, rest_then, rest_length}

-- ---- rests

-- the tokens end with these, which are fewer
pub record IsShorterRest (left ts : List PlacedToken) : Type 0 where
  pub rest : IsRest left ts
  pub less : length left < length ts

-- what is read leaves fewer tokens
abbrev pub LeavesFewer : {A : Type 0} → (Point → Read A) → Type 0
LeavesFewer {A} element = (p : Point) (x : A × Point) → element p ≡ Ok x → IsShorterRest x.1.1 p.1

pub shorter_cons : (t : PlacedToken) (rest ts : List PlacedToken) → IsRest rest ts → IsShorterRest rest (t ∷ ts)
shorter_cons t rest ts h = record { rest = rest_cons t rest ts h; less = rw h.parts (omega (arith, length-append h.front rest)) }

then_shorter : (a b c : List PlacedToken) → IsRest a b → IsShorterRest b c → IsShorterRest a c
then_shorter a b c p q = record { rest = rest_then a b c p q.rest; less = omega (arith, q.less, rest_length a b p) }

-- ---- one step after another

-- a step that leaves fewer tokens, and then what leaves no others
pub next_leaves : {A C : Type 0} (r : Result A (Option ℕ)) (f : A → Result C (Option ℕ)) (ts rest : List PlacedToken) (left : A → List PlacedToken) (x : C)
    → (r >>= f) ≡ Ok x → ((a : A) → r ≡ Ok a → IsShorterRest (left a) ts) → ((a : A) → f a ≡ Ok x → IsRest rest (left a)) → IsShorterRest rest ts
next_leaves r f ts rest left x e h k = let a = bind_ok r f x e in then_shorter rest (left a.0) ts (k a.0 a.2) (h a.0 a.1)

last_leaves : {B : Type 0} (y x : B × Point) → done y ≡ done x → IsRest x.1.1 y.1.1
last_leaves {B = B} y x e = subst (λ (z : B × Point). IsRest z.1.1 y.1.1) (ok_is y x e) (rest_self y.1.1)

-- what is read and then changed
wrapped : {A B : Type 0} (r : Point → Read A) → LeavesFewer r → (f : A → B) (p : Point) (x : B × Point) → (r p >>= λ t. Ok (f t.0, t.1)) ≡ Ok x → IsShorterRest x.1.1 p.1
wrapped r m f p x e = next_leaves (r p) _ p.1 x.1.1 (λ a. a.1.1) x e (m p) (λ a e. last_leaves (f a.0, a.1) x e)

-- ---- one token

mark_in_leaves : (m : Mark) (ms : List Mention) (ts : List PlacedToken) (q : Point) → mark_in m ms ts ≡ Ok q → IsShorterRest q.1 ts
mark_in_leaves m ms [] q e = absurd cc
mark_in_leaves m ms (t ∷ ts) q e =
    elim (chosen (is_mark m t.token) (Ok (ms, ts)) (Err (Some t.at)) (Ok q) e) [
      | inl p ↦ subst (λ (r : Point). IsShorterRest r.1 (t ∷ ts)) (ok_is (ms, ts) q p.1) (shorter_cons t ts ts (rest_self ts))
      | inr p ↦ absurd cc
    ]

pub mark_leaves : (m : Mark) (p q : Point) → mark_at m p ≡ Ok q → IsShorterRest q.1 p.1
unfolding mark_at
mark_leaves m p q e = mark_in_leaves m p.0 p.1 q e

-- a token of which something is token_value
abbrev value_from : {A : Type 0} → (PlacedToken → Option A) → List Mention → List PlacedToken → Read A
value_from in_token ms [] = Err None
value_from in_token ms (t ∷ ts) = token_value (in_token t) t.at ms ts

value_is : {A : Type 0} (o : Option A) (at : ℕ) (ms : List Mention) (ts : List PlacedToken) (x : A × Point) → token_value o at ms ts ≡ Ok x → ts ≡ x.1.1
value_is {A = A} (Some y) at ms ts x e = ap (λ (p : A × Point). p.1.1) (ok_is (y, (ms, ts)) x e)
value_is {A = A} None at ms ts x e = absurd cc

value_leaves : {A : Type 0} (in_token : PlacedToken → Option A) (ms : List Mention) (ts : List PlacedToken) (x : A × Point) → value_from in_token ms ts ≡ Ok x → IsShorterRest x.1.1 ts
value_leaves in_token ms [] x e = absurd cc
value_leaves in_token ms (t ∷ ts) x e = subst (λ r. IsShorterRest r (t ∷ ts)) (value_is (in_token t) t.at ms ts x e) (shorter_cons t ts ts (rest_self ts))

pub string_leaves : LeavesFewer string_at
unfolding string_at
string_leaves (ms, []) x e = value_leaves (λ t. string_in t.token) ms [] x e
string_leaves (ms, (t ∷ ts)) x e = value_leaves (λ t. string_in t.token) ms (t ∷ ts) x e

pub number_leaves : LeavesFewer number_at
unfolding number_at
number_leaves (ms, []) x e = value_leaves (λ t. number_in t.token) ms [] x e
number_leaves (ms, (t ∷ ts)) x e = value_leaves (λ t. number_in t.token) ms (t ∷ ts) x e

pub field_leaves : LeavesFewer field_at
unfolding field_at
field_leaves (ms, []) x e = value_leaves (λ t. field_in t.token) ms [] x e
field_leaves (ms, (t ∷ ts)) x e = value_leaves (λ t. field_in t.token) ms (t ∷ ts) x e

name_leaves : LeavesFewer name_at
unfolding name_at
name_leaves (ms, []) x e = value_leaves (λ t. name_in t.token t.at) ms [] x e
name_leaves (ms, (t ∷ ts)) x e = value_leaves (λ t. name_in t.token t.at) ms (t ∷ ts) x e

-- ---- lists

more_leaves : {A : Type 0} (element : Point → Read A) (skip : ℕ) (ms : List Mention) (ts : List PlacedToken) (x : List A × Point) → more_at element skip ms ts ≡ Ok x → IsRest x.1.1 ts
unfolding more_at
more_leaves {A = A} element skip ms [] x e = last_leaves ([], (ms, [])) x e
more_leaves {A = A} element (suc skip) ms (t ∷ ts) x e = rest_cons t x.1.1 ts (more_leaves element skip ms ts x e)
more_leaves {A = A} element zero ms (t ∷ ts) x e =
    elim (chosen (is_mark Comma t.token) _ _ _ e) [
      | inl p ↦
          let a = bind_ok (element (ms, ts)) (λ x. more_at element (length ts - length x.1.1) x.1.0 ts >>= λ xs. Ok (x.0 ∷ xs.0, xs.1)) x p.1 in
          let b = bind_ok (more_at element (length ts - length a.0.1.1) a.0.1.0 ts) (λ xs. Ok (a.0.0 ∷ xs.0, xs.1)) x a.2 in
          rest_cons t x.1.1 ts (subst (λ r. IsRest r ts) (ap (λ (y : List A × Point). y.1.1) (ok_is (a.0.0 ∷ b.0.0, b.0.1) x b.2)) (more_leaves element (length ts - length a.0.1.1) a.0.1.0 ts b.0 b.1))
      | inr p ↦ last_leaves ([], (ms, t ∷ ts)) x p.1
    ]

list_leaves : {A : Type 0} (element : Point → Read A) → LeavesFewer element → LeavesFewer (list_at element)
unfolding list_at
list_leaves {A = A} element m p x e =
    next_leaves (element p) _ p.1 x.1.1 (λ a. a.1.1) x e (m p) (λ a e.
    let b = bind_ok (more_at element 0 a.1.0 a.1.1) (λ xs. Ok (a.0 ∷ xs.0, xs.1)) x e in
    subst (λ (y : List A × Point). IsRest y.1.1 a.1.1) (ok_is (a.0 ∷ b.0.0, b.0.1) x b.2) (more_leaves element 0 a.1.0 a.1.1 b.0 b.1))

closed_leaves : {A : Type 0} (element : Point → Read A) (close : Mark) → LeavesFewer element → LeavesFewer (closed_at element close)
unfolding closed_at
closed_leaves element close m p x e =
    next_leaves (list_at element p) _ p.1 x.1.1 (λ a. a.1.1) x e (list_leaves element m p) (λ a e.
    (next_leaves (mark_at close a.1) _ a.1.1 x.1.1 (λ r. r.1) x e (mark_leaves close a.1) (λ r e. last_leaves (a.0, r) x e)).rest)

perhaps_leaves : {A : Type 0} (element : Point → Read A) (close : Mark) → LeavesFewer element → LeavesFewer (perhaps_at element close)
unfolding perhaps_at
perhaps_leaves {A = A} element close m p x e =
    elim (chosen (next_is close p.1) _ _ _ e) [
      | inl h ↦ next_leaves (mark_at close p) _ p.1 x.1.1 (λ r. r.1) x h.1 (mark_leaves close p) (λ r e. last_leaves ([], r) x e)
      | inr h ↦ closed_leaves element close m p x h.1
    ]

pub typed_leaves : {A : Type 0} (inner : Point → Read A) → LeavesFewer inner → LeavesFewer (typed_at inner)
unfolding typed_at
typed_leaves inner m p x e =
    next_leaves (field_at p) _ p.1 x.1.1 (λ a. a.1.1) x e (field_leaves p) (λ a e.
    (next_leaves (mark_at Colon a.1) _ a.1.1 x.1.1 (λ r. r.1) x e (mark_leaves Colon a.1) (λ r e.
    (next_leaves (inner r) _ r.1 x.1.1 (λ t. t.1.1) x e (m r) (λ t e. last_leaves ((a.0, t.0), t.1) x e)).rest)).rest)

-- ---- initial values

-- what is read leaves the tokens that were there or fewer
abbrev pub LeavesRest : {A : Type 0} → (Point → Read A) → Type 0
LeavesRest {A} element = (p : Point) (x : A × Point) → element p ≡ Ok x → IsRest x.1.1 p.1

pub initial_leaves : {A : Type 0} (value : Point → Read A) (left_out : A) → LeavesFewer value → LeavesRest (initial_at value left_out)
unfolding initial_at
initial_leaves {A = A} value left_out m p x e =
    elim (chosen (next_is Equals p.1) _ _ _ e) [
      | inl h ↦ (next_leaves (mark_at Equals p) _ p.1 x.1.1 (λ r. r.1) x h.1 (mark_leaves Equals p) (λ r e. (m r x e).rest)).rest
      | inr h ↦ last_leaves (left_out, p) x h.1
    ]

-- an initial value and then a change
wrapped_initial : {A B : Type 0} (value : Point → Read A) (left_out : A) → LeavesFewer value → (f : A → B) (p : Point) (x : B × Point) → (initial_at value left_out p >>= λ t. Ok (f t.0, t.1)) ≡ Ok x → IsRest x.1.1 p.1
wrapped_initial value left_out m f p x e =
    let a = bind_ok (initial_at value left_out p) (λ t. Ok (f t.0, t.1)) x e in
    rest_then x.1.1 a.0.1.1 p.1 (last_leaves (f a.0.0, a.0.1) x a.2) (initial_leaves value left_out m p a.0 a.1)

-- ---- types

enum_leaves : LeavesFewer enum_at
unfolding enum_at
enum_leaves p x e =
    next_leaves (mark_at OpenBracket p) _ p.1 x.1.1 (λ r. r.1) x e (mark_leaves OpenBracket p) (λ r e.
    (next_leaves (closed_at string_at CloseBracket r) _ r.1 x.1.1 (λ ms. ms.1.1) x e (closed_leaves string_at CloseBracket string_leaves r) (λ ms e.
    wrapped_initial string_at (initial_member ms.0) string_leaves (enum_of ms.0) ms.1 x e)).rest)

record_leaves : (inner : Point → Read TypeTree) → LeavesFewer inner → LeavesFewer (record_at inner)
unfolding record_at
record_leaves inner m p x e = wrapped (perhaps_at (typed_at inner) CloseBrace) (perhaps_leaves (typed_at inner) CloseBrace (typed_leaves inner m)) (λ fs. record_of (term_fields_of fs)) p x e

one_of_leaves : (inner : Point → Read TypeTree) → LeavesFewer inner → LeavesFewer (one_of_at inner)
unfolding one_of_at
one_of_leaves inner m p x e = wrapped (closed_at (typed_at inner) Greater) (closed_leaves (typed_at inner) Greater (typed_leaves inner m)) (λ fs. one_of (term_fields_of fs)) p x e

-- behind a first token it is enough that the tokens left are a rest

word_type_leaves : (inner : Point → Read TypeTree) → LeavesFewer inner → (k : Keyword) (at : ℕ) (p : Point) (x : TypeTree × Point) → word_type inner k at p ≡ Ok x → IsRest x.1.1 p.1
unfolding word_type
word_type_leaves inner m words.Unit at p x e = last_leaves (unit, p) x e
word_type_leaves inner m words.Bool at p x e = last_leaves (bool, p) x e
word_type_leaves inner m words.Int at p x e = wrapped_initial number_at initial_number number_leaves int p x e
word_type_leaves inner m words.Text at p x e = wrapped_initial string_at initial_text string_leaves text p x e
word_type_leaves inner m words.Enum at p x e = (enum_leaves p x e).rest
word_type_leaves inner m words.List at p x e = (wrapped inner m list p x e).rest
word_type_leaves inner m words.Keyed at p x e = (wrapped inner m keyed p x e).rest
word_type_leaves inner m words.Tree at p x e = (wrapped inner m tree p x e).rest
word_type_leaves inner m _ at p x e = absurd cc

mark_type_leaves : (inner : Point → Read TypeTree) → LeavesFewer inner → (k : Mark) (at : ℕ) (p : Point) (x : TypeTree × Point) → mark_type inner k at p ≡ Ok x → IsRest x.1.1 p.1
unfolding mark_type
mark_type_leaves inner m OpenBrace at p x e = (record_leaves inner m p x e).rest
mark_type_leaves inner m Less at p x e = (one_of_leaves inner m p x e).rest
mark_type_leaves inner m _ at p x e = absurd cc

begun_type_leaves : (inner : Point → Read TypeTree) → LeavesFewer inner → (t : Token) (at : ℕ) (p : Point) (x : TypeTree × Point) → begun_type inner t at p ≡ Ok x → IsRest x.1.1 p.1
unfolding begun_type
begun_type_leaves inner m (tokens.Keyword k) at p x e = word_type_leaves inner m k at p x e
begun_type_leaves inner m (tokens.Name n) at p x e = last_leaves (named n, (p.0 ++ mention sorts.Type n at ∷ [], p.1)) x e
begun_type_leaves inner m (tokens.Mark k) at p x e = mark_type_leaves inner m k at p x e
begun_type_leaves inner m (tokens.Text s) at p x e = absurd cc
begun_type_leaves inner m (tokens.Number z) at p x e = absurd cc
begun_type_leaves inner m tokens.Bad at p x e = absurd cc
begun_type_leaves inner m tokens.End at p x e = absurd cc

type_from_leaves : (inner : Point → Read TypeTree) → LeavesFewer inner → (ms : List Mention) (ts : List PlacedToken) (x : TypeTree × Point) → type_from inner ms ts ≡ Ok x → IsShorterRest x.1.1 ts
type_from_leaves inner m ms [] x e = absurd cc
type_from_leaves inner m ms (t ∷ ts) x e = shorter_cons t x.1.1 ts (begun_type_leaves inner m t.token t.at (ms, ts) x e)

pub type_leaves : (room : ℕ) → LeavesFewer (type_at room)
unfolding type_at type_step
type_leaves zero p x e = absurd cc
type_leaves (suc room) p x e = type_from_leaves (type_at room) (type_leaves room) p.0 p.1 x e

-- ---- lenses

pub pair_leaves : LeavesFewer pair_at
unfolding pair_at
pair_leaves p x e =
    next_leaves (string_at p) _ p.1 x.1.1 (λ a. a.1.1) x e (string_leaves p) (λ a e.
    (next_leaves (mark_at Equals a.1) _ a.1.1 x.1.1 (λ r. r.1) x e (mark_leaves Equals a.1) (λ r e.
    (next_leaves (string_at r) _ r.1 x.1.1 (λ b. b.1.1) x e (string_leaves r) (λ b e. last_leaves ((a.0, b.0), b.1) x e)).rest)).rest)

bij_leaves : LeavesFewer bij_at
unfolding bij_at
bij_leaves p x e =
    next_leaves (mark_at OpenBracket p) _ p.1 x.1.1 (λ r. r.1) x e (mark_leaves OpenBracket p) (λ r e.
    (next_leaves (closed_at pair_at CloseBracket r) _ r.1 x.1.1 (λ ps. ps.1.1) x e (closed_leaves pair_at CloseBracket pair_leaves r) (λ ps e.
    wrapped_initial string_at (initial_left ps.0) string_leaves (bij_of ps.0) ps.1 x e)).rest)

pub arm_leaves : (inner : Point → Read LensTree) → LeavesFewer inner → LeavesFewer (arm_at inner)
unfolding arm_at
arm_leaves inner m p x e =
    next_leaves (field_at p) _ p.1 x.1.1 (λ a. a.1.1) x e (field_leaves p) (λ a e.
    (next_leaves (mark_at Tilde a.1) _ a.1.1 x.1.1 (λ r. r.1) x e (mark_leaves Tilde a.1) (λ r e.
    (next_leaves (field_at r) _ r.1 x.1.1 (λ b. b.1.1) x e (field_leaves r) (λ b e.
    (next_leaves (mark_at Colon b.1) _ b.1.1 x.1.1 (λ r. r.1) x e (mark_leaves Colon b.1) (λ r e.
    (next_leaves (inner r) _ r.1 x.1.1 (λ l. l.1.1) x e (m r) (λ l e. last_leaves ((a.0, b.0, l.0), l.1) x e)).rest)).rest)).rest)).rest)

left_leaves : (type : Point → Read TypeTree) → LeavesFewer type → LeavesFewer (left_row_at type)
unfolding left_row_at
left_leaves type m p x e = wrapped (typed_at type) (typed_leaves type m) (λ f. row_left f.0 f.1) p x e

right_leaves : (type : Point → Read TypeTree) → LeavesFewer type → LeavesFewer (right_row_at type)
unfolding right_row_at
right_leaves type m p x e = wrapped (typed_at type) (typed_leaves type m) (λ f. row_right f.0 f.1) p x e

both_leaves : (inner : Point → Read LensTree) → LeavesFewer inner → LeavesFewer (both_row_at inner)
unfolding both_row_at
both_leaves inner m p x e = wrapped (arm_at inner) (arm_leaves inner m) (λ a. row_both a.0 a.1 a.2) p x e

row_by_leaves : (type : Point → Read TypeTree) (inner : Point → Read LensTree) → LeavesFewer type → LeavesFewer inner → (word : Option Keyword) (ms : List Mention) (ts : List PlacedToken) (x : RowTree × Point)
    → row_by type inner word ms ts ≡ Ok x → IsShorterRest x.1.1 ts
row_by_leaves type inner m n (Some words.Left) ms (t ∷ ts) x e = shorter_cons t x.1.1 ts (left_leaves type m (ms, ts) x e).rest
row_by_leaves type inner m n (Some words.Right) ms (t ∷ ts) x e = shorter_cons t x.1.1 ts (right_leaves type m (ms, ts) x e).rest
row_by_leaves type inner m n _ ms ts x e = both_leaves inner n (ms, ts) x e

pub row_leaves : (type : Point → Read TypeTree) (inner : Point → Read LensTree) → LeavesFewer type → LeavesFewer inner → LeavesFewer (row_at type inner)
unfolding row_at
row_leaves type inner m n p x e = row_by_leaves type inner m n (next_word p.1) p.0 p.1 x e

disc_leaves : (type : Point → Read TypeTree) → LeavesFewer type → LeavesFewer (disc_at type)
unfolding disc_at
disc_leaves type m p x e =
    next_leaves (type p) _ p.1 x.1.1 (λ a. a.1.1) x e (m p) (λ a e. (wrapped type m (disc_of a.0) a.1 x e).rest)

then_leaves : (inner : Point → Read LensTree) → LeavesFewer inner → LeavesFewer (then_at inner)
unfolding then_at
then_leaves inner m p x e =
    next_leaves (mark_at OpenParen p) _ p.1 x.1.1 (λ r. r.1) x e (mark_leaves OpenParen p) (λ r e.
    (next_leaves (inner r) _ r.1 x.1.1 (λ a. a.1.1) x e (m r) (λ a e.
    (next_leaves (mark_at Comma a.1) _ a.1.1 x.1.1 (λ r. r.1) x e (mark_leaves Comma a.1) (λ r e.
    (next_leaves (inner r) _ r.1 x.1.1 (λ b. b.1.1) x e (m r) (λ b e.
    (next_leaves (mark_at CloseParen b.1) _ b.1.1 x.1.1 (λ r. r.1) x e (mark_leaves CloseParen b.1) (λ r e. last_leaves (then_of a.0 b.0, r) x e)).rest)).rest)).rest)).rest)

part_leaves : (type : Point → Read TypeTree) → LeavesFewer type → LeavesFewer (part_at type)
unfolding part_at
part_leaves type m p x e =
    next_leaves (mark_at Less p) _ p.1 x.1.1 (λ r. r.1) x e (mark_leaves Less p) (λ r e. (wrapped (closed_at (typed_at type) Greater) (closed_leaves (typed_at type) Greater (typed_leaves type m)) (λ fs. part_of (term_fields_of fs)) r x e).rest)

rec_leaves : (type : Point → Read TypeTree) (inner : Point → Read LensTree) → LeavesFewer type → LeavesFewer inner → LeavesFewer (rec_at type inner)
unfolding rec_at
rec_leaves type inner m n p x e = wrapped (perhaps_at (row_at type inner) CloseBrace) (perhaps_leaves (row_at type inner) CloseBrace (row_leaves type inner m n)) (λ rs. rec_lens (term_rows_of rs)) p x e

alt_leaves : (inner : Point → Read LensTree) → LeavesFewer inner → LeavesFewer (alt_at inner)
unfolding alt_at
alt_leaves inner m p x e = wrapped (closed_at (arm_at inner) Greater) (closed_leaves (arm_at inner) Greater (arm_leaves inner m)) (λ rs. alt_lens (term_arms_of rs)) p x e

word_lens_leaves : (type : Point → Read TypeTree) (inner : Point → Read LensTree) → LeavesFewer type → LeavesFewer inner → (k : Keyword) (at : ℕ) (p : Point) (x : LensTree × Point)
    → word_lens type inner k at p ≡ Ok x → IsRest x.1.1 p.1
unfolding word_lens
word_lens_leaves type inner m n words.Id at p x e = (wrapped type m id_of p x e).rest
word_lens_leaves type inner m n words.Bij at p x e = (bij_leaves p x e).rest
word_lens_leaves type inner m n words.Disc at p x e = (disc_leaves type m p x e).rest
word_lens_leaves type inner m n words.Then at p x e = (then_leaves inner n p x e).rest
word_lens_leaves type inner m n words.Each at p x e = (wrapped inner n each_of p x e).rest
word_lens_leaves type inner m n words.Keyed at p x e = (wrapped inner n keyed_each p x e).rest
word_lens_leaves type inner m n words.Tree at p x e = (wrapped inner n tree_each p x e).rest
word_lens_leaves type inner m n words.Part at p x e = (part_leaves type m p x e).rest
word_lens_leaves type inner m n words.Inv at p x e = (wrapped inner n inv_of p x e).rest
word_lens_leaves type inner m n _ at p x e = absurd cc

mark_lens_leaves : (type : Point → Read TypeTree) (inner : Point → Read LensTree) → LeavesFewer type → LeavesFewer inner → (k : Mark) (at : ℕ) (p : Point) (x : LensTree × Point)
    → mark_lens type inner k at p ≡ Ok x → IsRest x.1.1 p.1
unfolding mark_lens
mark_lens_leaves type inner m n OpenBrace at p x e = (rec_leaves type inner m n p x e).rest
mark_lens_leaves type inner m n Less at p x e = (alt_leaves inner n p x e).rest
mark_lens_leaves type inner m n _ at p x e = absurd cc

begun_lens_leaves : (type : Point → Read TypeTree) (inner : Point → Read LensTree) → LeavesFewer type → LeavesFewer inner → (t : Token) (at : ℕ) (p : Point) (x : LensTree × Point)
    → begun_lens type inner t at p ≡ Ok x → IsRest x.1.1 p.1
unfolding begun_lens
begun_lens_leaves type inner m n (tokens.Keyword k) at p x e = word_lens_leaves type inner m n k at p x e
begun_lens_leaves type inner m n (tokens.Name s) at p x e = last_leaves (named_lens s, (p.0 ++ mention sorts.Lens s at ∷ [], p.1)) x e
begun_lens_leaves type inner m n (tokens.Mark k) at p x e = mark_lens_leaves type inner m n k at p x e
begun_lens_leaves type inner m n (tokens.Text s) at p x e = absurd cc
begun_lens_leaves type inner m n (tokens.Number z) at p x e = absurd cc
begun_lens_leaves type inner m n tokens.Bad at p x e = absurd cc
begun_lens_leaves type inner m n tokens.End at p x e = absurd cc

lens_from_leaves : (type : Point → Read TypeTree) (inner : Point → Read LensTree) → LeavesFewer type → LeavesFewer inner → (ms : List Mention) (ts : List PlacedToken) (x : LensTree × Point)
    → lens_from type inner ms ts ≡ Ok x → IsShorterRest x.1.1 ts
lens_from_leaves type inner m n ms [] x e = absurd cc
lens_from_leaves type inner m n ms (t ∷ ts) x e = shorter_cons t x.1.1 ts (begun_lens_leaves type inner m n t.token t.at (ms, ts) x e)

pub lens_leaves : (room : ℕ) → LeavesFewer (lens_at room)
unfolding lens_at lens_step
lens_leaves zero p x e = absurd cc
lens_leaves (suc room) p x e = lens_from_leaves (type_at room) (lens_at room) (type_leaves room) (lens_leaves room) p.0 p.1 x e

-- ---- definitions

pub type_term_leaves : LeavesFewer type_term_at
unfolding type_term_at
type_term_leaves p x e = wrapped (type_at 100) (type_leaves 100) type_def p x e

pub lens_term_leaves : LeavesFewer lens_term_at
unfolding lens_term_at
lens_term_leaves p x e = wrapped (lens_at 100) (lens_leaves 100) lens_def p x e

pub definition_leaves : (term : Point → Read DefTree) → LeavesFewer term → (ts : List PlacedToken) (x : NotedDefinition × List PlacedToken) → definition_at term ts ≡ Ok x → IsShorterRest x.1 ts
unfolding definition_at
definition_leaves term m ts x e =
    next_leaves (name_at ([], ts)) _ ts x.1 (λ n. n.1.1) x e (name_leaves ([], ts)) (λ n e.
    (next_leaves (mark_at Equals n.1) _ n.1.1 x.1 (λ r. r.1) x e (mark_leaves Equals n.1) (λ r e.
    (next_leaves (term r) _ r.1 x.1 (λ d. d.1.1) x e (m r) (λ d e.
    (next_leaves (mark_at Semicolon d.1) _ d.1.1 x.1 (λ r. r.1) x e (mark_leaves Semicolon d.1) (λ r e.
    subst (λ (y : NotedDefinition × List PlacedToken). IsRest y.1 r.1) (ok_is (record { name = n.0.0; at = n.0.1; def = d.0; mentions = r.0 }, r.1) x e) (rest_self r.1))).rest)).rest)).rest)

-- At most one token is the unexpected one, and the machine stops there.
use Rattle.std.proofs.Common.{◌≡◌, ℕ, zero, suc, Bool, true, false, List, [], ◌∷◌, ◌++◌, length, take, Option, Some, None, refl, sym, ap, subst, ◌∙◌, ◌⊎◌, inl, inr}
use Rattle.program_tokens.specs.declared.token.Token.{Token}
use Rattle.program_tokens.specs.declared.token.PlacedToken.{PlacedToken}
use Rattle.program_grammar.specs.Grammar.{Symbol, IsViablePrefix, no_tokens, mark_first, word_first, name_first, string_first, number_first, end_first, rule_replaced, option_present, option_absent, repeated_once_more, repeated_no_more}
use Rattle.program_grammar.specs.Unexpected.{without_offsets, IsUnexpectedToken}
use Rattle.program_grammar.proofs.RestOfTokens.{same_tail}
use Rattle.law_prefixes.proofs.Machine.{take_one, goes, stop}
use Rattle.law_prefixes.proofs.MachineSoundness.{goes_viable}
use Rattle.law_prefixes.proofs.MachineCompleteness.{Fine, viable_goes}
use Rattle.std.proofs.lemmas.Option.{same_Some}

-- What a viable prefix begins with is a viable prefix.

-- the first n tokens of a viable prefix
first_of_viable : {s : List Symbol} {ts : List Token} → IsViablePrefix s ts → (n : ℕ) → IsViablePrefix s (take n ts)
first_of_viable (no_tokens s) zero = no_tokens s
first_of_viable (no_tokens s) (suc n) = no_tokens s
first_of_viable (mark_first m s ts h) zero = no_tokens _
first_of_viable (mark_first m s ts h) (suc n) = mark_first m s (take n ts) (first_of_viable h n)
first_of_viable (word_first k s ts h) zero = no_tokens _
first_of_viable (word_first k s ts h) (suc n) = word_first k s (take n ts) (first_of_viable h n)
first_of_viable (name_first m s ts h) zero = no_tokens _
first_of_viable (name_first m s ts h) (suc n) = name_first m s (take n ts) (first_of_viable h n)
first_of_viable (string_first m s ts h) zero = no_tokens _
first_of_viable (string_first m s ts h) (suc n) = string_first m s (take n ts) (first_of_viable h n)
first_of_viable (number_first z s ts h) zero = no_tokens _
first_of_viable (number_first z s ts h) (suc n) = number_first z s (take n ts) (first_of_viable h n)
first_of_viable (end_first s ts h) zero = no_tokens _
first_of_viable (end_first s ts h) (suc n) = end_first s (take n ts) (first_of_viable h n)
first_of_viable (rule_replaced r a s ts k h) n = rule_replaced r a s (take n ts) k (first_of_viable h n)
first_of_viable (option_present p a s ts k h) n = option_present p a s (take n ts) k (first_of_viable h n)
first_of_viable (option_absent p s ts h) n = option_absent p s (take n ts) (first_of_viable h n)
first_of_viable (repeated_once_more p a s ts k h) n = repeated_once_more p a s (take n ts) k (first_of_viable h n)
first_of_viable (repeated_no_more p s ts h) n = repeated_no_more p s (take n ts) (first_of_viable h n)

take_length : (before after : List Token) → take (length before) (before ++ after) ≡ before
take_length [] after = refl
take_length (t ∷ before) after = ap (λ x. t ∷ x) (take_length before after)

pub begins : (s : List Symbol) (before after : List Token) → IsViablePrefix s (before ++ after) → IsViablePrefix s before
begins s before after h = subst (IsViablePrefix s) (take_length before after) (first_of_viable h (length before))

-- Two unexpected tokens are at one offset.

same_head : (t u : PlacedToken) (ts us : List PlacedToken) → t ∷ ts ≡ u ∷ us → t ≡ u
same_head t u ts us e = cc

-- one list begins with the other and the token behind it
record Longer (long short : List PlacedToken) (next : PlacedToken) : Type 0 where
  rest : List PlacedToken
  parts : long ≡ short ++ next ∷ rest

longer_cons : (t u : PlacedToken) (long short : List PlacedToken) (next : PlacedToken) → t ≡ u → Longer long short next → Longer (t ∷ long) (u ∷ short) next
longer_cons t u long short next e h = record { rest = h.rest; parts = ap (λ x. x ∷ long) e ∙ ap (λ x. u ∷ x) h.parts }

split_twice : (a b c d : List PlacedToken) (t u : PlacedToken) → a ++ t ∷ c ≡ b ++ u ∷ d → (t ≡ u) ⊎ (Longer b a t) ⊎ (Longer a b u)
split_twice [] [] c d t u e = inl (same_head t u c d e)
split_twice [] (v ∷ b) c d t u e = inr (inl (record { rest = b; parts = ap (λ x. x ∷ b) (sym (same_head t v c (b ++ u ∷ d) e)) }))
split_twice (w ∷ a) [] c d t u e = inr (inr (record { rest = a; parts = ap (λ x. x ∷ a) (same_head w u (a ++ t ∷ c) d e) }))
split_twice (w ∷ a) (v ∷ b) c d t u e =
    let one = same_head w v (a ++ t ∷ c) (b ++ u ∷ d) e in
    elim (split_twice a b c d t u (same_tail w v (a ++ t ∷ c) (b ++ u ∷ d) e)) [
      | inl same ↦ inl same
      | inr (inl h) ↦ inr (inl (longer_cons v w b a t (sym one) h))
      | inr (inr h) ↦ inr (inr (longer_cons w v a b u one h))
    ]

append_cons : (a rest : List PlacedToken) (t : PlacedToken) → without_offsets (a ++ t ∷ rest) ≡ without_offsets (a ++ t ∷ []) ++ without_offsets rest
append_cons [] rest t = refl
append_cons (u ∷ a) rest t = ap (λ x. u.token ∷ x) (append_cons a rest t)

-- an unexpected token is in no viable prefix
not_longer : (s : List Symbol) (long short : List PlacedToken) (t : PlacedToken) → Longer long short t → IsViablePrefix s (without_offsets long) → (IsViablePrefix s (without_offsets (short ++ t ∷ [])) → ⊥) → ⊥
not_longer s long short t h f none = none (begins s (without_offsets (short ++ t ∷ [])) (without_offsets h.rest) (subst (IsViablePrefix s) (ap without_offsets h.parts ∙ append_cons short h.rest t) f))

pub one_unexpected : (s : List Symbol) (ts : List PlacedToken) (at other : ℕ) → IsUnexpectedToken s ts at → IsUnexpectedToken s ts other → at ≡ other
one_unexpected s ts at other m o =
    elim (split_twice m.before o.before m.after o.after m.first o.first (sym m.parts ∙ o.parts)) [
      | inl same ↦ sym m.place ∙ ap (λ (t : PlacedToken). t.at) same ∙ o.place
      | inr (inl h) ↦ absurd (not_longer s o.before m.before m.first h o.viable m.not_viable)
      | inr (inr h) ↦ absurd (not_longer s m.before o.before o.first h m.viable o.not_viable)
    ]

-- The machine stops at the unexpected token.

record Stopped (s : List Symbol) (ts : List PlacedToken) (at : ℕ) : Type 0 where
  before : List PlacedToken
  first : PlacedToken
  after : List PlacedToken
  parts : ts ≡ before ++ first ∷ after
  place : first.at ≡ at
  front : goes s (without_offsets before) ≡ true
  none : goes s (without_offsets (before ++ first ∷ [])) ≡ false

stopped : (s : List Symbol) (ts : List PlacedToken) (at : ℕ) → stop s ts ≡ Some at → Stopped s ts at
unfolding stop goes
stopped s [] at e = absurd cc
stopped s (t ∷ ts) at e =
    elim (take_one s t.token) as (λ o. take_one s t.token ≡ o → (elim o [ Some r ↦ stop r ts | None ↦ Some t.at ]) ≡ Some at → Stopped s (t ∷ ts) at) [
      | Some r ↦ λ k g.
          let h = stopped r ts at g in
          record { before = t ∷ h.before; first = h.first; after = h.after; parts = ap (λ x. t ∷ x) h.parts; place = h.place; front = rw (k, goes) h.front; none = rw (k, goes) h.none }
      | None ↦ λ k g. record { before = []; first = t; after = ts; parts = refl; place = same_Some t.at at g; front = refl; none = rw (k, goes) refl }
    ] refl e

never : (b : Bool) → b ≡ true → b ≡ false → ⊥
never true h k = absurd cc
never false h k = absurd cc

pub stops_at_unexpected : (s : List Symbol) (ts : List PlacedToken) (at : ℕ) → Fine s → stop s ts ≡ Some at → IsUnexpectedToken s ts at
stops_at_unexpected s ts at f e =
    let h = stopped s ts at e in
    record { before = h.before; first = h.first; after = h.after; parts = h.parts; place = h.place; viable = goes_viable s (without_offsets h.before) h.front; not_viable = λ k. never _ (viable_goes k f) h.none }

abbrev nowhere : Option ℕ
nowhere = None

all_go : (s : List Symbol) (ts : List PlacedToken) → stop s ts ≡ None → goes s (without_offsets ts) ≡ true
unfolding stop goes
all_go s [] e = refl
all_go s (t ∷ ts) e =
    elim (take_one s t.token) as (λ o. take_one s t.token ≡ o → (elim o [ Some r ↦ stop r ts | None ↦ Some t.at ]) ≡ nowhere → goes s (t.token ∷ without_offsets ts) ≡ true) [
      | Some r ↦ λ k g. rw (k, goes) (all_go r ts g)
      | None ↦ λ k g. absurd cc
    ] refl e

pub all_fit : (s : List Symbol) (ts : List PlacedToken) → stop s ts ≡ None → IsViablePrefix s (without_offsets ts)
all_fit s ts e = goes_viable s (without_offsets ts) (all_go s ts e)

stops_or_not : (o : Option ℕ) → (o ≡ nowhere) ⊎ ((at : ℕ) × (o ≡ Some at))
stops_or_not (Some at) = inr (at, refl)
stops_or_not None = inl refl

-- an unexpected token is not part of a viable prefix
pub not_viable : (s : List Symbol) (ts : List PlacedToken) (at : ℕ) → IsUnexpectedToken s ts at → IsViablePrefix s (without_offsets ts) → ⊥
not_viable s ts at m f = m.not_viable (begins s (without_offsets (m.before ++ m.first ∷ [])) (without_offsets m.after) (subst (IsViablePrefix s) (ap without_offsets m.parts ∙ append_cons m.before m.after m.first) f))

pub unexpected_stops : (s : List Symbol) (ts : List PlacedToken) (at : ℕ) → Fine s → IsUnexpectedToken s ts at → stop s ts ≡ Some at
unexpected_stops s ts at f m =
    elim (stops_or_not (stop s ts)) [
      | inl e ↦ absurd (not_viable s ts at m (all_fit s ts e))
      | inr found ↦ found.1 ∙ ap Some (one_unexpected s ts found.0 at (stops_at_unexpected s ts found.0 f found.1) m)
    ]

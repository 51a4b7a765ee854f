-- One step of reading beside the machine.
use Rattle.std.proofs.Common.{◌≡◌, ℕ, Bool, true, false, List, [], ◌∷◌, ◌++◌, Option, Some, None, Result, Ok, Err, refl, sym, subst, ◌∙◌, ◌⊎◌, inl, inr}
use Rattle.program_tokens.specs.declared.token.Token.{Token}
use Rattle.program_tokens.specs.declared.token.PlacedToken.{PlacedToken}
use Rattle.program_tokens.specs.Tokens.{placed}
use Rattle.program_grammar.specs.Grammar.{Symbol}
use Rattle.program_grammar.specs.Mentions.{Point}
use Rattle.program_grammar.specs.Reading.{Read, ◌>>=◌}
use Rattle.program_grammar.proofs.ReadingResults.{ok_is, no_value}
use Rattle.program_grammar.proofs.RestOfTokens.{IsRest, rest_self, rest_cons, rest_then}
use Rattle.law_prefixes.proofs.Machine.{take_one, stop}

-- what comes of the value, or the fault
abbrev pub through : {A : Type 0} → Result A (Option ℕ) → (A → Option ℕ) → Option ℕ
through (Ok x) g = g x
through (Err e) g = e

-- What was read from the tokens takes the symbols before to those after: the rest leaves the tokens, and the machine stops where
-- reading failed, or where it stops on the rest.
pub record Takes (X : Type 0) (left : X → List PlacedToken) (before after : List Symbol) (ts : List PlacedToken) (r : Result X (Option ℕ)) : Type 0 where
  pub leaves : (x : X) → r ≡ Ok x → IsRest (left x) ts
  pub stops : stop before ts ≡ through r (λ x. stop after (left x))

-- reading at any point takes these symbols
abbrev pub Reads : (A : Type 0) → List Symbol → (Point → Read A) → Type 0
Reads A e read = (s : List Symbol) (p : Point) → Takes (A × Point) (λ x. x.1.1) (e ++ s) s p.1 (read p)

pub stop_nothing : (s : List Symbol) → stop s [] ≡ None
unfolding stop
stop_nothing s = refl

-- a value
pub takes_ok : {X : Type 0} {left : X → List PlacedToken} (s : List Symbol) (x : X) → Takes X left s s (left x) (Ok x)
takes_ok {X = X} {left = left} s x = record { leaves = λ y e. subst (λ (z : X). IsRest (left z) (left x)) (ok_is x y e) (rest_self (left x)); stops = refl }

-- one thing, and then another
pub takes_then : {X Y : Type 0} {left : X → List PlacedToken} {right : Y → List PlacedToken} {a m b : List Symbol} {ts : List PlacedToken} (r : Result X (Option ℕ)) (f : X → Result Y (Option ℕ))
    → Takes X left a m ts r → ((x : X) → r ≡ Ok x → Takes Y right m b (left x) (f x)) → Takes Y right a b ts (r >>= f)
takes_then {left = left} {right = right} {ts = ts} (Ok x) f h k = record { leaves = λ y e. rest_then (right y) (left x) ts ((k x refl).leaves y e) (h.leaves x refl); stops = h.stops ∙ (k x refl).stops }
takes_then (Err d) f h k = record { leaves = λ y e. absurd (no_value d y e); stops = h.stops }

-- a thing in other words
pub takes_mapped : {A B : Type 0} {a s : List Symbol} {ts : List PlacedToken} (r : Read A) (f : A → B) → Takes (A × Point) (λ x. x.1.1) a s ts r → Takes (B × Point) (λ x. x.1.1) a s ts (r >>= λ t. Ok (f t.0, t.1))
takes_mapped {s = s} r f h = takes_then r _ h (λ t _. takes_ok s (f t.0, t.1))

-- no token is left
pub takes_none : {X : Type 0} {left : X → List PlacedToken} (before after : List Symbol) → Takes X left before after [] (Err None)
takes_none before after = record { leaves = λ y e. absurd (no_value None y e); stops = stop_nothing before }

pub none_as : {X : Type 0} {left : X → List PlacedToken} {after : List Symbol} {r : Result X (Option ℕ)} (before other : List Symbol) → Takes X left other after [] r → Takes X left before after [] r
none_as before other h = record { leaves = h.leaves; stops = stop_nothing before ∙ sym (stop_nothing other) ∙ h.stops }

stop_on : (s m : List Symbol) (k : Token) (at : ℕ) (ts : List PlacedToken) → take_one s k ≡ Some m → stop s (placed k at ∷ ts) ≡ stop m ts
unfolding stop
stop_on s m k at ts h = rw (h, stop) refl

stop_here : (s : List Symbol) (k : Token) (at : ℕ) (ts : List PlacedToken) → take_one s k ≡ None → stop s (placed k at ∷ ts) ≡ Some at
unfolding stop
stop_here s k at ts h = rw (h, stop) refl

stop_as : (s o : List Symbol) (k : Token) (at : ℕ) (ts : List PlacedToken) → take_one s k ≡ take_one o k → stop s (placed k at ∷ ts) ≡ stop o (placed k at ∷ ts)
unfolding stop
stop_as s o k at ts h = rw (h, stop) refl

-- the first token fits
pub takes_first : {X : Type 0} {left : X → List PlacedToken} {before after : List Symbol} {r : Result X (Option ℕ)} (k : Token) (at : ℕ) (ts : List PlacedToken) (m : List Symbol)
    → take_one before k ≡ Some m → Takes X left m after ts r → Takes X left before after (placed k at ∷ ts) r
takes_first {left = left} {before = before} k at ts m e h = record { leaves = λ y g. rest_cons (placed k at) (left y) ts (h.leaves y g); stops = stop_on before m k at ts e ∙ h.stops }

-- the first token does not fit
pub takes_not : {X : Type 0} {left : X → List PlacedToken} {before after : List Symbol} (k : Token) (at : ℕ) (ts : List PlacedToken) → take_one before k ≡ None → Takes X left before after (placed k at ∷ ts) (Err (Some at))
takes_not {before = before} k at ts e = record { leaves = λ y g. absurd (no_value (Some at) y g); stops = stop_here before k at ts e }

-- the first token leaves the same of other symbols
pub takes_as : {X : Type 0} {left : X → List PlacedToken} {before after : List Symbol} {r : Result X (Option ℕ)} (other : List Symbol) (k : Token) (at : ℕ) (ts : List PlacedToken)
    → take_one before k ≡ take_one other k → Takes X left other after (placed k at ∷ ts) r → Takes X left before after (placed k at ∷ ts) r
takes_as {before = before} other k at ts e h = record { leaves = h.leaves; stops = stop_as before other k at ts e ∙ h.stops }

pub either_way : (b : Bool) → (b ≡ true) ⊎ (b ≡ false)
either_way true = inl refl
either_way false = inr refl

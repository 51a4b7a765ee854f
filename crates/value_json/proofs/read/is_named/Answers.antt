use Rattle.std.proofs.Common.{◌≡◌, ℕ, Bool, true, false, List, [], ◌∷◌, length, Option, Some, None, MatchOption, IfSome, bytes_eq, refl, ◌∙◌, arith}
use Rattle.std.specs.Prelude.{nat_eq}
use Rattle.std.specs.List.{AllZip}
use Rattle.std.specs.Iterator.{YieldsThen}
use Rattle.std.specs.Str.Iter.{bytes_rest, bytes_steps}
use Rattle.value_json.proofs.read.is_named.Goals as goal

-- the bytes that were left before a call of `next`, by what it gave and those that were left after it
abbrev Next : Option ℕ → List ℕ → List ℕ → Type 0
Next o xs rest = MatchOption o (length xs ≡ 0) (λ x. xs ≡ x ∷ rest)

-- what `eq` answered where it stopped
abbrev Last : Bool → Option ℕ → Option ℕ → Type 0
Last r o p = MatchOption o (MatchOption p (r ≡ true) (λ _. r ≡ false)) (λ x. (r ≡ false) × IfSome p (λ y. nat_eq x y ≡ false))

-- the calls of `next` that were the last of both texts
at_last : (r : Bool) (o p : Option ℕ) (xs ys more others : List ℕ) → Next o xs more → Next p ys others → Last r o p → r ≡ bytes_eq xs ys
at_last r None None [] [] more others a b h = h
at_last r None None (x ∷ xs) ys more others a b h = absurd (omega arith)
at_last r None None [] (y ∷ ys) more others a b h = absurd (omega arith)
at_last r None (Some y) [] ys more others a b h = rw b h
at_last r None (Some y) (x ∷ xs) ys more others a b h = absurd (omega arith)
at_last r (Some x) None xs [] more others a b h = rw a h.0
at_last r (Some x) None xs (y ∷ ys) more others a b h = absurd (omega arith)
at_last r (Some x) (Some y) xs ys more others a b h = rw (a, b, h.1) h.0

next : (o : Option ℕ) (s u : _) → bytes_steps s o u → Next o (bytes_rest s) (bytes_rest u)
next None s u e = e.0
next (Some x) s u e = e

-- the bytes that were equal, and then those last calls
along : (cs bs : List ℕ) (o p : Option ℕ) (s u t w : _) (r : Bool) → YieldsThen bytes_steps s cs o u → YieldsThen bytes_steps t bs p w
    → AllZip (λ x y. nat_eq x y ≡ true) cs bs → Last r o p → r ≡ bytes_eq (bytes_rest s) (bytes_rest t)
along [] [] o p s u t w r a b z h = rw (a.1, b.1) (at_last r o p (bytes_rest a.0) (bytes_rest b.0) (bytes_rest u) (bytes_rest w) (next o a.0 u a.2) (next p b.0 w b.2) h)
along [] (y ∷ bs) o p s u t w r a b z h = absurd z
along (x ∷ cs) [] o p s u t w r a b z h = absurd z
along (x ∷ cs) (y ∷ bs) o p s u t w r a b z h =
    let rest = along cs bs o p a.1.0 u b.1.0 w r (a.0, a.1.2, a.2) (b.0, b.1.2, b.2) z.1 h in
    rw (a.1.1, b.1.1, z.0) rest

pub returns : goal.returns
returns c =
    let d = c.eq.ensures.ran in
    along d.1 d.2 d.3 d.4 c.bytes.result d.5 d.0 d.6 c.eq.result d.8 d.9 d.10 d.11
    ∙ rw (d.7, c.bytes.ensures.rest, c.bytes-2.ensures.rest, c.as_str.ensures) refl

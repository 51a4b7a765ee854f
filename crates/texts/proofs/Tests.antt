-- Lemmas on tests: of two Bools, of numbers, of the bytes of two names, and of options.
use Rattle.std.proofs.Common.{◌≡◌, ℕ, ◌<◌, Bool, true, false, ◌&&◌, List, Option, Some, refl, sym, arith}
use Rattle.std.specs.Prelude.{bytes_eq, not, ◌||◌, nat_eq}
use Rattle.std.proofs.lemmas.Bool.Decides.{nat_tests}
use Rattle.std.proofs.lemmas.Slice.Eq.{bytes_eq-Decides}

-- ---- one of two tests, or both

pub or_second : (a b : Bool) → b ≡ true → (a || b) ≡ true
or_second true b h = refl
or_second false b h = h

pub or_false : (b : Bool) → (b || false) ≡ b
or_false true = refl
or_false false = refl

pub or_true : (b : Bool) → (b || true) ≡ true
or_true true = refl
or_true false = refl

pub or_grouped : (a b c : Bool) → (a || (b || c)) ≡ ((a || b) || c)
or_grouped true b c = refl
or_grouped false b c = refl

pub neither_second : (a b : Bool) → (a || b) ≡ false → b ≡ false
neither_second true b h = cc
neither_second false b h = h

pub and_false : (b : Bool) → (b && false) ≡ false
and_false true = refl
and_false false = refl

pub true_by_not : (b : Bool) → false ≡ not b → b ≡ true
true_by_not true h = refl
true_by_not false h = cc

-- ---- numbers

pub not_zero : (n : ℕ) → nat_eq n 0 ≡ false → 0 < n
not_zero n h = grind (arith, nat_tests)

pub nat_eq-refl : (n : ℕ) → nat_eq n n ≡ true
nat_eq-refl n = grind (arith, nat_tests)

-- ---- names

pub bytes_eq-is : (m n : List ℕ) → bytes_eq m n ≡ true → m ≡ n
bytes_eq-is m n h = (bytes_eq-Decides m n).0 h

pub bytes_eq-is_back : (m n : List ℕ) → bytes_eq m n ≡ true → n ≡ m
bytes_eq-is_back m n h = sym (bytes_eq-is m n h)

-- ---- options

-- an option has one value
pub same_value : {A : Type 0} {o : Option A} {x y : A} → o ≡ Some x → o ≡ Some y → x ≡ y
same_value p q = cc

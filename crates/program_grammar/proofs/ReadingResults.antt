-- What a step of reading gives: a value, or the offset at which it stopped.
use Rattle.std.proofs.Common.{◌≡◌, ℕ, Bool, true, false, cond, Option, Result, Ok, Err, refl, ◌⊎◌, inl, inr}
use Rattle.program_grammar.specs.Reading.{◌>>=◌}

abbrev pub done : {A : Type 0} → A → Result A (Option ℕ)
done x = Ok x

abbrev pub failed : {A : Type 0} → Option ℕ → Result A (Option ℕ)
failed e = Err e

pub ok_is : {A : Type 0} (x y : A) → done x ≡ done y → x ≡ y
ok_is x y e = cc

pub no_value : {A : Type 0} (e : Option ℕ) (x : A) → failed e ≡ done x → ⊥
no_value e x h = absurd cc

-- the value of a step that did not fail
pub bind_ok : {A B : Type 0} (r : Result A (Option ℕ)) (f : A → Result B (Option ℕ)) (y : B) → (r >>= f) ≡ Ok y → (x : A) × (r ≡ Ok x) × (f x ≡ Ok y)
bind_ok (Ok x) f y e = (x, refl, e)
bind_ok (Err d) f y e = absurd cc

pub chosen : {A : Type 0} (b : Bool) (x y z : A) → cond b x y ≡ z → ((b ≡ true) × (x ≡ z)) ⊎ ((b ≡ false) × (y ≡ z))
chosen true x y z e = inl (refl, e)
chosen false x y z e = inr (refl, e)

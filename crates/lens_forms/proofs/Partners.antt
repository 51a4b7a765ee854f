-- The partner of a left member of a bijection.
use Rattle.std.proofs.Common.{◌≡◌, ℕ, Bool, true, false, ◌||◌, List, [], ◌∷◌, refl, sym}
use Rattle.std.specs.Prelude.{bytes_eq, if◌then◌else◌}
use Rattle.std.proofs.lemmas.Slice.Eq.{bytes_eq-Decides}
use Rattle.texts.specs.Keys.{has_name}
use Rattle.texts.proofs.KeyOrder.{bytes_eq-refl}
use Rattle.lens_forms.specs.Forms.{lefts, rights, partner_of}
use Rattle.texts.proofs.Tests.{or_second}

equal_back : (k m : List ℕ) → bytes_eq k m ≡ true → bytes_eq m k ≡ true
equal_back k m h = (bytes_eq-Decides m k).1 (sym ((bytes_eq-Decides k m).0 h))

partner_step : (b c : Bool) (p : List ℕ × List ℕ) (ps : List (List ℕ × List ℕ)) (n : List ℕ) → (c ≡ true → b ≡ true)
    → (has_name n (lefts ps) ≡ true → has_name (partner_of ps n) (rights ps) ≡ true)
    → (c || has_name n (lefts ps)) ≡ true → has_name (if b then p.1 else partner_of ps n) (p.1 ∷ rights ps) ≡ true
partner_step true c p ps n same rest h = rw (bytes_eq-refl p.1) refl
partner_step false true p ps n same rest h = let no : false ≡ true = same refl in cc
partner_step false false p ps n same rest h = or_second (bytes_eq (partner_of ps n) p.1) (has_name (partner_of ps n) (rights ps)) (rest h)

-- it is a right member
pub partner_among : (ps : List (List ℕ × List ℕ)) (n : List ℕ) → has_name n (lefts ps) ≡ true → has_name (partner_of ps n) (rights ps) ≡ true
partner_among [] n h = cc
partner_among (p ∷ ps) n h = partner_step (bytes_eq p.0 n) (bytes_eq n p.0) p ps n (equal_back n p.0) (λ k. partner_among ps n k) h

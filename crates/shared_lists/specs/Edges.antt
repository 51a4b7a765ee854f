-- Where the items of a list stop passing a test.
use Rattle.std.specs.Prelude.{◌≡◌, ℕ, suc, zero, Bool, true, false, List, [], ◌∷◌}

-- the item before a place passes the test, where there is one
abbrev pub PassesBefore : {T : Type 0} → (T → Bool) → List T → ℕ → Type 0
PassesBefore test items zero = Unit {0}
PassesBefore test [] (suc place) = Unit {0}
PassesBefore test (item ∷ items) (suc zero) = test item ≡ true
PassesBefore test (item ∷ items) (suc (suc place)) = PassesBefore test items (suc place)

-- the item at a place fails the test, where there is one
abbrev pub FailsAt : {T : Type 0} → (T → Bool) → List T → ℕ → Type 0
FailsAt test [] place = Unit {0}
FailsAt test (item ∷ items) zero = test item ≡ false
FailsAt test (item ∷ items) (suc place) = FailsAt test items place

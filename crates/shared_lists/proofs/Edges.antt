-- The place where items stop to pass a test.
use Rattle.std.proofs.Common.{◌≡◌, ℕ, suc, zero, ◌+◌, ◌-◌, ◌<◌, Bool, true, false, List, [], ◌∷◌, length, Some, subst, arith}
use Rattle.std.specs.Prelude.{slice_get}
use mathlib.Core.Path.{sym}
use Rattle.shared_lists.specs.Edges.{PassesBefore, FailsAt}

-- before a place and at a place of any list
module _ {T : Type 0} (test : T → Bool) where
  pub passes_none : (items : List T) (place : ℕ) → place ≡ 0 → PassesBefore test items place
  passes_none items zero e = tt
  passes_none items (suc place) e = absurd (omega arith)

  pub passes_item : (items : List T) (place : ℕ) (item : T) → 0 < place → slice_get items (place - 1) ≡ Some item → test item ≡ true → PassesBefore test items place
  passes_item items zero item l e t = tt
  passes_item [] (suc place) item l e t = tt
  passes_item (x ∷ items) (suc zero) item l e t = cc
  passes_item (x ∷ items) (suc (suc place)) item l e t =
      let same : suc (suc place) - 1 ≡ suc place = omega arith in
      let found : slice_get (x ∷ items) (suc place) ≡ Some item = subst (λ n. slice_get (x ∷ items) n ≡ Some item) same e in
      let less : suc place - 1 ≡ place = omega arith in
      passes_item items (suc place) item (omega arith) (subst (λ n. slice_get items n ≡ Some item) (sym less) found) t

  pub fails_behind : (items : List T) (place : ℕ) → place ≡ length items → FailsAt test items place
  fails_behind [] place e = tt
  fails_behind (x ∷ items) zero e = absurd (omega arith)
  fails_behind (x ∷ items) (suc place) e = fails_behind items place (omega arith)

  pub fails_item : (items : List T) (place : ℕ) (item : T) → slice_get items place ≡ Some item → test item ≡ false → FailsAt test items place
  fails_item [] place item e t = tt
  fails_item (x ∷ items) zero item e t = cc
  fails_item (x ∷ items) (suc place) item e t = fails_item items place item e t

  pub passes_next : (items : List T) (place : ℕ) (item : T) → slice_get items place ≡ Some item → test item ≡ true → PassesBefore test items (place + 1)
  passes_next items place item e t =
      let next : place + 1 ≡ suc place = omega arith in
      let less : suc place - 1 ≡ place = omega arith in
      rw next (passes_item items (suc place) item (omega arith) (subst (λ n. slice_get items n ≡ Some item) (sym less) e) t)

pub ruleset place_rules = (passes_none, passes_item, fails_behind, fails_item)

pub ruleset search_rules = (passes_none, passes_next, fails_behind, fails_item)

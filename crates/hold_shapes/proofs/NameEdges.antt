-- Names in byte order: the place where they stop to be before a name is how many are before it.
use Rattle.std.proofs.Common.{◌≡◌, ℕ, suc, zero, ◌≤◌, Bool, true, false, List, [], ◌∷◌, length, refl, ap, arith}
use Rattle.texts.specs.Keys.{is_before, is_rising, key_rank}
use Rattle.texts.proofs.KeyOrder.{rank-less, rising-rest}
use Rattle.shared_lists.specs.Edges.{PassesBefore, FailsAt}

more : (b : Bool) (k m : List ℕ) (ms : List (List ℕ)) (n : ℕ) → is_before m k ≡ b → is_rising (m ∷ ms) ≡ true → suc n ≡ key_rank k ms → suc (suc n) ≡ key_rank k (m ∷ ms)
more true k m ms n e r h = rw e (ap suc h)
more false k m ms n e r h =
    let none : key_rank k (m ∷ ms) ≤ 0 = rank-less k m (m ∷ ms) 0 r (omega arith) refl e in
    let same : key_rank k (m ∷ ms) ≡ key_rank k ms = rw e refl in
    absurd (omega arith)

pub edge_is_rank : (k : List ℕ) (ks : List (List ℕ)) (n : ℕ) → is_rising ks ≡ true → n ≤ length ks
    → PassesBefore (λ m. is_before m k) ks n → FailsAt (λ m. is_before m k) ks n → n ≡ key_rank k ks
edge_is_rank k [] n r l p f = omega arith
edge_is_rank k (m ∷ ms) zero r l p f = let none : key_rank k (m ∷ ms) ≤ 0 = rank-less k m (m ∷ ms) 0 r (omega arith) refl f in omega arith
edge_is_rank k (m ∷ ms) (suc zero) r l p f = let h : 0 ≡ key_rank k ms = edge_is_rank k ms 0 (rising-rest m ms r) (omega arith) tt f in rw p (ap suc h)
edge_is_rank k (m ∷ ms) (suc (suc n)) r l p f = more (is_before m k) k m ms n refl r (edge_is_rank k ms (suc n) (rising-rest m ms r) (omega arith) p f)

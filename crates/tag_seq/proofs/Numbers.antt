-- Maps from tags to numbers as lists of pairs.
use Rattle.std.proofs.Common.{◌≡◌, ℕ, suc, ◌+◌, ◌-◌, ◌<◌, ◌≤◌, List, [], ◌∷◌, ◌++◌, length, get_or, drop, take, zero, refl, ap, sym, ◌∙◌, true, false, arith, ◌⊎◌, inl, inr, cond}
use Rattle.std.proofs.lemmas.Bool.{ltb-true, lt-ltb, le-ltb, eq-eqb, ne_eqb, cases_order, cases_lt, cases_eq}
use Rattle.std.proofs.lemmas.List.{append-nil, take_rest}
use Rattle.std.proofs.Math.ListN.{drop_of_length-le}
use Rattle.std.specs.Prelude.{nat_eq, nat_lt}
use Rattle.tag_seq.specs.Numbers.{number, merged, IsMap, AreAbove, reduced, with_pair, pairs_before}
use Rattle.tag_seq.specs.MergeLaws.{merged-nothing, merged-less, merged-more, merged-same}

-- what `rest` adds, added behind a pair
number-merged_behind : (t : ℕ) (p : ℕ × ℕ) (ps : List (ℕ × ℕ)) → ((b : List (ℕ × ℕ)) → number t (merged ps b) ≡ number t ps + number t b) → (b : List (ℕ × ℕ)) → number t (merged (p ∷ ps) b) ≡ number t (p ∷ ps) + number t b
number-merged_behind t p ps ih [] = omega (arith, ih [])
number-merged_behind t p ps ih (q ∷ b) =
    elim (cases_order p.0 q.0) [
      | inl e ↦ rw (merged-same p q ps b e) (rw e (elim (cases_eq q.0 t) [
        | inl f ↦ rw (eq-eqb q.0 t f) (omega (arith, ih b))
        | inr f ↦ rw (ne_eqb q.0 t f) (omega (arith, ih b))
      ]))
      | inr o ↦ elim o [
        | inl l ↦ rw (merged-less p q ps b l) (omega (arith, ih (q ∷ b)))
        | inr m ↦ rw (merged-more p q ps b m) (omega (arith, number-merged_behind t p ps ih b))
      ]
    ]

pub number-merged : (t : ℕ) (a b : List (ℕ × ℕ)) → number t (merged a b) ≡ number t a + number t b
number-merged t [] b = omega arith
number-merged t (p ∷ a) b = number-merged_behind t p a (number-merged t a) b

pub above_all : (k t : ℕ) (ps : List (ℕ × ℕ)) → k ≤ t → AreAbove t ps → AreAbove k ps
above_all k t [] h a = tt
above_all k t (p ∷ ps) h a = (omega arith, above_all k t ps h a.1)

pub number-above : (t k : ℕ) (ps : List (ℕ × ℕ)) → t ≤ k → AreAbove k ps → number t ps ≡ 0
number-above t k [] h a = refl
number-above t k (p ∷ ps) h a = rw (ne_eqb p.0 t (λ e. omega arith)) (omega (arith, number-above t k ps h a.1))

above-merged_behind : (k : ℕ) (p : ℕ × ℕ) (ps : List (ℕ × ℕ)) → k < p.0 → ((b : List (ℕ × ℕ)) → AreAbove k b → AreAbove k (merged ps b)) → (b : List (ℕ × ℕ)) → AreAbove k b → AreAbove k (merged (p ∷ ps) b)
above-merged_behind k p ps h ih [] a = (h, ih [] a)
above-merged_behind k p ps h ih (q ∷ b) a =
    elim (cases_order p.0 q.0) [
      | inl e ↦ rw (merged-same p q ps b e) (h, ih b a.1)
      | inr o ↦ elim o [
        | inl l ↦ rw (merged-less p q ps b l) (h, ih (q ∷ b) a)
        | inr m ↦ rw (merged-more p q ps b m) (a.0, above-merged_behind k p ps h ih b a.1)
      ]
    ]

pub above-merged : (k : ℕ) (a b : List (ℕ × ℕ)) → AreAbove k a → AreAbove k b → AreAbove k (merged a b)
above-merged k [] b g h = h
above-merged k (p ∷ a) b g h = above-merged_behind k p a g.0 (λ c m. above-merged k a c g.1 m) b h

map-merged_behind : (p : ℕ × ℕ) (ps : List (ℕ × ℕ)) → IsMap (p ∷ ps) → ((b : List (ℕ × ℕ)) → IsMap b → IsMap (merged ps b)) → (b : List (ℕ × ℕ)) → IsMap b → IsMap (merged (p ∷ ps) b)
map-merged_behind p ps g ih [] h = (g.0, (above-merged p.0 ps [] g.1.0 tt, ih [] h))
map-merged_behind p ps g ih (q ∷ b) h =
    elim (cases_order p.0 q.0) [
      | inl e ↦ rw (merged-same p q ps b e) (omega arith, (above-merged p.0 ps b g.1.0 (above_all p.0 q.0 b (omega arith) h.1.0), ih b h.1.1))
      | inr o ↦ elim o [
        | inl l ↦ rw (merged-less p q ps b l) (g.0, (above-merged p.0 ps (q ∷ b) g.1.0 (l, above_all p.0 q.0 b (omega arith) h.1.0), ih (q ∷ b) h))
        | inr m ↦ rw (merged-more p q ps b m) (h.0, (above-merged q.0 (p ∷ ps) b (m, above_all q.0 p.0 ps (omega arith) g.1.0) h.1.0, map-merged_behind p ps g ih b h.1.1))
      ]
    ]

pub map-merged : (a b : List (ℕ × ℕ)) → IsMap a → IsMap b → IsMap (merged a b)
map-merged [] b g h = h
map-merged (p ∷ a) b g h = map-merged_behind p a g (λ c m. map-merged a c g.1.1 m) b h

pub number_at : (ps : List (ℕ × ℕ)) (i : ℕ) (d : ℕ × ℕ) → i < length ps → (get_or ps i d).1 ≤ number (get_or ps i d).0 ps
number_at [] i d h = absurd (omega arith)
number_at (p ∷ ps) zero d h = rw (eq-eqb p.0 p.0 refl) (omega arith)
number_at (p ∷ ps) (suc i) d h = omega (arith, number_at ps i d (omega arith))

-- where one of two maps has no pair left, the rest of the other one is their sum
pub merged_end : (out a b : List (ℕ × ℕ)) (i j : ℕ) → (length a ≤ i) ⊎ (length b ≤ j) → (out ++ take (length a - i) (drop i a)) ++ take (length b - j) (drop j b) ≡ out ++ merged (drop i a) (drop j b)
merged_end out a b i j (inl h) = rw (take_rest a i, take_rest b j, drop_of_length-le a h, append-nil out) refl
merged_end out a b i j (inr h) = rw (take_rest a i, take_rest b j, drop_of_length-le b h, append-nil (out ++ drop i a), merged-nothing (drop i a)) refl

reduced-nothing : (a : List (ℕ × ℕ)) → reduced a [] ≡ a
reduced-nothing [] = refl
reduced-nothing (p ∷ a) = refl

pub reduced_end : (out a b : List (ℕ × ℕ)) (i j : ℕ) → (length a ≤ i) ⊎ (length b ≤ j) → out ++ take (length a - i) (drop i a) ≡ out ++ reduced (drop i a) (drop j b)
reduced_end out a b i j (inl h) = rw (take_rest a i, drop_of_length-le a h) refl
reduced_end out a b i j (inr h) = rw (take_rest a i, drop_of_length-le b h, reduced-nothing (drop i a)) refl

pub pairs_before-le-length : (t : ℕ) (ps : List (ℕ × ℕ)) → pairs_before t ps ≤ length ps
pairs_before-le-length t [] = omega arith
pairs_before-le-length t (p ∷ ps) =
    elim (cases_lt p.0 t) [
      | inl l ↦ rw (lt-ltb p.0 t l) (omega (arith, pairs_before-le-length t ps))
      | inr m ↦ rw (le-ltb p.0 t m) (omega arith)
    ]

above_at : (t : ℕ) (ps : List (ℕ × ℕ)) (i : ℕ) (d : ℕ × ℕ) → AreAbove t ps → i < length ps → t < (get_or ps i d).0
above_at t [] i d a h = absurd (omega arith)
above_at t (p ∷ ps) zero d a h = a.0
above_at t (p ∷ ps) (suc i) d a h = above_at t ps i d a.1 (omega arith)

-- a pair with a tag below t stands among those before t
pub below_before : (t : ℕ) (ps : List (ℕ × ℕ)) (i : ℕ) (d : ℕ × ℕ) → IsMap ps → i < length ps → (get_or ps i d).0 < t → i < pairs_before t ps
below_before t [] i d m h l = absurd (omega arith)
below_before t (p ∷ ps) zero d m h l = rw (lt-ltb p.0 t l) (omega arith)
below_before t (p ∷ ps) (suc i) d m h l = rw (lt-ltb p.0 t (omega (arith, above_at p.0 ps i d m.1.0 (omega arith)))) (omega (arith, below_before t ps i d m.1.1 (omega arith) l))

-- and one with another tag does not
pub above_before : (t : ℕ) (ps : List (ℕ × ℕ)) (i : ℕ) (d : ℕ × ℕ) → t ≤ (get_or ps i d).0 → i < length ps → pairs_before t ps ≤ i
above_before t [] i d l h = absurd (omega arith)
above_before t (p ∷ ps) zero d l h = rw (le-ltb p.0 t l) (omega arith)
above_before t (p ∷ ps) (suc i) d l h =
    elim (cases_lt p.0 t) [
      | inl k ↦ rw (lt-ltb p.0 t k) (omega (arith, above_before t ps i d l (omega arith)))
      | inr k ↦ rw (le-ltb p.0 t k) (omega arith)
    ]

-- the number of a tag is that of the pair with the tag
pub number_found : (t : ℕ) (ps : List (ℕ × ℕ)) (i : ℕ) (d : ℕ × ℕ) → IsMap ps → i < length ps → (get_or ps i d).0 ≡ t → (get_or ps i d).1 ≡ number t ps
number_found t [] i d m h s = absurd (omega arith)
number_found t (p ∷ ps) zero d m h s = rw (eq-eqb p.0 t s) (omega (arith, number-above t p.0 ps (omega arith) m.1.0))
number_found t (p ∷ ps) (suc i) d m h s = rw (ne_eqb p.0 t (λ e. omega (arith, above_at p.0 ps i d m.1.0 (omega arith)))) (omega (arith, number_found t ps i d m.1.1 (omega arith) s))

-- a tag that all pairs come before has none
pub number_past_end : (t : ℕ) (ps : List (ℕ × ℕ)) → length ps ≤ pairs_before t ps → 0 ≡ number t ps
number_past_end t [] h = refl
number_past_end t (p ∷ ps) h =
    elim (cases_lt p.0 t) [
      | inl l ↦ rw (ne_eqb p.0 t (λ e. omega arith)) (omega (arith, number_past_end t ps (omega (arith, rw (lt-ltb p.0 t l) at h))))
      | inr k ↦ absurd (omega (arith, rw (le-ltb p.0 t k) at h))
    ]

-- a tag has none where the first pair that does not come before it has another tag
pub number_passed : (t : ℕ) (ps : List (ℕ × ℕ)) (i : ℕ) (d : ℕ × ℕ) → IsMap ps → i ≡ pairs_before t ps → i < length ps → ((get_or ps i d).0 ≡ t → ⊥) → 0 ≡ number t ps
number_passed t [] i d m e h s = absurd (omega arith)
number_passed t (p ∷ ps) zero d m e h s =
    elim (cases_lt p.0 t) [
      | inl l ↦ absurd (omega (arith, rw (lt-ltb p.0 t l) at e))
      | inr k ↦ rw (ne_eqb p.0 t s) (omega (arith, number-above t p.0 ps k m.1.0))
    ]
number_passed t (p ∷ ps) (suc i) d m e h s =
    elim (cases_lt p.0 t) [
      | inl l ↦ rw (ne_eqb p.0 t (λ f. omega arith)) (omega (arith, number_passed t ps i d m.1.1 (omega (arith, rw (lt-ltb p.0 t l) at e)) (omega arith) s))
      | inr k ↦ absurd (omega (arith, rw (le-ltb p.0 t k) at e))
    ]

-- no tag that occurs is above the last one
pub last_is_largest : (t : ℕ) (ps : List (ℕ × ℕ)) (i : ℕ) (d : ℕ × ℕ) → IsMap ps → length ps ≡ i + 1 → 0 < number t ps → t ≤ (get_or ps i d).0
last_is_largest t [] i d m e h = absurd (omega arith)
last_is_largest t (p ∷ []) zero d m e h = elim (cases_eq p.0 t) [ inl f ↦ omega arith | inr f ↦ absurd (omega (arith, rw (ne_eqb p.0 t f) at h)) ]
last_is_largest t (p ∷ q ∷ ps) zero d m e h = absurd (omega arith)
last_is_largest t (p ∷ ps) (suc i) d m e h =
    elim (cases_eq p.0 t) [
      | inl f ↦ omega (arith, above_at p.0 ps i d m.1.0 (omega arith))
      | inr f ↦ last_is_largest t ps i d m.1.1 (omega arith) (omega (arith, rw (ne_eqb p.0 t f) at h))
    ]

value_some : (ps : List (ℕ × ℕ)) (i : ℕ) (d : ℕ × ℕ) → IsMap ps → i < length ps → 0 < (get_or ps i d).1
value_some [] i d m h = absurd (omega arith)
value_some (p ∷ ps) zero d m h = m.0
value_some (p ∷ ps) (suc i) d m h = value_some ps i d m.1.1 (omega arith)

pub is_below_last : (ps : List (ℕ × ℕ)) (i b : ℕ) (d : ℕ × ℕ) → IsMap ps → length ps ≡ i + 1 → ((get_or ps i d).0 < b → (t : ℕ) → 0 < number t ps → t < b) × (((t : ℕ) → 0 < number t ps → t < b) → (get_or ps i d).0 < b)
is_below_last ps i b d m e = (
  λ h t k. omega (arith, last_is_largest t ps i d m e k),
  λ h. h (get_or ps i d).0 (omega (arith, number_found (get_or ps i d).0 ps i d m (omega arith) refl, value_some ps i d m (omega arith))),
)

above-reduced : (k : ℕ) (a b : List (ℕ × ℕ)) → AreAbove k a → AreAbove k (reduced a b)
above-reduced k [] b h = tt
above-reduced k (p ∷ a) [] h = h
above-reduced k (p ∷ a) (q ∷ b) h =
    elim (nat_eq p.0 q.0) as (λ c. AreAbove k (cond c (with_pair p.0 (p.1 - q.1) (reduced a b)) (p ∷ reduced a (q ∷ b)))) [
      | true ↦ elim (nat_eq (p.1 - q.1) 0) as (λ c. AreAbove k (cond c (reduced a b) ((p.0, p.1 - q.1) ∷ reduced a b))) [
        | true ↦ above-reduced k a b h.1
        | false ↦ (h.0, above-reduced k a b h.1)
      ]
      | false ↦ (h.0, above-reduced k a (q ∷ b) h.1)
    ]

pub map-reduced : (a b : List (ℕ × ℕ)) → IsMap a → IsMap (reduced a b)
map-reduced [] b h = tt
map-reduced (p ∷ a) [] h = h
map-reduced (p ∷ a) (q ∷ b) h =
    elim (cases_eq p.0 q.0) [
      | inl e ↦ rw (eq-eqb p.0 q.0 e) (elim (cases_eq (p.1 - q.1) 0) [
        | inl z ↦ rw (eq-eqb (p.1 - q.1) 0 z) (map-reduced a b h.1.1)
        | inr z ↦ rw (ne_eqb (p.1 - q.1) 0 z) (omega arith, (above-reduced p.0 a b h.1.0, map-reduced a b h.1.1))
      ])
      | inr f ↦ rw (ne_eqb p.0 q.0 f) (h.0, (above-reduced p.0 a (q ∷ b) h.1.0, map-reduced a (q ∷ b) h.1.1))
    ]

number-with_pair : (t k n : ℕ) (ps : List (ℕ × ℕ)) → number t (with_pair k n ps) ≡ cond (nat_eq k t) n 0 + number t ps
number-with_pair t k n ps =
    elim (cases_eq n 0) [
      | inl z ↦ rw (eq-eqb n 0 z) (rw z (elim (nat_eq k t) as (λ c. number t ps ≡ cond c 0 0 + number t ps) [ true ↦ omega arith | false ↦ omega arith ]))
      | inr z ↦ rw (ne_eqb n 0 z) refl
    ]

among_behind : (p q : ℕ × ℕ) (a b : List (ℕ × ℕ)) → p.0 ≡ q.0 → IsMap (q ∷ b) → ((t : ℕ) → number t (q ∷ b) ≤ number t (p ∷ a)) → (t : ℕ) → number t b ≤ number t a
among_behind p q a b e m h t =
    elim (cases_eq q.0 t) [
      | inl f ↦ omega (arith, number-above t q.0 b (omega arith) m.1.0)
      | inr f ↦ omega (arith, rw (ne_eqb q.0 t f, ne_eqb p.0 t (λ g. f (sym e ∙ g))) at (h t))
    ]

among_later : (p q : ℕ × ℕ) (a b : List (ℕ × ℕ)) → (p.0 ≡ q.0 → ⊥) → IsMap (p ∷ a) → IsMap (q ∷ b) → ((t : ℕ) → number t (q ∷ b) ≤ number t (p ∷ a)) → (t : ℕ) → number t (q ∷ b) ≤ number t a
among_later p q a b n m k h t =
    elim (cases_eq p.0 t) [
      | inl f ↦ elim (cases_order p.0 q.0) [
        | inl e ↦ absurd (n e)
        | inr o ↦ elim o [
          | inl l ↦ rw (ne_eqb q.0 t (λ g. omega arith)) (omega (arith, number-above t q.0 b (omega arith) k.1.0))
          | inr g ↦ absurd (omega (arith, k.0, rw (eq-eqb q.0 q.0 refl, ne_eqb p.0 q.0 n, number-above q.0 p.0 a (omega arith) m.1.0) at (h q.0)))
        ]
      ]
      | inr f ↦ omega (arith, rw (ne_eqb p.0 t f) at (h t))
    ]

pub number-reduced : (a b : List (ℕ × ℕ)) → IsMap a → IsMap b → ((t : ℕ) → number t b ≤ number t a) → (t : ℕ) → number t (reduced a b) + number t b ≡ number t a
number-reduced [] b m k h t = omega (arith, h t)
number-reduced (p ∷ a) [] m k h t = omega arith
number-reduced (p ∷ a) (q ∷ b) m k h t =
    elim (cases_eq p.0 q.0) [
      | inl e ↦ rw (eq-eqb p.0 q.0 e, number-with_pair t p.0 (p.1 - q.1) (reduced a b)) (elim (cases_eq p.0 t) [
        | inl f ↦ rw (eq-eqb p.0 t f, eq-eqb q.0 t (sym e ∙ f)) (omega (arith, number-reduced a b m.1.1 k.1.1 (among_behind p q a b e k h) t, number-above t q.0 b (omega arith) k.1.0, number-above t p.0 a (omega arith) m.1.0, rw (eq-eqb p.0 t f, eq-eqb q.0 t (sym e ∙ f)) at (h t)))
        | inr f ↦ rw (ne_eqb p.0 t f, ne_eqb q.0 t (λ g. f (e ∙ g))) (omega (arith, number-reduced a b m.1.1 k.1.1 (among_behind p q a b e k h) t))
      ])
      | inr f ↦ rw (ne_eqb p.0 q.0 f) (omega (arith, number-reduced a (q ∷ b) m.1.1 k (among_later p q a b f m k h) t))
    ]

-- the same of a pair that was read at a place
pub number_found_at : (t : ℕ) (ps : List (ℕ × ℕ)) (i : ℕ) (p : ℕ × ℕ) → IsMap ps → i < length ps → p ≡ get_or ps i p → p.0 ≡ t → p.1 ≡ number t ps
number_found_at t ps i p m h e s = ap (λ x. x.1) e ∙ number_found t ps i p m h (ap (λ x. x.0) (sym e) ∙ s)

pub number_passed_at : (t : ℕ) (ps : List (ℕ × ℕ)) (i : ℕ) (p : ℕ × ℕ) → IsMap ps → i ≡ pairs_before t ps → i < length ps → p ≡ get_or ps i p → (p.0 ≡ t → ⊥) → 0 ≡ number t ps
number_passed_at t ps i p m b h e s = number_passed t ps i p m b h (λ f. s (ap (λ x. x.0) e ∙ f))

pub is_below_last_at : (ps : List (ℕ × ℕ)) (i b : ℕ) (p : ℕ × ℕ) → IsMap ps → length ps ≡ i + 1 → p ≡ get_or ps i p → (nat_lt p.0 b ≡ true → (t : ℕ) → 0 < number t ps → t < b) × (((t : ℕ) → 0 < number t ps → t < b) → nat_lt p.0 b ≡ true)
is_below_last_at ps i b p m h e =
    let same : p.0 ≡ (get_or ps i p).0 = ap (λ x. x.0) e in
    let both = is_below_last ps i b p m h in
    (λ l. both.0 (omega (arith, ltb-true p.0 b l)), λ f. lt-ltb p.0 b (omega (arith, both.1 f)))

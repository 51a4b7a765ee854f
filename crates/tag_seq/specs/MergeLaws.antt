-- The sum of two maps keeps the laws of measures. These are lemmas, and stand here since a law of an `impl` cites them.
use Rattle.std.specs.Prelude.{◌≡◌, ℕ, ◌+◌, ◌<◌, List, [], ◌∷◌, refl}
use Rattle.std.proofs.Common.{ap, ◌∙◌, sym, arith, inl, inr, add_assoc}
use Rattle.std.proofs.lemmas.Bool.{lt-ltb, le-ltb, cases_order}
use Rattle.tag_seq.specs.Numbers.{merged}
use Rattle.tag_seq.specs.Laws.{MeasureLaws}

pub merged-nothing : (ps : List (ℕ × ℕ)) → merged ps [] ≡ ps
merged-nothing [] = refl
merged-nothing (p ∷ ps) = ap (λ qs. p ∷ qs) (merged-nothing ps)

pub merged-less : (p q : ℕ × ℕ) (ps qs : List (ℕ × ℕ)) → p.0 < q.0 → merged (p ∷ ps) (q ∷ qs) ≡ p ∷ merged ps (q ∷ qs)
merged-less p q ps qs h = rw (lt-ltb p.0 q.0 h)

pub merged-more : (p q : ℕ × ℕ) (ps qs : List (ℕ × ℕ)) → q.0 < p.0 → merged (p ∷ ps) (q ∷ qs) ≡ q ∷ merged (p ∷ ps) qs
merged-more p q ps qs h = rw (le-ltb p.0 q.0 (omega arith), lt-ltb q.0 p.0 h)

pub merged-same : (p q : ℕ × ℕ) (ps qs : List (ℕ × ℕ)) → p.0 ≡ q.0 → merged (p ∷ ps) (q ∷ qs)
    ≡ (p.0, p.1 + q.1) ∷ merged ps qs
merged-same p q ps qs e = rw (le-ltb p.0 q.0 (omega arith), le-ltb q.0 p.0 (omega arith))

-- what the sum of three maps with the first pairs x, y and z needs of the sums of what is left of them
record Shorter (x : ℕ × ℕ) (xs : List (ℕ × ℕ)) (y : ℕ × ℕ) (ys : List (ℕ × ℕ)) (z : ℕ × ℕ)
    (zs : List (ℕ × ℕ)) : Type 0 where
  first : (b c : List (ℕ × ℕ)) → merged (merged xs b) c ≡ merged xs (merged b c)
  second : (c : List (ℕ × ℕ)) → merged (merged (x ∷ xs) ys) c ≡ merged (x ∷ xs) (merged ys c)
  third : merged (merged (x ∷ xs) (y ∷ ys)) zs ≡ merged (x ∷ xs) (merged (y ∷ ys) zs)

first_least : (x y z : ℕ × ℕ) (xs ys zs : List (ℕ × ℕ)) → x.0 < y.0 → x.0 < z.0
    → merged (x ∷ xs) (merged (y ∷ ys) (z ∷ zs)) ≡ x ∷ merged xs (merged (y ∷ ys) (z ∷ zs))
first_least x y z xs ys zs h k =
    elim (cases_order y.0 z.0) [
      | inl e ↦ rw (merged-same y z ys zs e) (merged-less x (y.0, y.1 + z.1) xs (merged ys zs) h)
      | inr o ↦ elim o [
        | inl l ↦ rw (merged-less y z ys zs l) (merged-less x y xs (merged ys (z ∷ zs)) h)
        | inr m ↦ rw (merged-more y z ys zs m) (merged-less x z xs (merged (y ∷ ys) zs) k)
      ]
    ]

merged_grouping_step : (x y z : ℕ × ℕ) (xs ys zs : List (ℕ × ℕ)) → Shorter x xs y ys z zs
    → merged (merged (x ∷ xs) (y ∷ ys)) (z ∷ zs) ≡ merged (x ∷ xs) (merged (y ∷ ys) (z ∷ zs))
merged_grouping_step x y z xs ys zs s =
    elim (cases_order x.0 y.0) [
      | inl e ↦ elim (cases_order x.0 z.0) [
        | inl f ↦ cc (
          merged-same x y xs ys e,
          merged-same (x.0, x.1 + y.1) z (merged xs ys) zs f,
          merged-same y z ys zs (omega arith),
          merged-same x (y.0, y.1 + z.1) xs (merged ys zs) e,
          add_assoc x.1 y.1 z.1,
          s.first ys zs,
        )
        | inr o ↦ elim o [
          | inl l ↦ cc (
            merged-same x y xs ys e,
            merged-less (x.0, x.1 + y.1) z (merged xs ys) zs l,
            merged-less y z ys zs (omega arith),
            merged-same x y xs (merged ys (z ∷ zs)) e,
            s.first ys (z ∷ zs),
          )
          | inr m ↦ cc (
            merged-same x y xs ys e,
            merged-more (x.0, x.1 + y.1) z (merged xs ys) zs m,
            merged-more y z ys zs (omega arith),
            merged-more x z xs (merged (y ∷ ys) zs) m,
            s.third,
          )
        ]
      ]
      | inr d ↦ elim d [
        | inl h ↦ elim (cases_order x.0 z.0) [
          | inl f ↦ cc (
            merged-less x y xs ys h,
            merged-same x z (merged xs (y ∷ ys)) zs f,
            merged-more y z ys zs (omega arith),
            merged-same x z xs (merged (y ∷ ys) zs) f,
            s.first (y ∷ ys) zs,
          )
          | inr o ↦ elim o [
            | inl l ↦ cc (
              merged-less x y xs ys h,
              merged-less x z (merged xs (y ∷ ys)) zs l,
              first_least x y z xs ys zs h l,
              s.first (y ∷ ys) (z ∷ zs),
            )
            | inr m ↦ cc (
              merged-less x y xs ys h,
              merged-more x z (merged xs (y ∷ ys)) zs m,
              merged-more y z ys zs (omega arith),
              merged-more x z xs (merged (y ∷ ys) zs) m,
              s.third,
            )
          ]
        ]
        | inr k ↦ elim (cases_order y.0 z.0) [
          | inl f ↦ cc (
            merged-more x y xs ys k,
            merged-same y z (merged (x ∷ xs) ys) zs f,
            merged-same y z ys zs f,
            merged-more x (y.0, y.1 + z.1) xs (merged ys zs) k,
            s.second zs,
          )
          | inr o ↦ elim o [
            | inl l ↦ cc (
              merged-more x y xs ys k,
              merged-less y z (merged (x ∷ xs) ys) zs l,
              merged-less y z ys zs l,
              merged-more x y xs (merged ys (z ∷ zs)) k,
              s.second (z ∷ zs),
            )
            | inr m ↦ cc (
              merged-more x y xs ys k,
              merged-more y z (merged (x ∷ xs) ys) zs m,
              merged-more y z ys zs m,
              merged-more x z xs (merged (y ∷ ys) zs) (omega arith),
              s.third,
            )
          ]
        ]
      ]
    ]

grouping_third : (x y : ℕ × ℕ) (xs ys : List (ℕ × ℕ))
    → ((b c : List (ℕ × ℕ)) → merged (merged xs b) c ≡ merged xs (merged b c))
    → ((c : List (ℕ × ℕ)) → merged (merged (x ∷ xs) ys) c ≡ merged (x ∷ xs) (merged ys c)) → (c : List (ℕ × ℕ))
    → merged (merged (x ∷ xs) (y ∷ ys)) c ≡ merged (x ∷ xs) (merged (y ∷ ys) c)
grouping_third x y xs ys first second [] =
    merged-nothing (merged (x ∷ xs) (y ∷ ys)) ∙ ap (merged (x ∷ xs)) (sym (merged-nothing (y ∷ ys)))
grouping_third x y xs ys first second (z ∷ zs) =
    merged_grouping_step x y z xs ys zs
    (record { first = first; second = second; third = grouping_third x y xs ys first second zs })

grouping_second : (x : ℕ × ℕ) (xs : List (ℕ × ℕ))
    → ((b c : List (ℕ × ℕ)) → merged (merged xs b) c ≡ merged xs (merged b c)) → (b c : List (ℕ × ℕ))
    → merged (merged (x ∷ xs) b) c ≡ merged (x ∷ xs) (merged b c)
grouping_second x xs first [] c = ap (λ d. merged d c) (merged-nothing (x ∷ xs))
grouping_second x xs first (y ∷ ys) c = grouping_third x y xs ys first (grouping_second x xs first ys) c

pub merged_grouping : (a b c : List (ℕ × ℕ)) → merged (merged a b) c ≡ merged a (merged b c)
merged_grouping [] b c = refl
merged_grouping (x ∷ xs) b c = grouping_second x xs (merged_grouping xs) b c

pub merged_laws : MeasureLaws [] merged
merged_laws = record { nothing_before = λ a. refl; nothing_after = merged-nothing; grouping = merged_grouping }

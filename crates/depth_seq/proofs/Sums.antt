-- What is kept of parts of a list of depths.
use Rattle.std.proofs.Common.{◌≡◌, ℕ, ◌+◌, ◌<◌, ◌≤◌, List, [], ◌∷◌, ◌++◌, length, take, get_or, refl, sym, ◌∙◌, arith, inl, inr, length-append, length-take, subst, ap, append-nil}
use Rattle.std.proofs.lemmas.List.{take_more}
use Rattle.std.proofs.lemmas.Bool.{cases_eq, eq-eqb, ne_eqb}
use Rattle.depth_seq.specs.Sums.{count, AreAtLeast, AreSums}
use Rattle.depth_seq.specs.declared.sum.Sum.{Sum}

pub count-here : (d x : ℕ) (xs : List ℕ) → x ≡ d → count d (x ∷ xs) ≡ 1 + count d xs
count-here d x xs e = rw (eq-eqb x d e) refl

pub count-other : (d x : ℕ) (xs : List ℕ) → (x ≡ d → ⊥) → count d (x ∷ xs) ≡ count d xs
count-other d x xs e = rw (ne_eqb x d e) (omega arith)

pub count-append : (d : ℕ) (xs ys : List ℕ) → count d (xs ++ ys) ≡ count d xs + count d ys
count-append d [] ys = omega arith
count-append d (x ∷ xs) ys = omega (arith, count-append d xs ys)

pub least-append : (d : ℕ) (xs ys : List ℕ) → AreAtLeast d xs → AreAtLeast d ys → AreAtLeast d (xs ++ ys)
least-append d [] ys p q = q
least-append d (x ∷ xs) ys p q = (p.0, least-append d xs ys p.1 q)

pub least-weaker : (d e : ℕ) (xs : List ℕ) → e ≤ d → AreAtLeast d xs → AreAtLeast e xs
least-weaker d e [] h p = tt
least-weaker d e (x ∷ xs) h p = (omega arith, least-weaker d e xs h p.1)

-- a depth below all others does not occur
pub count-below : (d e : ℕ) (xs : List ℕ) → d < e → AreAtLeast e xs → count d xs ≡ 0
count-below d e [] h p = refl
count-below d e (x ∷ xs) h p = count-other d x xs (λ s. omega (arith, p.0)) ∙ count-below d e xs h p.1

pub count-le-length : (d : ℕ) (xs : List ℕ) → count d xs ≤ length xs
count-le-length d [] = omega arith
count-le-length d (x ∷ xs) =
    elim (cases_eq x d) [
      | inl e ↦ omega (arith, count-here d x xs e, count-le-length d xs)
      | inr e ↦ omega (arith, count-other d x xs e, count-le-length d xs)
    ]

pub leasts_within : (s : Sum) (xs : List ℕ) → AreSums s xs → s.leasts ≤ length xs
leasts_within s xs a = omega (arith, a.number, count-le-length s.least xs)

pub sum_of_one : (s : Sum) (d : ℕ) → s.size ≡ 1 → s.least ≡ d → s.leasts ≡ 1 → AreSums s (d ∷ [])
sum_of_one s d p q r = record {
  all = p;
  bound = (omega arith, tt);
  number = rw (q, eq-eqb d d refl) (omega arith);
  occurs = λ h. omega arith;
}

-- no depths before or behind others change nothing
pub none_ahead : (s t : Sum) (xs ys : List ℕ) → AreSums s xs → AreSums t ys → s.size ≡ 0 → AreSums t (xs ++ ys)
none_ahead s t [] ys a b e = b
none_ahead s t (x ∷ xs) ys a b e = absurd (omega (arith, a.all))

pub none_behind : (s t : Sum) (xs ys : List ℕ) → AreSums s xs → AreSums t ys → t.size ≡ 0 → AreSums s (xs ++ ys)
none_behind s t xs [] a b e = rw (append-nil xs) a
none_behind s t xs (y ∷ ys) a b e = absurd (omega (arith, b.all))

-- two parts of which the first has the least depth, or the second, or both
module _ (s t u : Sum) (xs ys : List ℕ) (a : AreSums s xs) (b : AreSums t ys) (z : 0 < s.size) (y : 0 < t.size) (p : u.size ≡ s.size + t.size) where
  pub least_ahead : s.least < t.least → u.least ≡ s.least → u.leasts ≡ s.leasts → AreSums u (xs ++ ys)
  least_ahead l q r = record {
    all = omega (arith, a.all, b.all, length-append xs ys);
    bound = subst (λ m. AreAtLeast m (xs ++ ys)) (sym q) (least-append s.least xs ys a.bound (least-weaker t.least s.least ys (omega arith) b.bound));
    number = omega (arith, a.number, ap (λ m. count m (xs ++ ys)) q, count-append s.least xs ys, count-below s.least t.least ys l b.bound);
    occurs = λ h. omega (arith, a.occurs z);
  }

  pub least_behind : t.least < s.least → u.least ≡ t.least → u.leasts ≡ t.leasts → AreSums u (xs ++ ys)
  least_behind l q r = record {
    all = omega (arith, a.all, b.all, length-append xs ys);
    bound = subst (λ m. AreAtLeast m (xs ++ ys)) (sym q) (least-append t.least xs ys (least-weaker s.least t.least xs (omega arith) a.bound) b.bound);
    number = omega (arith, b.number, ap (λ m. count m (xs ++ ys)) q, count-append t.least xs ys, count-below t.least s.least xs l a.bound);
    occurs = λ h. omega (arith, b.occurs y);
  }

  pub least_both : s.least ≡ t.least → u.least ≡ s.least → u.leasts ≡ s.leasts + t.leasts → AreSums u (xs ++ ys)
  least_both l q r = record {
    all = omega (arith, a.all, b.all, length-append xs ys);
    bound = subst (λ m. AreAtLeast m (xs ++ ys)) (sym q) (least-append s.least xs ys a.bound (least-weaker t.least s.least ys (omega arith) b.bound));
    number = omega (arith, a.number, b.number, ap (λ m. count m (xs ++ ys)) q, count-append s.least xs ys, ap (λ m. count m ys) l);
    occurs = λ h. omega (arith, a.occurs z);
  }

-- one depth more at the end of a part
pub sums_more : (s : Sum) (ds : List ℕ) (i : ℕ) → i < length ds → AreSums s (take i ds ++ (get_or ds i 0 ∷ [])) → AreSums s (take (i + 1) ds)
sums_more s ds i h a = subst (AreSums s) (sym (take_more ds i 0 h)) a

pub ruleset sum_rules = (sum_of_one, none_ahead, none_behind, least_ahead, least_behind, least_both)

pub ruleset of_rules = (sums_more, leasts_within, length-take)

pub ruleset bound_rules = (leasts_within, length-append)

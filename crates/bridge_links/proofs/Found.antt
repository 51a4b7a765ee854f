-- Where an old place is after a plan that is kept as runs.
use Rattle.std.proofs.Common.{◌≡◌, ℕ, zero, suc, ◌+◌, ◌-◌, ◌≤◌, ◌<◌, Bool, true, false, if◌then◌else◌, List, [], ◌∷◌, ◌++◌, length, map, drop, get_or, replicate, Option, Some, None, refl, sym, ap, ◌∙◌, arith, subst, ◌^◌, ◌⊎◌, inl, inr}
use Rattle.std.specs.Prelude.{nat_eq, IfSome}
use Rattle.std.specs.List.{range_with_len}
use Rattle.std.proofs.lemmas.List.{drop_all}
use Rattle.std.proofs.lemmas.Bool.Decides.{nat_tests}
use Rattle.bridge_links.specs.declared.link.Link.{Link}
use Rattle.bridge_links.specs.declared.link.Link.TheVariants.{Stays, Moved, Gone, Missed}
use Rattle.bridge_links.specs.Links.{run_links, all_links, place_of, leads_to, placed, came, ahead, AreBehind, AreInside, IsWithin, RunFits}
use Rattle.bridge_links.proofs.RunLinks.{length-run}
use Rattle.bridge_links.proofs.LinkLists.{runs-at}

-- the test on the first link
by-no : (b : Bool) (l m : Link) → b ≡ false → (if b then l else m) ≡ m
by-no true l m h = absurd cc
by-no false l m h = refl

by-yes : (b : Bool) (l m : Link) → b ≡ true → (if b then l else m) ≡ l
by-yes true l m h = refl
by-yes false l m h = absurd cc

differ : (a b : ℕ) → (a ≡ b → ⊥) → nat_eq a b ≡ false
differ a b h = of-test (nat_eq a b) refl
  where
    of-test : (t : Bool) → nat_eq a b ≡ t → t ≡ false
    of-test true e = absurd (h (grind (arith, nat_tests)))
    of-test false e = refl

agree : (a b : ℕ) → a ≡ b → nat_eq a b ≡ true
agree a b h = grind (arith, nat_tests)

-- a place that is not in a run
abbrev pub IsOut : ℕ → ℕ → ℕ → Type 0
IsOut k c z = (z < k) ⊎ (k + c ≤ z)

out-next : (k c z : ℕ) → IsOut k (suc c) z → IsOut (k + 1) c z
out-next k c z (inl h) = inl (omega arith)
out-next k c z (inr h) = inr (omega arith)

out-differs : (k c z : ℕ) → IsOut k (suc c) z → k ≡ z → ⊥
out-differs k c z (inl h) e = omega arith
out-differs k c z (inr h) e = omega arith

out-stays : (k c n z : ℕ) (rest : List Link) → IsOut k c z → came n z (map Stays (range_with_len k c) ++ rest) ≡ came (n + c) z rest
out-stays k zero n z rest h = let e : n + 0 ≡ n = omega arith in rw e refl
out-stays k (suc c) n z rest h =
    let e : n + 1 + c ≡ n + suc c = omega arith in
    by-no (nat_eq k z) (Stays n) (came (n + 1) z (map Stays (range_with_len (k + 1) c) ++ rest)) (differ k z (out-differs k c z h))
    ∙ (out-stays (k + 1) c (n + 1) z rest (out-next k c z h) ∙ ap (λ i. came i z rest) e)

out-moved : (k c n z : ℕ) (rest : List Link) → IsOut k c z → came n z (map Moved (range_with_len k c) ++ rest) ≡ came (n + c) z rest
out-moved k zero n z rest h = let e : n + 0 ≡ n = omega arith in rw e refl
out-moved k (suc c) n z rest h =
    let e : n + 1 + c ≡ n + suc c = omega arith in
    by-no (nat_eq k z) (Moved n) (came (n + 1) z (map Moved (range_with_len (k + 1) c) ++ rest)) (differ k z (out-differs k c z h))
    ∙ (out-moved (k + 1) c (n + 1) z rest (out-next k c z h) ∙ ap (λ i. came i z rest) e)

out-gone : (c n z : ℕ) (rest : List Link) → came n z (replicate c Gone ++ rest) ≡ came (n + c) z rest
out-gone zero n z rest = let e : n + 0 ≡ n = omega arith in rw e refl
out-gone (suc c) n z rest = let e : n + 1 + c ≡ n + suc c = omega arith in out-gone c (n + 1) z rest ∙ ap (λ i. came i z rest) e

out-missed : (c n z : ℕ) (rest : List Link) → came n z (replicate c Missed ++ rest) ≡ came (n + c) z rest
out-missed zero n z rest = let e : n + 0 ≡ n = omega arith in rw e refl
out-missed (suc c) n z rest = let e : n + 1 + c ≡ n + suc c = omega arith in out-missed c (n + 1) z rest ∙ ap (λ i. came i z rest) e

-- the link is to no place, or to one that the run does not have
pub behind-run : (l : Link) (k c n z : ℕ) (rest : List Link) → place_of l ≡ Some k → IsOut k c z → came n z (run_links l c ++ rest) ≡ came (n + c) z rest
behind-run (Stays j) k c n z rest e h = let q : j ≡ k = cc in out-stays j c n z rest (subst (λ i. IsOut i c z) (sym q) h)
behind-run (Moved j) k c n z rest e h = let q : j ≡ k = cc in out-moved j c n z rest (subst (λ i. IsOut i c z) (sym q) h)
behind-run Gone k c n z rest e h = absurd cc
behind-run Missed k c n z rest e h = absurd cc

pub behind-none : (l : Link) (c n z : ℕ) (rest : List Link) → place_of l ≡ None → came n z (run_links l c ++ rest) ≡ came (n + c) z rest
behind-none (Stays j) c n z rest e = absurd cc
behind-none (Moved j) c n z rest e = absurd cc
behind-none Gone c n z rest e = out-gone c n z rest
behind-none Missed c n z rest e = out-missed c n z rest

-- the place is in the run
in-stays : (k c n z i : ℕ) (rest : List Link) → k + i ≡ z → i < c → came n z (map Stays (range_with_len k c) ++ rest) ≡ Stays (n + i)
in-stays k zero n z i rest e h = absurd (omega arith)
in-stays k (suc c) n z zero rest e h =
    let q : n + 0 ≡ n = omega arith in
    by-yes (nat_eq k z) (Stays n) (came (n + 1) z (map Stays (range_with_len (k + 1) c) ++ rest)) (agree k z (omega arith)) ∙ ap Stays (sym q)
in-stays k (suc c) n z (suc i) rest e h =
    let q : n + 1 + i ≡ n + suc i = omega arith in
    by-no (nat_eq k z) (Stays n) (came (n + 1) z (map Stays (range_with_len (k + 1) c) ++ rest)) (differ k z (λ w. omega arith))
    ∙ (in-stays (k + 1) c (n + 1) z i rest (omega arith) (omega arith) ∙ ap Stays q)

in-moved : (k c n z i : ℕ) (rest : List Link) → k + i ≡ z → i < c → came n z (map Moved (range_with_len k c) ++ rest) ≡ Moved (n + i)
in-moved k zero n z i rest e h = absurd (omega arith)
in-moved k (suc c) n z zero rest e h =
    let q : n + 0 ≡ n = omega arith in
    by-yes (nat_eq k z) (Moved n) (came (n + 1) z (map Moved (range_with_len (k + 1) c) ++ rest)) (agree k z (omega arith)) ∙ ap Moved (sym q)
in-moved k (suc c) n z (suc i) rest e h =
    let q : n + 1 + i ≡ n + suc i = omega arith in
    by-no (nat_eq k z) (Moved n) (came (n + 1) z (map Moved (range_with_len (k + 1) c) ++ rest)) (differ k z (λ w. omega arith))
    ∙ (in-moved (k + 1) c (n + 1) z i rest (omega arith) (omega arith) ∙ ap Moved q)

-- the d-th place behind a place of the run, which is number i there
pub inside-run : (l : Link) (k c n y i d : ℕ) (rest : List Link) → place_of l ≡ Some k → k + i ≡ y → i + d < c → came n (y + d) (run_links l c ++ rest) ≡ ahead (n + d) (placed i l)
inside-run (Stays j) k c n y i d rest e h p =
    let q : j ≡ k = cc in
    let z : n + (i + d) ≡ i + (n + d) = omega arith in
    in-stays j c n (y + d) (i + d) rest (omega arith) p ∙ ap Stays z
inside-run (Moved j) k c n y i d rest e h p =
    let q : j ≡ k = cc in
    let z : n + (i + d) ≡ i + (n + d) = omega arith in
    in-moved j c n (y + d) (i + d) rest (omega arith) p ∙ ap Moved z
inside-run Gone k c n y i d rest e h p = absurd cc
inside-run Missed k c n y i d rest e h p = absurd cc

-- ---- what `find` says of a run

pub none-inside : (l : Link) (c y m : ℕ) (r : List Link) → run_links l c ≡ r → place_of l ≡ None → AreBehind y m r
none-inside l c y m r e h d n rest p =
    subst (λ r. came n (y + d) (r ++ rest) ≡ came (n + length r) (y + d) rest) e
    (behind-none l c n (y + d) rest h ∙ ap (λ i. came (n + i) (y + d) rest) (sym (length-run l c)))

pub all-before : (l : Link) (k c y m : ℕ) (r : List Link) → run_links l c ≡ r → place_of l ≡ Some k → y + m ≤ k → AreBehind y m r
all-before l k c y m r e h p d n rest q =
    subst (λ r. came n (y + d) (r ++ rest) ≡ came (n + length r) (y + d) rest) e
    (behind-run l k c n (y + d) rest h (inl (omega arith)) ∙ ap (λ i. came (n + i) (y + d) rest) (sym (length-run l c)))

pub all-after : (l : Link) (k c y m : ℕ) (r : List Link) → run_links l c ≡ r → place_of l ≡ Some k → k + c ≤ y → AreBehind y m r
all-after l k c y m r e h p d n rest q =
    subst (λ r. came n (y + d) (r ++ rest) ≡ came (n + length r) (y + d) rest) e
    (behind-run l k c n (y + d) rest h (inr (omega arith)) ∙ ap (λ i. came (n + i) (y + d) rest) (sym (length-run l c)))

pub all-inside : (l : Link) (k c y i m : ℕ) (r : List Link) → run_links l c ≡ r → place_of l ≡ Some k → k + i ≡ y → i + m ≤ c → AreInside y m r (placed i l)
all-inside l k c y i m r e h p q d n rest o =
    subst (λ r. came n (y + d) (r ++ rest) ≡ ahead (n + d) (placed i l)) e (inside-run l k c n y i d rest h p (omega arith))

-- ---- over the runs

-- m old places from y on are not in the runs before number i, which have n links
abbrev pub AreFrom : ℕ → ℕ → ℕ → ℕ → List (List Link) → Type 0
AreFrom y m n i rs = (d : ℕ) → d < m → came 0 (y + d) (all_links rs) ≡ came n (y + d) (all_links (drop i rs))

pub from-start : (y m : ℕ) (rs : List (List Link)) → AreFrom y m 0 0 rs
from-start y m rs d h = refl

pub from-next : (y m q n i : ℕ) (rs : List (List Link)) (r : List Link) → i < length rs → r ≡ get_or rs i r → q ≤ m → AreFrom y m n i rs → AreBehind y q r → AreFrom y q (n + length r) (i + 1) rs
from-next y m q n i rs r p e o h b d k =
    h d (omega arith) ∙ (ap (λ ls. came n (y + d) ls) (runs-at rs i r p e) ∙ b d n (all_links (drop (i + 1) rs)) k)

ahead-twice : (n d : ℕ) (l : Link) → ahead (n + d) l ≡ ahead d (ahead n l)
ahead-twice n d (Stays k) = let e : k + (n + d) ≡ k + n + d = omega arith in ap Stays e
ahead-twice n d (Moved k) = let e : k + (n + d) ≡ k + n + d = omega arith in ap Moved e
ahead-twice n d Gone = refl
ahead-twice n d Missed = refl

pub from-found : (y m q n i : ℕ) (rs : List (List Link)) (r : List Link) (l : Link) → i < length rs → r ≡ get_or rs i r → q ≤ m → AreFrom y m n i rs → AreInside y q r l
    → (d : ℕ) → d < q → came 0 (y + d) (all_links rs) ≡ ahead d (ahead n l)
from-found y m q n i rs r l p e o h b d k =
    h d (omega arith) ∙ (ap (λ ls. came n (y + d) ls) (runs-at rs i r p e) ∙ (b d n (all_links (drop (i + 1) rs)) k ∙ ahead-twice n d l))

pub from-end : (y m n i : ℕ) (rs : List (List Link)) → length rs ≤ i → AreFrom y m n i rs → (d : ℕ) → d < m → came 0 (y + d) (all_links rs) ≡ ahead d Gone
from-end y m n i rs p h d k = h d k ∙ ap (λ rest. came n (y + d) (all_links rest)) (drop_all i rs p)

-- one place
pub found-one : (y : ℕ) (ls : List Link) (l : Link) (m : ℕ) → 0 < m → ((d : ℕ) → d < m → came 0 (y + d) ls ≡ ahead d l) → l ≡ came 0 y ls
found-one y ls l m p h =
    let e : y + 0 ≡ y = omega arith in
    ahead-none l ∙ sym (ap (λ i. came 0 i ls) (sym e) ∙ h 0 p)
  where
    ahead-none : (l : Link) → l ≡ ahead 0 l
    ahead-none (Stays k) = let e : k ≡ k + 0 = omega arith in ap Stays e
    ahead-none (Moved k) = let e : k ≡ k + 0 = omega arith in ap Moved e
    ahead-none Gone = refl
    ahead-none Missed = refl

-- ---- the bound of a link

pub within-placed : (l : Link) (n i : ℕ) → i < n → IsWithin n (placed i l)
within-placed (Stays k) n i h = h
within-placed (Moved k) n i h = h
within-placed Gone n i h = tt
within-placed Missed n i h = tt

pub fits-within : (l : Link) (n m : ℕ) → IsWithin n l → m + n ≤ 2 ^ 64 → RunFits l m
fits-within (Stays k) n m h p = omega arith
fits-within (Moved k) n m h p = omega arith
fits-within Gone n m h p = tt
fits-within Missed n m h p = tt

pub some-within : (o : Option Link) (l : Link) (n : ℕ) → o ≡ Some l → IfSome o (λ k. IsWithin n k) → IsWithin n l
some-within None l n e h = absurd cc
some-within (Some k) l n e h = let q : k ≡ l = cc in subst (λ i. IsWithin n i) q h

pub ruleset within_rules = (within-placed)

-- What becomes of links after a plan of the far shape, run by run.
use Rattle.std.proofs.Common.{◌≡◌, ℕ, zero, suc, ◌+◌, ◌-◌, ◌≤◌, ◌<◌, List, [], ◌∷◌, ◌++◌, length, map, take, drop, get_or, replicate, Some, None, refl, sym, ap, ◌∙◌, arith, subst, append-nil}
use Rattle.std.specs.List.{range_with_len}
use Rattle.std.proofs.lemmas.List.{drop_all, append_assoc, take_all, map-append}
use Rattle.bridge_links.specs.declared.link.Link.{Link}
use Rattle.bridge_links.specs.declared.link.Link.TheVariants.{Stays, Moved, Gone, Missed}
use Rattle.bridge_links.specs.Links.{run_links, all_links, place_of, came, ahead, as_moved, moved_as, followed, far_planned}
use Rattle.bridge_links.proofs.RunLinks.{length-run, part-run}
use Rattle.bridge_links.proofs.LinkLists.{runs-at}

module _ (g : ℕ → Link) where
  -- the first of so many, and the others
  made-stays : (m z k : ℕ) → ((d : ℕ) → d < m → g (z + d) ≡ Stays (k + d)) → map g (range_with_len z m) ≡ map Stays (range_with_len k m)
  made-stays zero z k h = refl
  made-stays (suc m) z k h =
      let a : z + 0 ≡ z = omega arith in
      let b : k + 0 ≡ k = omega arith in
      let first : g z ≡ Stays k = ap g (sym a) ∙ (h 0 (omega arith) ∙ ap Stays b) in
      let others : map g (range_with_len (z + 1) m) ≡ map Stays (range_with_len (k + 1) m) =
      made-stays m (z + 1) (k + 1) (λ d p.
      let e : z + 1 + d ≡ z + (d + 1) = omega arith in
      let q : k + (d + 1) ≡ k + 1 + d = omega arith in
      ap g e ∙ (h (d + 1) (omega arith) ∙ ap Stays q)) in
      rw (first, others) refl

  made-moved : (m z k : ℕ) → ((d : ℕ) → d < m → g (z + d) ≡ Moved (k + d)) → map g (range_with_len z m) ≡ map Moved (range_with_len k m)
  made-moved zero z k h = refl
  made-moved (suc m) z k h =
      let a : z + 0 ≡ z = omega arith in
      let b : k + 0 ≡ k = omega arith in
      let first : g z ≡ Moved k = ap g (sym a) ∙ (h 0 (omega arith) ∙ ap Moved b) in
      let others : map g (range_with_len (z + 1) m) ≡ map Moved (range_with_len (k + 1) m) =
      made-moved m (z + 1) (k + 1) (λ d p.
      let e : z + 1 + d ≡ z + (d + 1) = omega arith in
      let q : k + (d + 1) ≡ k + 1 + d = omega arith in
      ap g e ∙ (h (d + 1) (omega arith) ∙ ap Moved q)) in
      rw (first, others) refl

  made-same : (l : Link) (m z : ℕ) → ((d : ℕ) → d < m → g (z + d) ≡ l) → map g (range_with_len z m) ≡ replicate m l
  made-same l zero z h = refl
  made-same l (suc m) z h =
      let a : z + 0 ≡ z = omega arith in
      let first : g z ≡ l = ap g (sym a) ∙ h 0 (omega arith) in
      let others : map g (range_with_len (z + 1) m) ≡ replicate m l =
      made-same l m (z + 1) (λ d p. let e : z + 1 + d ≡ z + (d + 1) = omega arith in ap g e ∙ h (d + 1) (omega arith)) in
      rw (first, others) refl

  made-run : (l : Link) (m z : ℕ) → ((d : ℕ) → d < m → g (z + d) ≡ ahead d l) → map g (range_with_len z m) ≡ run_links l m
  made-run (Stays k) m z h = made-stays m z k h
  made-run (Moved k) m z h = made-moved m z k h
  made-run Gone m z h = made-same Gone m z h
  made-run Missed m z h = made-same Missed m z h

as_moved-ahead : (d : ℕ) (l : Link) → as_moved (ahead d l) ≡ ahead d (as_moved l)
as_moved-ahead d (Stays k) = refl
as_moved-ahead d (Moved k) = refl
as_moved-ahead d Gone = refl
as_moved-ahead d Missed = refl

map-twice : (f : Link → Link) (g : ℕ → Link) (z m : ℕ) → map f (map g (range_with_len z m)) ≡ map (λ i. f (g i)) (range_with_len z m)
map-twice f g z zero = refl
map-twice f g z (suc m) = ap (λ ls. f (g z) ∷ ls) (map-twice f g (z + 1) m)

-- a run of m links from l on, whose far places are now where a run from the link `now` on leads
followed-run : (plan : List Link) (l now : Link) (k m : ℕ) → place_of l ≡ Some k → ((d : ℕ) → d < m → came 0 (k + d) plan ≡ ahead d now) → map (followed plan) (run_links l m) ≡ run_links (moved_as l now) m
followed-run plan (Stays j) now k m e h =
    let q : k ≡ j = cc in
    map-twice (followed plan) Stays j m ∙ made-run (λ i. followed plan (Stays i)) now m j (subst (λ i. (d : ℕ) → d < m → came 0 (i + d) plan ≡ ahead d now) q h)
followed-run plan (Moved j) now k m e h =
    let q : k ≡ j = cc in
    map-twice (followed plan) Moved j m
    ∙ made-run (λ i. followed plan (Moved i)) (as_moved now) m j (λ d p. ap as_moved (subst (λ i. (d : ℕ) → d < m → came 0 (i + d) plan ≡ ahead d now) q h d p) ∙ as_moved-ahead d now)
followed-run plan Gone now k m e h = absurd cc
followed-run plan Missed now k m e h = absurd cc

followed-gone : (plan : List Link) (n : ℕ) → map (followed plan) (replicate n Gone) ≡ replicate n Gone
followed-gone plan zero = refl
followed-gone plan (suc n) = ap (λ ls. Gone ∷ ls) (followed-gone plan n)

followed-missed : (plan : List Link) (n : ℕ) → map (followed plan) (replicate n Missed) ≡ replicate n Missed
followed-missed plan zero = refl
followed-missed plan (suc n) = ap (λ ls. Missed ∷ ls) (followed-missed plan n)

-- a run of links to nowhere stays
pub followed-none : (plan : List Link) (l : Link) (n : ℕ) (r : List Link) → run_links l n ≡ r → place_of l ≡ None → map (followed plan) r ≡ r
followed-none plan (Stays j) n r e h = absurd cc
followed-none plan (Moved j) n r e h = absurd cc
followed-none plan Gone n r e h = subst (λ r. map (followed plan) r ≡ r) e (followed-gone plan n)
followed-none plan Missed n r e h = subst (λ r. map (followed plan) r ≡ r) e (followed-missed plan n)

-- ---- the parts of one run

take-none : {X : Type 0} (m : ℕ) → ◌≡◌ {A = List X} [] (take m [])
take-none zero = refl
take-none (suc m) = refl

take-more : {X : Type 0} (xs : List X) (a m : ℕ) → take (a + m) xs ≡ take a xs ++ take m (drop a xs)
take-more xs zero m = let e : 0 + m ≡ m = omega arith in rw e refl
take-more [] (suc a) m = let e : suc a + m ≡ suc (a + m) = omega arith in rw e (take-none m)
take-more (x ∷ xs) (suc a) m = let e : suc a + m ≡ suc (a + m) = omega arith in rw e (ap (λ ls. x ∷ ls) (take-more xs a m))

place-ahead : (l : Link) (k a : ℕ) → place_of l ≡ Some k → place_of (ahead a l) ≡ Some (k + a)
place-ahead (Stays j) k a e = let q : j ≡ k = cc in ap (λ i. Some (i + a)) q
place-ahead (Moved j) k a e = let q : j ≡ k = cc in ap (λ i. Some (i + a)) q
place-ahead Gone k a e = absurd cc
place-ahead Missed k a e = absurd cc

as-ahead : (l now : Link) (a : ℕ) → moved_as (ahead a l) now ≡ moved_as l now
as-ahead (Stays k) now a = refl
as-ahead (Moved k) now a = refl
as-ahead Gone now a = refl
as-ahead Missed now a = refl

-- m more links of the run r, behind the first a
pub followed-more : (plan : List Link) (l now : Link) (k c a m : ℕ) (r : List Link) → run_links l c ≡ r → place_of l ≡ Some k → a + m ≤ c → ((d : ℕ) → d < m → came 0 (k + a + d) plan ≡ ahead d now)
    → map (followed plan) (take (a + m) r) ≡ map (followed plan) (take a r) ++ run_links (moved_as l now) m
followed-more plan l now k c a m r e h p f =
    subst (λ r. map (followed plan) (take (a + m) r) ≡ map (followed plan) (take a r) ++ run_links (moved_as l now) m) e (
    ap (λ ls. map (followed plan) ls) (take-more (run_links l c) a m)
    ∙ (map-append (followed plan) (take a (run_links l c)) (take m (drop a (run_links l c)))
    ∙ ap (λ ls. map (followed plan) (take a (run_links l c)) ++ ls) (
    ap (λ ls. map (followed plan) ls) (sym (part-run l c a m p))
    ∙ (followed-run plan (ahead a l) now (k + a) m (place-ahead l k a h) f ∙ ap (λ o. run_links o m) (as-ahead l now a))))
    )

pub followed-next : (plan : List Link) (l now : Link) (k c a m : ℕ) (r part old links : List Link) → run_links l c ≡ r → place_of l ≡ Some k → a + m ≤ c → ((d : ℕ) → d < m → came 0 (k + a + d) plan ≡ ahead d now)
    → part ≡ run_links (moved_as l now) m → links ≡ old ++ map (followed plan) (take a r) → links ++ part ≡ old ++ map (followed plan) (take (a + m) r)
followed-next plan l now k c a m r part old links e h p f q g =
    rw (q, g) (append_assoc old (map (followed plan) (take a r)) (run_links (moved_as l now) m) ∙ ap (λ ls. old ++ ls) (sym (followed-more plan l now k c a m r e h p f)))

pub followed-all : (plan old links r : List Link) (a : ℕ) → length r ≤ a → links ≡ old ++ map (followed plan) (take a r) → links ≡ old ++ map (followed plan) r
followed-all plan old links r a p h = h ∙ ap (λ ls. old ++ map (followed plan) ls) (take_all a r p)

-- ---- all runs

pub runs-followed : (plan links more : List Link) (rs : List (List Link)) (i : ℕ) (r : List Link) → i < length rs → r ≡ get_or rs i r → more ≡ links ++ map (followed plan) r
    → links ++ map (followed plan) (all_links (drop i rs)) ≡ map (followed plan) (all_links rs)
    → more ++ map (followed plan) (all_links (drop (i + 1) rs)) ≡ map (followed plan) (all_links rs)
runs-followed plan links more rs i r p e m h =
    ap (λ ls. ls ++ map (followed plan) (all_links (drop (i + 1) rs))) m
    ∙ (append_assoc links (map (followed plan) r) (map (followed plan) (all_links (drop (i + 1) rs)))
    ∙ (ap (λ ls. links ++ ls) (sym (ap (λ ls. map (followed plan) ls) (runs-at rs i r p e) ∙ map-append (followed plan) r (all_links (drop (i + 1) rs)))) ∙ h))

pub all-followed : (plan links : List Link) (rs : List (List Link)) (i : ℕ) → length rs ≤ i → links ++ map (followed plan) (all_links (drop i rs)) ≡ map (followed plan) (all_links rs) → links ≡ map (followed plan) (all_links rs)
all-followed plan links rs i p h = sym (append-nil links) ∙ (ap (λ ls. links ++ map (followed plan) (all_links ls)) (sym (drop_all i rs p)) ∙ h)

pub ruleset list_rules = (runs-followed, all-followed)

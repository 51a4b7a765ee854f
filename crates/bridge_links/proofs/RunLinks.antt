-- Runs of links: their lengths, their parts, and one run after another.
use Rattle.std.proofs.Common.{◌≡◌, ℕ, zero, suc, ◌+◌, ◌-◌, ◌≤◌, ◌<◌, List, [], ◌∷◌, ◌++◌, length, map, take, drop, replicate, Bool, true, false, Some, ◌^◌, subst, refl, sym, ap, ◌∙◌, arith, append-nil}
use Rattle.std.specs.List.{range_with_len}
use Rattle.std.proofs.lemmas.List.{length-replicate}
use Rattle.std.proofs.lemmas.List.FromFn.{length-map-range_with_len}
use Rattle.bridge_links.specs.declared.link.Link.{Link}
use Rattle.bridge_links.specs.declared.link.Link.TheVariants.{Stays, Moved, Gone, Missed}
use Rattle.bridge_links.specs.Links.{run_links, RunFits, place_of, ahead, link_at, put_there, put_as, part_put}

pub length-stays : (k n : ℕ) → length (map Stays (range_with_len k n)) ≡ n
length-stays k n = length-map-range_with_len Stays k n

pub length-moved : (k n : ℕ) → length (map Moved (range_with_len k n)) ≡ n
length-moved k n = length-map-range_with_len Moved k n

pub length-gone : (n : ℕ) → length (replicate n Gone) ≡ n
length-gone n = length-replicate n Gone

pub length-missed : (n : ℕ) → length (replicate n Missed) ≡ n
length-missed n = length-replicate n Missed

pub length-run : (l : Link) (n : ℕ) → length (run_links l n) ≡ n
length-run (Stays k) n = length-stays k n
length-run (Moved k) n = length-moved k n
length-run Gone n = length-gone n
length-run Missed n = length-missed n

pub ruleset run_rules = (length-stays, length-moved, length-gone, length-missed, length-run)

-- ---- a link of a run

get-range : (f : ℕ → Link) (k n i : ℕ) → i < n → f (k + i) ≡ link_at (map f (range_with_len k n)) i
get-range f k zero i h = absurd (omega arith)
get-range f k (suc n) zero h = let e : k + 0 ≡ k = omega arith in rw e refl
get-range f k (suc n) (suc i) h = let e : k + suc i ≡ k + 1 + i = omega arith in rw e (get-range f (k + 1) n i (omega arith))

pub get-stays : (k n i : ℕ) → i < n → Stays (k + i) ≡ link_at (map Stays (range_with_len k n)) i
get-stays k n i h = get-range Stays k n i h

pub get-moved : (k n i : ℕ) → i < n → Moved (k + i) ≡ link_at (map Moved (range_with_len k n)) i
get-moved k n i h = get-range Moved k n i h

get-same : (l : Link) (n i : ℕ) → i < n → l ≡ link_at (replicate n l) i
get-same l zero i h = absurd (omega arith)
get-same l (suc n) zero h = refl
get-same l (suc n) (suc i) h = get-same l n i (omega arith)

pub get-gone : (n i : ℕ) → i < n → Gone ≡ link_at (replicate n Gone) i
get-gone n i h = get-same Gone n i h

pub get-missed : (n i : ℕ) → i < n → Missed ≡ link_at (replicate n Missed) i
get-missed n i h = get-same Missed n i h

pub ruleset get_rules = (get-stays, get-moved, get-gone, get-missed, length-stays, length-moved, length-gone, length-missed)

-- ---- a part of a run

part-range : (f : ℕ → Link) (k n s c : ℕ) → s + c ≤ n → map f (range_with_len (k + s) c) ≡ take c (drop s (map f (range_with_len k n)))
part-range f k n zero zero h = refl
part-range f k zero zero (suc c) h = absurd (omega arith)
part-range f k (suc n) zero (suc c) h =
    let e : k + 0 ≡ k = omega arith in
    let z : k + 1 + 0 ≡ k + 1 = omega arith in
    rw e (ap (λ ls. f k ∷ ls) (ap (λ i. map f (range_with_len i c)) (sym z) ∙ part-range f (k + 1) n zero c (omega arith)))
part-range f k zero (suc s) c h = absurd (omega arith)
part-range f k (suc n) (suc s) c h = let e : k + suc s ≡ k + 1 + s = omega arith in rw e (part-range f (k + 1) n s c (omega arith))

part-same : (l : Link) (n s c : ℕ) → s + c ≤ n → replicate c l ≡ take c (drop s (replicate n l))
part-same l n zero zero h = refl
part-same l zero zero (suc c) h = absurd (omega arith)
part-same l (suc n) zero (suc c) h = ap (λ ls. l ∷ ls) (part-same l n zero c (omega arith))
part-same l zero (suc s) c h = absurd (omega arith)
part-same l (suc n) (suc s) c h = part-same l n s c (omega arith)

pub part-stays : (k n s c : ℕ) → s + c ≤ n → map Stays (range_with_len (k + s) c) ≡ take c (drop s (map Stays (range_with_len k n)))
part-stays k n s c h = part-range Stays k n s c h

pub part-moved : (k n s c : ℕ) → s + c ≤ n → map Moved (range_with_len (k + s) c) ≡ take c (drop s (map Moved (range_with_len k n)))
part-moved k n s c h = part-range Moved k n s c h

pub part-gone : (n s c : ℕ) → s + c ≤ n → replicate c Gone ≡ take c (drop s (replicate n Gone))
part-gone n s c h = part-same Gone n s c h

pub part-missed : (n s c : ℕ) → s + c ≤ n → replicate c Missed ≡ take c (drop s (replicate n Missed))
part-missed n s c h = part-same Missed n s c h

pub part-run : (l : Link) (n s c : ℕ) → s + c ≤ n → run_links (ahead s l) c ≡ take c (drop s (run_links l n))
part-run (Stays k) n s c h = part-stays k n s c h
part-run (Moved k) n s c h = part-moved k n s c h
part-run Gone n s c h = part-gone n s c h
part-run Missed n s c h = part-missed n s c h

pub ruleset part_rules = (part-stays, part-moved, part-gone, part-missed, length-stays, length-moved, length-gone, length-missed, length-run)

-- ---- one run after another

range-joined : (f : ℕ → Link) (k n m : ℕ) → map f (range_with_len k n) ++ map f (range_with_len (k + n) m) ≡ map f (range_with_len k (n + m))
range-joined f k zero m = let e : k + 0 ≡ k = omega arith in let z : 0 + m ≡ m = omega arith in rw (e, z) refl
range-joined f k (suc n) m =
    let e : k + suc n ≡ k + 1 + n = omega arith in let z : suc n + m ≡ suc (n + m) = omega arith in
    rw (e, z) (ap (λ ls. f k ∷ ls) (range-joined f (k + 1) n m))

same-joined : (l : Link) (n m : ℕ) → replicate n l ++ replicate m l ≡ replicate (n + m) l
same-joined l zero m = let z : 0 + m ≡ m = omega arith in rw z refl
same-joined l (suc n) m = let z : suc n + m ≡ suc (n + m) = omega arith in rw z (ap (λ ls. l ∷ ls) (same-joined l n m))

pub stays-on : (k l n m : ℕ) → k ≤ l → l - k ≡ n → map Stays (range_with_len k (n + m)) ≡ map Stays (range_with_len k n) ++ map Stays (range_with_len l m)
stays-on k l n m h e = let z : l ≡ k + n = omega arith in rw z (sym (range-joined Stays k n m))

pub moved-on : (k l n m : ℕ) → k ≤ l → l - k ≡ n → map Moved (range_with_len k (n + m)) ≡ map Moved (range_with_len k n) ++ map Moved (range_with_len l m)
moved-on k l n m h e = let z : l ≡ k + n = omega arith in rw z (sym (range-joined Moved k n m))

pub gone-on : (n m : ℕ) → replicate (n + m) Gone ≡ replicate n Gone ++ replicate m Gone
gone-on n m = sym (same-joined Gone n m)

pub missed-on : (n m : ℕ) → replicate (n + m) Missed ≡ replicate n Missed ++ replicate m Missed
missed-on n m = sym (same-joined Missed n m)

pub ruleset join_rules = (stays-on, moved-on, gone-on, missed-on)

-- ---- put there by an edit of the near shape

put-range : (m : Bool) (f g : ℕ → Link) (k n : ℕ) → ((i : ℕ) → put_as m (f i) ≡ g i) → map g (range_with_len k n) ≡ part_put m (map f (range_with_len k n))
put-range m f g k zero h = refl
put-range m f g k (suc n) h = rw (h k, put-range m f g (k + 1) n h) refl

put-same : (m : Bool) (l p : Link) (n : ℕ) → put_as m l ≡ p → replicate n p ≡ part_put m (replicate n l)
put-same m l p zero h = refl
put-same m l p (suc n) h = rw (h, put-same m l p n h) refl

pub put-run : (m : Bool) (l : Link) (n : ℕ) → run_links (put_as m l) n ≡ part_put m (run_links l n)
put-run false (Stays k) n = put-range false Stays Stays k n (λ i. refl)
put-run false (Moved k) n = put-range false Moved Moved k n (λ i. refl)
put-run false Gone n = put-same false Gone Gone n refl
put-run false Missed n = put-same false Missed Missed n refl
put-run true (Stays k) n = put-range true Stays Stays k n (λ i. refl)
put-run true (Moved k) n = put-range true Moved Stays k n (λ i. refl)
put-run true Gone n = put-same true Gone Missed n refl
put-run true Missed n = put-same true Missed Missed n refl

pub put-part : (m : Bool) (l : Link) (n : ℕ) (part whole : List Link) → run_links l n ≡ part → part ≡ whole → run_links (put_as m l) n ≡ part_put m whole
put-part m l n part whole e h = put-run m l n ∙ ap (λ ls. part_put m ls) (e ∙ h)

pub put-fits : (m : Bool) (l : Link) (n : ℕ) → RunFits l n → RunFits (put_as m l) n
put-fits false l n h = h
put-fits true (Stays k) n h = h
put-fits true (Moved k) n h = h
put-fits true Gone n h = tt
put-fits true Missed n h = tt

pub ruleset put_rules = (put-run, put-part, put-fits)

-- ---- where a run begins

pub fits-place : (l : Link) (k n : ℕ) → RunFits l n → place_of l ≡ Some k → k + n < 2 ^ 64
fits-place (Stays j) k n h e = let q : j ≡ k = cc in subst (λ i. i + n < 2 ^ 64) q h
fits-place (Moved j) k n h e = let q : j ≡ k = cc in subst (λ i. i + n < 2 ^ 64) q h
fits-place Gone k n h e = absurd cc
fits-place Missed k n h e = absurd cc

-- What the places of a plan of the near shape get, run by run.
use Rattle.std.proofs.Common.{◌≡◌, ℕ, zero, suc, ◌+◌, ◌-◌, ◌≤◌, ◌<◌, Bool, true, false, List, [], ◌∷◌, ◌++◌, length, map, take, drop, get_or, replicate, Some, None, refl, sym, ap, ◌∙◌, arith, subst, append-nil, ◌⊎◌, inl, inr}
use Rattle.std.specs.List.{range_with_len}
use Rattle.std.proofs.lemmas.List.{drop_all, append_assoc, map-append}
use Rattle.bridge_links.specs.declared.link.Link.{Link}
use Rattle.bridge_links.specs.declared.link.Link.TheVariants.{Stays, Moved, Gone, Missed}
use Rattle.bridge_links.specs.Links.{run_links, all_links, place_of, is_moved, link_at, put_as, part_at, part_put, near_planned, GetsRun}
use Rattle.bridge_links.proofs.RunLinks.{put-run}
use Rattle.bridge_links.proofs.LinkLists.{runs-at, at-front, at-back}

-- ---- links of places that follow one another

part-split : (ls : List Link) (k c m : ℕ) → part_at ls k (c + m) ≡ part_at ls k c ++ part_at ls (k + c) m
part-split ls k zero m = let e : 0 + m ≡ m = omega arith in let z : k + 0 ≡ k = omega arith in rw (e, z) refl
part-split ls k (suc c) m =
    let e : suc c + m ≡ suc (c + m) = omega arith in
    let z : k + suc c ≡ k + 1 + c = omega arith in
    rw (e, z) (ap (λ ps. link_at ls k ∷ ps) (part-split ls (k + 1) c m))

-- all of them are in the front r
part-front : (r rest : List Link) (s c : ℕ) → s + c ≤ length r → part_at (r ++ rest) s c ≡ take c (drop s r)
part-front r rest s zero p = take-zero (drop s r)
  where
    take-zero : (xs : List Link) → [] ≡ take 0 xs
    take-zero xs = refl
part-front r rest s (suc c) p =
    let q : s < length r = omega arith in
    rw (sym (at-front r rest s q), part-front r rest (s + 1) c (omega arith)) (first-of r s c q)
  where
    first-of : (r : List Link) (s c : ℕ) → s < length r → link_at r s ∷ take c (drop (s + 1) r) ≡ take (suc c) (drop s r)
    first-of [] s c q = absurd (omega arith)
    first-of (x ∷ r) zero c q = refl
    first-of (x ∷ r) (suc s) c q = let e : suc s + 1 ≡ suc (s + 1) = omega arith in rw e (first-of r s c (omega arith))

-- all of them are behind it
part-back : (r rest : List Link) (s c : ℕ) → length r ≤ s → part_at (r ++ rest) s c ≡ part_at rest (s - length r) c
part-back r rest s zero p = refl
part-back r rest s (suc c) p =
    let e : s + 1 - length r ≡ s - length r + 1 = omega arith in
    rw (sym (at-back r rest s p), part-back r rest (s + 1) c (omega arith), e) refl

-- c of n are in the front
part-around : (r rest : List Link) (s c n : ℕ) → s + c ≤ length r → c ≤ n → (c ≡ n) ⊎ (s + c ≡ length r) → part_at (r ++ rest) s n ≡ take c (drop s r) ++ part_at rest 0 (n - c)
part-around r rest s c n p q (inl e) =
    let z : n - c ≡ 0 = omega arith in
    let w : part_at (r ++ rest) s c ≡ take c (drop s r) = part-front r rest s c p in
    rw (z, append-nil (take c (drop s r)), ← e) w
part-around r rest s c n p q (inr e) =
    let z : n ≡ c + (n - c) = omega arith in
    let o : s + c - length r ≡ 0 = omega arith in
    let b : part_at (r ++ rest) (s + c) (n - c) ≡ part_at rest 0 (n - c) = part-back r rest (s + c) (n - c) (omega arith) ∙ ap (λ i. part_at rest i (n - c)) o in
    ap (λ i. part_at (r ++ rest) s i) z ∙ (part-split (r ++ rest) s c (n - c) ∙ (ap (λ ps. ps ++ part_at (r ++ rest) (s + c) (n - c)) (part-front r rest s c p) ∙ ap (λ ps. take c (drop s r) ++ ps) b))

part-none : (s n : ℕ) → part_at [] s n ≡ replicate n Gone
part-none s zero = refl
part-none s (suc n) = ap (λ ls. Gone ∷ ls) (part-none (s + 1) n)

-- ---- over the runs

-- links, and behind them the others of a part, whose first is number s counted from run i
abbrev pub AreLeft : Bool → List Link → List (List Link) → ℕ → ℕ → ℕ → List Link → Type 0
AreLeft m links rs i s n whole = links ++ part_put m (part_at (all_links (drop i rs)) s n) ≡ whole

pub left-behind : (m : Bool) (links whole : List Link) (rs : List (List Link)) (i s n : ℕ) (r : List Link) → i < length rs → r ≡ get_or rs i r → length r ≤ s → AreLeft m links rs i s n whole → AreLeft m links rs (i + 1) (s - length r) n whole
left-behind m links whole rs i s n r p e q h =
    ap (λ ps. links ++ part_put m ps) (sym (ap (λ ls. part_at ls s n) (runs-at rs i r p e) ∙ part-back r (all_links (drop (i + 1) rs)) s n q)) ∙ h

pub left-here : (m : Bool) (links part whole : List Link) (rs : List (List Link)) (i s c n : ℕ) (r : List Link) → i < length rs → r ≡ get_or rs i r → s + c ≤ length r → c ≤ n → (c ≡ n) ⊎ (s + c ≡ length r)
    → part ≡ part_put m (take c (drop s r)) → AreLeft m links rs i s n whole → AreLeft m (links ++ part) rs (i + 1) 0 (n - c) whole
left-here m links part whole rs i s c n r p e q k o g h =
    let others = part_at (all_links (drop (i + 1) rs)) 0 (n - c) in
    ap (λ ps. (links ++ ps) ++ part_put m others) g
    ∙ (append_assoc links (part_put m (take c (drop s r))) (part_put m others)
    ∙ (ap (λ ps. links ++ ps) (sym (map-append (put_as m) (take c (drop s r)) others))
    ∙ (ap (λ ps. links ++ part_put m ps) (sym (ap (λ ls. part_at ls s n) (runs-at rs i r p e) ∙ part-around r (all_links (drop (i + 1) rs)) s c n q k o)) ∙ h)))

-- where a part ends: at its own end, or with the run
pub one-of : (c n s l m : ℕ) → s < l → l ≡ m → (c ≡ n) ⊎ (c ≡ l - s) → (c ≡ n) ⊎ (s + c ≡ m)
one-of c n s l m p e (inl h) = inl h
one-of c n s l m p e (inr h) = inr (omega arith)

pub left-end : (m : Bool) (links part whole : List Link) (rs : List (List Link)) (i s n : ℕ) → length rs ≤ i → part ≡ run_links (put_as m Gone) n → AreLeft m links rs i s n whole → links ++ part ≡ whole
left-end m links part whole rs i s n p g h =
    ap (λ ps. links ++ ps) (g ∙ put-run m Gone n)
    ∙ (ap (λ ps. links ++ part_put m ps) (sym (ap (λ ls. part_at (all_links ls) s n) (drop_all i rs p) ∙ part-none s n)) ∙ h)

-- ---- a run of a plan

near-stays : (f k n : ℕ) (plan ls : List Link) → near_planned f (map Stays (range_with_len k n) ++ plan) ls ≡ part_put false (part_at ls k n) ++ near_planned f plan ls
near-stays f k zero plan ls = refl
near-stays f k (suc n) plan ls = ap (λ ps. link_at ls k ∷ ps) (near-stays f (k + 1) n plan ls)

near-moved : (f k n : ℕ) (plan ls : List Link) → near_planned f (map Moved (range_with_len k n) ++ plan) ls ≡ part_put true (part_at ls k n) ++ near_planned f plan ls
near-moved f k zero plan ls = refl
near-moved f k (suc n) plan ls = ap (λ ps. put_as true (link_at ls k) ∷ ps) (near-moved f (k + 1) n plan ls)

near-gone : (f n : ℕ) (plan ls : List Link) → near_planned f (replicate n Gone ++ plan) ls ≡ map Stays (range_with_len f n) ++ near_planned (f + n) plan ls
near-gone f zero plan ls = let e : f + 0 ≡ f = omega arith in rw e refl
near-gone f (suc n) plan ls = let e : f + 1 + n ≡ f + suc n = omega arith in ap (λ ps. Stays f ∷ ps) (near-gone (f + 1) n plan ls ∙ ap (λ i. map Stays (range_with_len (f + 1) n) ++ near_planned i plan ls) e)

near-missed : (f n : ℕ) (plan ls : List Link) → near_planned f (replicate n Missed ++ plan) ls ≡ map Stays (range_with_len f n) ++ near_planned (f + n) plan ls
near-missed f zero plan ls = let e : f + 0 ≡ f = omega arith in rw e refl
near-missed f (suc n) plan ls = let e : f + 1 + n ≡ f + suc n = omega arith in ap (λ ps. Stays f ∷ ps) (near-missed (f + 1) n plan ls ∙ ap (λ i. map Stays (range_with_len (f + 1) n) ++ near_planned i plan ls) e)

gets-stays : (new old ls r : List Link) (f k n : ℕ) → run_links (Stays k) n ≡ r → new ≡ old ++ part_put false (part_at ls k n) → GetsRun new old f f r ls
gets-stays new old ls r f k n e h plan =
    ap (λ ps. ps ++ near_planned f plan ls) h
    ∙ (append_assoc old (part_put false (part_at ls k n)) (near_planned f plan ls) ∙ ap (λ ps. old ++ ps) (sym (ap (λ r. near_planned f (r ++ plan) ls) (sym e) ∙ near-stays f k n plan ls)))

gets-moved : (new old ls r : List Link) (f k n : ℕ) → run_links (Moved k) n ≡ r → new ≡ old ++ part_put true (part_at ls k n) → GetsRun new old f f r ls
gets-moved new old ls r f k n e h plan =
    ap (λ ps. ps ++ near_planned f plan ls) h
    ∙ (append_assoc old (part_put true (part_at ls k n)) (near_planned f plan ls) ∙ ap (λ ps. old ++ ps) (sym (ap (λ r. near_planned f (r ++ plan) ls) (sym e) ∙ near-moved f k n plan ls)))

gets-gone : (new old ls r : List Link) (f n next : ℕ) → run_links Gone n ≡ r → next ≡ f + n → new ≡ old ++ run_links (Stays f) n → GetsRun new old next f r ls
gets-gone new old ls r f n next e q h plan =
    ap (λ ps. ps ++ near_planned next plan ls) h
    ∙ (append_assoc old (run_links (Stays f) n) (near_planned next plan ls)
    ∙ (ap (λ i. old ++ (run_links (Stays f) n ++ near_planned i plan ls)) q ∙ ap (λ ps. old ++ ps) (sym (ap (λ r. near_planned f (r ++ plan) ls) (sym e) ∙ near-gone f n plan ls))))

gets-missed : (new old ls r : List Link) (f n next : ℕ) → run_links Missed n ≡ r → next ≡ f + n → new ≡ old ++ run_links (Stays f) n → GetsRun new old next f r ls
gets-missed new old ls r f n next e q h plan =
    ap (λ ps. ps ++ near_planned next plan ls) h
    ∙ (append_assoc old (run_links (Stays f) n) (near_planned next plan ls)
    ∙ (ap (λ i. old ++ (run_links (Stays f) n ++ near_planned i plan ls)) q ∙ ap (λ ps. old ++ ps) (sym (ap (λ r. near_planned f (r ++ plan) ls) (sym e) ∙ near-missed f n plan ls))))

pub gets-old : (l : Link) (new old ls r : List Link) (f k n : ℕ) → run_links l n ≡ r → place_of l ≡ Some k → new ≡ old ++ part_put (is_moved l) (part_at ls k n) → GetsRun new old f f r ls
gets-old (Stays j) new old ls r f k n e h g = let q : k ≡ j = cc in gets-stays new old ls r f j n e (g ∙ ap (λ i. old ++ part_put false (part_at ls i n)) q)
gets-old (Moved j) new old ls r f k n e h g = let q : k ≡ j = cc in gets-moved new old ls r f j n e (g ∙ ap (λ i. old ++ part_put true (part_at ls i n)) q)
gets-old Gone new old ls r f k n e h g = absurd cc
gets-old Missed new old ls r f k n e h g = absurd cc

pub gets-fresh : (l : Link) (new old ls r : List Link) (f n next : ℕ) → run_links l n ≡ r → place_of l ≡ None → next ≡ f + n → new ≡ old ++ run_links (Stays f) n → GetsRun new old next f r ls
gets-fresh (Stays j) new old ls r f n next e h q g = absurd cc
gets-fresh (Moved j) new old ls r f n next e h q g = absurd cc
gets-fresh Gone new old ls r f n next e h q g = gets-gone new old ls r f n next e q g
gets-fresh Missed new old ls r f n next e h q g = gets-missed new old ls r f n next e q g

-- ---- all runs of a plan

pub runs-gathered : (new links ls whole : List Link) (rs : List (List Link)) (i next f : ℕ) (r : List Link) → i < length rs → r ≡ get_or rs i r → GetsRun new links next f r ls
    → links ++ near_planned f (all_links (drop i rs)) ls ≡ whole → new ++ near_planned next (all_links (drop (i + 1) rs)) ls ≡ whole
runs-gathered new links ls whole rs i next f r p e g h =
    g (all_links (drop (i + 1) rs)) ∙ (ap (λ ps. links ++ near_planned f ps ls) (sym (runs-at rs i r p e)) ∙ h)

pub all-gathered : (links ls whole : List Link) (rs : List (List Link)) (i f : ℕ) → length rs ≤ i → links ++ near_planned f (all_links (drop i rs)) ls ≡ whole → links ≡ whole
all-gathered links ls whole rs i f p h = sym (append-nil links) ∙ (ap (λ ps. links ++ near_planned f (all_links ps) ls) (sym (drop_all i rs p)) ∙ h)

pub ruleset list_rules = (runs-gathered, all-gathered)

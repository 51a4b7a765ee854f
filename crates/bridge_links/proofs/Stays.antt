-- The first place that has not been moved, and the plan that moves one.
use Rattle.std.proofs.Common.{◌≡◌, ℕ, zero, suc, ◌+◌, ◌-◌, ◌≤◌, ◌<◌, Bool, true, false, List, [], ◌∷◌, ◌++◌, length, map, take, drop, get_or, replicate, Option, Some, None, refl, sym, ap, ◌∙◌, arith, subst, append-nil}
use Rattle.std.specs.Prelude.{nat_eq, if◌then◌else◌}
use Rattle.std.specs.List.{range_with_len, insert, remove}
use Rattle.std.proofs.lemmas.List.{drop_all, append_assoc, take-append-le, drop-append-le}
use Rattle.std.proofs.lemmas.List.FromFn.{take-map-range_with_len}
use Rattle.std.proofs.lemmas.Bool.Decides.{nat_tests}
use Rattle.std.proofs.Math.Seq.{take-append-add, drop-append-add}
use Rattle.bridge_links.specs.declared.link.Link.{Link}
use Rattle.bridge_links.specs.declared.link.Link.TheVariants.{Stays, Moved, Gone, Missed}
use Rattle.bridge_links.specs.Links.{run_links, all_links, first_stay, same_places, mover, moved_place}
use Rattle.bridge_links.proofs.RunLinks.{length-stays, length-run}
use Rattle.bridge_links.proofs.LinkLists.{runs-at}

first-later : (xs ys : List Link) → first_stay xs ≡ None → first_stay (xs ++ ys) ≡ first_stay ys
first-later [] ys h = refl
first-later (Stays k ∷ xs) ys h = absurd cc
first-later (Moved k ∷ xs) ys h = first-later xs ys h
first-later (Gone ∷ xs) ys h = first-later xs ys h
first-later (Missed ∷ xs) ys h = first-later xs ys h

first-here : (xs ys : List Link) (y : ℕ) → first_stay xs ≡ Some y → first_stay (xs ++ ys) ≡ Some y
first-here [] ys y h = absurd cc
first-here (Stays k ∷ xs) ys y h = h
first-here (Moved k ∷ xs) ys y h = first-here xs ys y h
first-here (Gone ∷ xs) ys y h = first-here xs ys y h
first-here (Missed ∷ xs) ys y h = first-here xs ys y h

drop-later : (r rest : List Link) (s : ℕ) → first_stay (drop s r) ≡ None → first_stay (drop s (r ++ rest)) ≡ first_stay (drop (s - length r) rest)
drop-later [] rest s h = let e : s - 0 ≡ s = omega arith in rw e refl
drop-later (x ∷ r) rest zero h = let e : 0 - suc (length r) ≡ 0 = omega arith in rw e (first-later (x ∷ r) rest h)
drop-later (x ∷ r) rest (suc s) h = let e : suc s - suc (length r) ≡ s - length r = omega arith in rw e (drop-later r rest s h)

drop-here : (r rest : List Link) (s y : ℕ) → first_stay (drop s r) ≡ Some y → first_stay (drop s (r ++ rest)) ≡ Some y
drop-here [] rest zero y h = absurd cc
drop-here [] rest (suc s) y h = absurd cc
drop-here (x ∷ r) rest zero y h = first-here (x ∷ r) rest y h
drop-here (x ∷ r) rest (suc s) y h = drop-here r rest s y h

pub stay-next : (rs : List (List Link)) (i s : ℕ) (r : List Link) (whole : Option ℕ) → i < length rs → r ≡ get_or rs i r → None ≡ first_stay (drop s r) → first_stay (drop s (all_links (drop i rs))) ≡ whole
    → first_stay (drop (s - length r) (all_links (drop (i + 1) rs))) ≡ whole
stay-next rs i s r whole p e n h = sym (ap (λ ls. first_stay (drop s ls)) (runs-at rs i r p e) ∙ drop-later r (all_links (drop (i + 1) rs)) s (sym n)) ∙ h

pub stay-found : (rs : List (List Link)) (i s y : ℕ) (r : List Link) (whole : Option ℕ) → i < length rs → r ≡ get_or rs i r → Some y ≡ first_stay (drop s r) → first_stay (drop s (all_links (drop i rs))) ≡ whole → Some y ≡ whole
stay-found rs i s y r whole p e n h = sym (ap (λ ls. first_stay (drop s ls)) (runs-at rs i r p e) ∙ drop-here r (all_links (drop (i + 1) rs)) s y (sym n)) ∙ h

drop-none : (s : ℕ) → first_stay (drop s []) ≡ None
drop-none zero = refl
drop-none (suc s) = refl

pub stay-end : (rs : List (List Link)) (i s : ℕ) (whole : Option ℕ) → length rs ≤ i → first_stay (drop s (all_links (drop i rs))) ≡ whole → None ≡ whole
stay-end rs i s whole p h = sym (ap (λ ls. first_stay (drop s (all_links ls))) (drop_all i rs p) ∙ drop-none s) ∙ h

pub ruleset stay_rules = (stay-next, stay-found, stay-end)

-- ---- one run

drop-range : (f : ℕ → Link) (k n i : ℕ) → i ≤ n → drop i (map f (range_with_len k n)) ≡ map f (range_with_len (k + i) (n - i))
drop-range f k n zero h = let e : k + 0 ≡ k = omega arith in let z : n - 0 ≡ n = omega arith in rw (e, z) refl
drop-range f k zero (suc i) h = absurd (omega arith)
drop-range f k (suc n) (suc i) h =
    let e : k + suc i ≡ k + 1 + i = omega arith in let z : suc n - suc i ≡ n - i = omega arith in
    rw (e, z) (drop-range f (k + 1) n i (omega arith))

first-range : (k n : ℕ) → 0 < n → first_stay (map Stays (range_with_len k n)) ≡ Some k
first-range k zero h = absurd (omega arith)
first-range k (suc n) h = refl

pub run-stays : (k n s : ℕ) → s < n → Some (k + s) ≡ first_stay (drop s (map Stays (range_with_len k n)))
run-stays k n s h = sym (ap (λ ls. first_stay ls) (drop-range Stays k n s (omega arith)) ∙ first-range (k + s) (n - s) (omega arith))

pub run-past : (l : Link) (n s : ℕ) → n ≤ s → None ≡ first_stay (drop s (run_links l n))
run-past l n s h = let w = length-run l n in sym (ap (λ ls. first_stay ls) (drop_all s (run_links l n) (omega arith)))

none-moved : (k n : ℕ) → first_stay (map Moved (range_with_len k n)) ≡ None
none-moved k zero = refl
none-moved k (suc n) = none-moved (k + 1) n

none-gone : (n : ℕ) → first_stay (replicate n Gone) ≡ None
none-gone zero = refl
none-gone (suc n) = none-gone n

none-missed : (n : ℕ) → first_stay (replicate n Missed) ≡ None
none-missed zero = refl
none-missed (suc n) = none-missed n

none-later : (ls : List Link) (s : ℕ) → first_stay ls ≡ None → first_stay (drop s ls) ≡ None
none-later ls zero h = h
none-later [] (suc s) h = refl
none-later (Stays k ∷ ls) (suc s) h = absurd cc
none-later (Moved k ∷ ls) (suc s) h = none-later ls s h
none-later (Gone ∷ ls) (suc s) h = none-later ls s h
none-later (Missed ∷ ls) (suc s) h = none-later ls s h

pub run-none : (l : Link) (n s : ℕ) (r : List Link) → run_links l n ≡ r → ((k : ℕ) → l ≡ Stays k → n ≤ s) → None ≡ first_stay (drop s r)
run-none (Stays k) n s r e h = subst (λ r. None ≡ first_stay (drop s r)) e (run-past (Stays k) n s (h k refl))
run-none (Moved k) n s r e h = subst (λ r. None ≡ first_stay (drop s r)) e (sym (none-later (map Moved (range_with_len k n)) s (none-moved k n)))
run-none Gone n s r e h = subst (λ r. None ≡ first_stay (drop s r)) e (sym (none-later (replicate n Gone) s (none-gone n)))
run-none Missed n s r e h = subst (λ r. None ≡ first_stay (drop s r)) e (sym (none-later (replicate n Missed) s (none-missed n)))

-- ---- the plan that moves one place

abbrev pub run : ℕ → ℕ → List Link
run k n = map Stays (range_with_len k n)

drop-run : (k n i : ℕ) → i ≤ n → drop i (run k n) ≡ run (k + i) (n - i)
drop-run k n i h = drop-range Stays k n i h

take-run : (k n i : ℕ) → i ≤ n → take i (run k n) ≡ run k i
take-run k n i h = take-map-range_with_len Stays k n i h

rest-of : (n i : ℕ) → i < n → remove (same_places n) i ≡ run 0 i ++ run (i + 1) (n - (i + 1))
rest-of n i h =
    let e : suc i ≡ i + 1 = omega arith in
    let z : 0 + (i + 1) ≡ i + 1 = omega arith in
    rw (take-run 0 n i (omega arith), e, drop-run 0 n (i + 1) (omega arith), z) refl

mover-other : (i j : ℕ) → (i ≡ j → ⊥) → mover i j ≡ Moved i
mover-other i j h = of-test (nat_eq i j) refl
  where
    of-test : (b : Bool) → nat_eq i j ≡ b → (if b then Stays i else Moved i) ≡ Moved i
    of-test true e = absurd (h (grind (arith, nat_tests)))
    of-test false e = refl

mover-same : (i j : ℕ) → i ≡ j → mover i j ≡ Stays i
mover-same i j h = of-test (nat_eq i j) refl
  where
    of-test : (b : Bool) → nat_eq i j ≡ b → (if b then Stays i else Moved i) ≡ Stays i
    of-test true e = refl
    of-test false e = absurd (let c : nat_eq i j ≡ true = grind (arith, nat_tests) in let d : true ≡ false = sym c ∙ e in cc)

-- the place j is before the place i
pub moved-back : (n i j : ℕ) → i < n → j < i → run 0 j ++ (Moved i ∷ (run j (i - j) ++ run (i + 1) (n - (i + 1)))) ≡ moved_place n i j
moved-back n i j h p =
    let rest = run (i + 1) (n - (i + 1)) in
    let lj : j ≤ length (run 0 i) = let w = length-stays 0 i in omega arith in
    let zj : 0 + j ≡ j = omega arith in
    let t : take j (run 0 i ++ rest) ≡ run 0 j = take-append-le j (run 0 i) rest lj ∙ take-run 0 i j (omega arith) in
    let d : drop j (run 0 i ++ rest) ≡ run j (i - j) ++ rest = drop-append-le j (run 0 i) rest lj ∙ ap (λ ls. ls ++ rest) (drop-run 0 i j (omega arith) ∙ ap (λ k. run k (i - j)) zj) in
    rw (rest-of n i h, t, d, mover-other i j (λ e. omega arith)) refl

-- the place j is the place i, or behind it
pub moved-on : (n i j : ℕ) → i < n → j < n → i < j → run 0 i ++ (run (i + 1) (j - i) ++ (Moved i ∷ run (j + 1) (n - (j + 1)))) ≡ moved_place n i j
moved-on n i j h p q =
    let rest = run (i + 1) (n - (i + 1)) in
    let s : length (run 0 i) + (j - i) ≡ j = let w = length-stays 0 i in omega arith in
    let a : i + 1 + (j - i) ≡ j + 1 = omega arith in
    let b : n - (i + 1) - (j - i) ≡ n - (j + 1) = omega arith in
    let t : take j (run 0 i ++ rest) ≡ run 0 i ++ run (i + 1) (j - i) =
    subst (λ k. take k (run 0 i ++ rest) ≡ run 0 i ++ run (i + 1) (j - i)) s (take-append-add (run 0 i) rest (j - i) ∙ ap (λ ls. run 0 i ++ ls) (take-run (i + 1) (n - (i + 1)) (j - i) (omega arith))) in
    let d : drop j (run 0 i ++ rest) ≡ run (j + 1) (n - (j + 1)) =
    subst (λ k. drop k (run 0 i ++ rest) ≡ run (j + 1) (n - (j + 1))) s (drop-append-add (run 0 i) rest (j - i) ∙ (drop-run (i + 1) (n - (i + 1)) (j - i) (omega arith) ∙ (ap (λ k. run k (n - (i + 1) - (j - i))) a ∙ ap (λ k. run (j + 1) k) b))) in
    rw (rest-of n i h, t, d, mover-other i j (λ e. omega arith)) (sym (append_assoc (run 0 i) (run (i + 1) (j - i)) (Moved i ∷ run (j + 1) (n - (j + 1)))))

pub moved-same : (n i j : ℕ) → i < n → i ≡ j → same_places n ≡ moved_place n i j
moved-same n i j h e = subst (λ k. same_places n ≡ moved_place n i k) e (by-parts n i h)
  where
    by-parts : (n i : ℕ) → i < n → same_places n ≡ moved_place n i i
    by-parts n i h =
        let rest = run (i + 1) (n - (i + 1)) in
        let s : length (run 0 i) + 0 ≡ i = let w = length-stays 0 i in omega arith in
        let t : take i (run 0 i ++ rest) ≡ run 0 i = subst (λ k. take k (run 0 i ++ rest) ≡ run 0 i) s (take-append-add (run 0 i) rest 0 ∙ append-nil (run 0 i)) in
        let d : drop i (run 0 i ++ rest) ≡ rest = subst (λ k. drop k (run 0 i ++ rest) ≡ rest) s (drop-append-add (run 0 i) rest 0) in
        let z : 0 + i ≡ i = omega arith in
        let n1 : n ≡ i + suc (n - (i + 1)) = omega arith in
        rw (rest-of n i h, t, d, mover-same i i refl) (ap (λ k. run 0 k) n1 ∙ (whole-of 0 i (suc (n - (i + 1))) ∙ ap (λ k. run 0 i ++ run k (suc (n - (i + 1)))) z))
      where
        whole-of : (k a b : ℕ) → run k (a + b) ≡ run k a ++ run (k + a) b
        whole-of k zero b = let e : 0 + b ≡ b = omega arith in let z : k + 0 ≡ k = omega arith in rw (e, z) refl
        whole-of k (suc a) b =
            let e : suc a + b ≡ suc (a + b) = omega arith in
            let z : k + suc a ≡ k + 1 + a = omega arith in
            rw (e, z) (ap (λ ls. Stays k ∷ ls) (whole-of (k + 1) a b))

-- ---- as the code puts them together

pub built-back : (n i j : ℕ) → i < n → j < i → ((run 0 j ++ (Moved i ∷ [])) ++ run j (i - j)) ++ run (i + 1) (n - (i + 1)) ≡ moved_place n i j
built-back n i j h p =
    append_assoc (run 0 j ++ (Moved i ∷ [])) (run j (i - j)) (run (i + 1) (n - (i + 1)))
    ∙ (append_assoc (run 0 j) (Moved i ∷ []) (run j (i - j) ++ run (i + 1) (n - (i + 1))) ∙ moved-back n i j h p)

pub built-on : (n i j : ℕ) → i < n → j < n → i < j → ((run 0 i ++ run (i + 1) (j - i)) ++ (Moved i ∷ [])) ++ run (j + 1) (n - (j + 1)) ≡ moved_place n i j
built-on n i j h p q =
    append_assoc (run 0 i ++ run (i + 1) (j - i)) (Moved i ∷ []) (run (j + 1) (n - (j + 1)))
    ∙ (append_assoc (run 0 i) (run (i + 1) (j - i)) (Moved i ∷ run (j + 1) (n - (j + 1))) ∙ moved-on n i j h p q)

pub ruleset move_rules = (built-back, built-on, moved-same)

pub ruleset run_rules = (run-stays, run-past, run-none, length-run)

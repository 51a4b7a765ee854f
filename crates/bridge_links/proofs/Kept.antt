-- What plans keep of links: those whose places stay.
use Rattle.std.proofs.Common.{◌≡◌, ℕ, zero, suc, ◌+◌, ◌-◌, ◌≤◌, ◌<◌, Bool, true, false, if◌then◌else◌, List, [], ◌∷◌, length, Option, Some, None, refl, sym, ap, ◌∙◌, arith, subst}
use Rattle.std.specs.Prelude.{slice_get, nat_eq, option_map}
use Rattle.std.specs.List.{range_with_len}
use Rattle.std.proofs.lemmas.Option.{slice_get-map, slice_get_within}
use Rattle.std.proofs.lemmas.Bool.Decides.{nat_tests}
use Rattle.bridge_links.specs.declared.link.Link.{Link}
use Rattle.bridge_links.specs.declared.link.Link.TheVariants.{Stays, Moved, Gone, Missed}
use Rattle.bridge_links.specs.Links.{place_of, place_of_some, far_at, link_at, leads_to, placed, came, as_moved, followed, far_planned, put_there, near_planned, fresh_count, same_places}
use Rattle.bridge_links.specs.Spans.{AreApart, AreBelow, AreRelated, Spans}
use Rattle.bridge_links.proofs.Planned.{IsThere, came-is, one-place, far-step, near-step, NearStep, kept, new, moved-place, put-place, fresh-below}

-- ---- an old place that a plan keeps

leads-true : (l : Link) (y : ℕ) → place_of l ≡ Some y → leads_to y l ≡ true
leads-true (Stays k) y h = let e : k ≡ y = cc in grind (arith, nat_tests)
leads-true (Moved k) y h = let e : k ≡ y = cc in grind (arith, nat_tests)
leads-true Gone y h = absurd cc
leads-true Missed y h = absurd cc

placed-some : (n y : ℕ) (l : Link) → place_of l ≡ Some y → place_of (placed n l) ≡ Some n
placed-some n y (Stays k) h = refl
placed-some n y (Moved k) h = refl
placed-some n y Gone h = absurd cc
placed-some n y Missed h = absurd cc

-- the first test that is passed
found-here : (b : Bool) (l m : Link) (z : ℕ) → b ≡ true → place_of l ≡ Some z → place_of (if b then l else m) ≡ Some z
found-here true l m z h e = e
found-here false l m z h e = absurd cc

found-later : (b : Bool) (l m : Link) → ((z : ℕ) × (place_of l ≡ Some z)) → ((z : ℕ) × (place_of m ≡ Some z)) → ((z : ℕ) × (place_of (if b then l else m) ≡ Some z))
found-later true l m h k = h
found-later false l m h k = k

some-place : (n y : ℕ) (l : Link) (m : Link) → ((z : ℕ) × (place_of m ≡ Some z)) → ((z : ℕ) × (place_of (if leads_to y l then placed n l else m) ≡ Some z))
some-place n y (Stays k) m h = found-later (nat_eq k y) (Stays n) m (n, refl) h
some-place n y (Moved k) m h = found-later (nat_eq k y) (Moved n) m (n, refl) h
some-place n y Gone m h = h
some-place n y Missed m h = h

came-somewhere : (n y z : ℕ) (plan : List Link) → far_at plan z ≡ Some y → (w : ℕ) × (place_of (came n y plan) ≡ Some w)
came-somewhere n y z [] h = absurd cc
came-somewhere n y zero (l ∷ plan) h = (n, found-here (leads_to y l) (placed n l) (came (n + 1) y plan) n (leads-true l y h) (placed-some n y l h))
came-somewhere n y (suc z) (l ∷ plan) h = some-place n y l (came (n + 1) y plan) (came-somewhere (n + 1) y z plan h)

came-there : (y z : ℕ) (plan : List Link) → AreApart plan → far_at plan z ≡ Some y → place_of (came 0 y plan) ≡ Some z
came-there y z plan a h =
    let w = came-somewhere 0 y z plan h in
    let b = came-is 0 y w.0 plan w.1 in
    let o : w.0 - 0 ≡ w.0 = omega arith in
    let same : w.0 ≡ z = a w.0 z y (subst (λ i. far_at plan i ≡ Some y) o b.back) h in
    subst (λ i. place_of (came 0 y plan) ≡ Some i) same w.1

followed-there : (plan : List Link) (l : Link) (y z : ℕ) → AreApart plan → far_at plan z ≡ Some y → place_of l ≡ Some y → place_of (followed plan l) ≡ Some z
followed-there plan (Stays k) y z a h e = let q : y ≡ k = cc in subst (λ i. place_of (came 0 i plan) ≡ Some z) q (came-there y z plan a h)
followed-there plan (Moved k) y z a h e = let q : y ≡ k = cc in moved-place (came 0 k plan) ∙ subst (λ i. place_of (came 0 i plan) ≡ Some z) q (came-there y z plan a h)
followed-there plan Gone y z a h e = absurd cc
followed-there plan Missed y z a h e = absurd cc

some-followed : (plan : List Link) (o : Option Link) (y z : ℕ) → AreApart plan → far_at plan z ≡ Some y → place_of_some o ≡ Some y → place_of_some (option_map (followed plan) o) ≡ Some z
some-followed plan None y z a h e = absurd cc
some-followed plan (Some l) y z a h e = followed-there plan l y z a h e

-- a link leads to where its place is now
pub far-kept : (plan ls : List Link) (x y z : ℕ) → AreApart plan → far_at ls x ≡ Some y → far_at plan z ≡ Some y → far_at (far_planned plan ls) x ≡ Some z
far-kept plan ls x y z a e h = ap (λ o. place_of_some o) (slice_get-map (followed plan) ls x) ∙ some-followed plan (slice_get ls x) y z a h e

linked-to : (ls : List Link) (k y : ℕ) → far_at ls k ≡ Some y → place_of (link_at ls k) ≡ Some y
linked-to [] k y h = absurd cc
linked-to (l ∷ ls) zero y h = h
linked-to (l ∷ ls) (suc k) y h = linked-to ls k y h

-- a place has the link of its old place
pub near-kept : (n : ℕ) (plan ls : List Link) (x k y : ℕ) → far_at plan x ≡ Some k → far_at ls k ≡ Some y → far_at (near_planned n plan ls) x ≡ Some y
near-kept n [] ls x k y e h = absurd cc
near-kept n (Stays j ∷ plan) ls zero k y e h = let q : k ≡ j = cc in subst (λ i. place_of (link_at ls i) ≡ Some y) q (linked-to ls k y h)
near-kept n (Moved j ∷ plan) ls zero k y e h = let q : k ≡ j = cc in put-place (link_at ls j) ∙ subst (λ i. place_of (link_at ls i) ≡ Some y) q (linked-to ls k y h)
near-kept n (Gone ∷ plan) ls zero k y e h = absurd cc
near-kept n (Missed ∷ plan) ls zero k y e h = absurd cc
near-kept n (Stays j ∷ plan) ls (suc x) k y e h = near-kept n plan ls x k y e h
near-kept n (Moved j ∷ plan) ls (suc x) k y e h = near-kept n plan ls x k y e h
near-kept n (Gone ∷ plan) ls (suc x) k y e h = near-kept (n + 1) plan ls x k y e h
near-kept n (Missed ∷ plan) ls (suc x) k y e h = near-kept (n + 1) plan ls x k y e h

-- ---- links stay below the size

within-size : (plan : List Link) (z y : ℕ) → far_at plan z ≡ Some y → z < length plan
within-size [] z y h = absurd cc
within-size (l ∷ plan) zero y h = omega arith
within-size (l ∷ plan) (suc z) y h = let w = within-size plan z y h in omega arith

pub far-below : (plan ls : List Link) → AreBelow (length plan) (far_planned plan ls)
far-below plan ls x z h = let w = far-step plan ls x z h in within-size plan z w.old w.back

near-below-step : (n m : ℕ) (plan ls : List Link) (x y : ℕ) → AreBelow m ls → n + fresh_count plan ≤ m → NearStep n plan ls x y → y < m
near-below-step n m plan ls x y h p (kept k a b) = h k y b
near-below-step n m plan ls x y h p (new c q e) = let w = fresh-below plan x c q in omega arith

pub near-below : (n m : ℕ) (plan ls : List Link) → AreBelow m ls → n + fresh_count plan ≤ m → AreBelow m (near_planned n plan ls)
near-below n m plan ls h p x y e = near-below-step n m plan ls x y h p (near-step n plan ls x y e)

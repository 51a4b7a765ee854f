-- Links after plans of the far shape and of the near one.
use Rattle.std.proofs.Common.{◌≡◌, ℕ, zero, suc, ◌+◌, ◌-◌, ◌≤◌, ◌<◌, Bool, true, false, if◌then◌else◌, List, [], ◌∷◌, ◌++◌, length, map, take, get_or, Option, Some, None, refl, sym, ap, ◌∙◌, arith, subst, ◌⊎◌, inl, inr}
use Rattle.std.specs.Prelude.{IsTrue, slice_get, slice_index_or, nat_eq, option_map}
use Rattle.std.proofs.lemmas.Option.{slice_get-map, slice_get_within, slice_get-get_or, get_or_from_slice_get}
use Rattle.std.proofs.lemmas.Bool.{cases_lt}
use Rattle.std.proofs.lemmas.List.{length-map, take_all}
use Rattle.std.proofs.lemmas.Bool.Decides.{nat_tests}
use Rattle.bridge_links.specs.declared.link.Link.{Link}
use Rattle.bridge_links.specs.declared.link.Link.TheVariants.{Stays, Moved, Gone, Missed}
use Rattle.bridge_links.specs.Links.{place_of, place_of_some, far_at, link_at, leads_to, placed, came, as_moved, followed, far_planned, put_there, near_planned, fresh_count, content_of, gathered}
use Rattle.bridge_links.specs.Spans.{AreApart, AreRelated, Spans, SpansBy, AreFree, AreFresh}

-- ---- where an old place is after a plan

-- the place that a plan has for y, counted from n, leads back to y
pub record IsThere (n y z : ℕ) (plan : List Link) : Type 0 where
  pub back : far_at plan (z - n) ≡ Some y
  pub behind : n ≤ z

leads-back : (b : Bool) (y : ℕ) (l : Link) → leads_to y l ≡ b → b ≡ true → place_of l ≡ Some y
leads-back true y (Stays k) h t = let e : k ≡ y = grind (arith, nat_tests) in ap Some e
leads-back true y (Moved k) h t = let e : k ≡ y = grind (arith, nat_tests) in ap Some e
leads-back true y Gone h t = absurd cc
leads-back true y Missed h t = absurd cc
leads-back false y l h t = absurd cc

placed-at : (n z : ℕ) (l : Link) → place_of (placed n l) ≡ Some z → z ≡ n
placed-at n z (Stays k) h = cc
placed-at n z (Moved k) h = cc
placed-at n z Gone h = absurd cc
placed-at n z Missed h = absurd cc

next-there : (n y z : ℕ) (l : Link) (plan : List Link) → IsThere (n + 1) y z plan → IsThere n y z (l ∷ plan)
next-there n y z l plan h =
    let a = h.behind in
    let e : z - n ≡ suc (z - (n + 1)) = omega arith in
    record { back = rw e h.back; behind = omega arith }

came-by-test : (n y z : ℕ) (l : Link) (plan : List Link) (b : Bool) → leads_to y l ≡ b → (place_of (came (n + 1) y plan) ≡ Some z → IsThere (n + 1) y z plan)
    → place_of (if b then placed n l else came (n + 1) y plan) ≡ Some z → IsThere n y z (l ∷ plan)
came-by-test n y z l plan true e deeper g =
    let k : z ≡ n = placed-at n z l g in
    let o : z - n ≡ 0 = omega arith in
    record { back = rw o (leads-back true y l e refl); behind = omega arith }
came-by-test n y z l plan false e deeper g = next-there n y z l plan (deeper g)

pub came-is : (n y z : ℕ) (plan : List Link) → place_of (came n y plan) ≡ Some z → IsThere n y z plan
came-is n y z [] h = absurd cc
came-is n y z (l ∷ plan) h = came-by-test n y z l plan (leads_to y l) refl (λ g. came-is (n + 1) y z plan g) h

-- a link after a plan of the far shape
pub moved-place : (l : Link) → place_of (as_moved l) ≡ place_of l
moved-place (Stays y) = refl
moved-place (Moved y) = refl
moved-place Gone = refl
moved-place Missed = refl

-- it led to the old place of where it leads
record WasFollowed (plan : List Link) (l : Link) (z : ℕ) : Type 0 where
  old : ℕ
  was : place_of l ≡ Some old
  back : far_at plan z ≡ Some old

was-there : (plan : List Link) (y z : ℕ) (l : Link) → place_of l ≡ Some y → place_of (came 0 y plan) ≡ Some z → WasFollowed plan l z
was-there plan y z l e h =
    let w = came-is 0 y z plan h in
    let o : z - 0 ≡ z = omega arith in
    record { old = y; was = e; back = subst (λ k. far_at plan k ≡ Some y) o w.back }

followed-was : (plan : List Link) (l : Link) (z : ℕ) → place_of (followed plan l) ≡ Some z → WasFollowed plan l z
followed-was plan (Stays y) z h = was-there plan y z (Stays y) refl h
followed-was plan (Moved y) z h = was-there plan y z (Moved y) refl (sym (moved-place (came 0 y plan)) ∙ h)
followed-was plan Gone z h = absurd cc
followed-was plan Missed z h = absurd cc

-- ---- theorem: a plan of the far shape

pub record FarStep (plan ls : List Link) (x z : ℕ) : Type 0 where
  pub old : ℕ
  pub was : far_at ls x ≡ Some old
  pub back : far_at plan z ≡ Some old

far-step-of : (plan ls : List Link) (x z : ℕ) (o : Option Link) → slice_get ls x ≡ o → place_of_some (option_map (followed plan) o) ≡ Some z → FarStep plan ls x z
far-step-of plan ls x z None e h = absurd cc
far-step-of plan ls x z (Some l) e h =
    let w = followed-was plan l z h in
    record { old = w.old; was = ap (λ o. place_of_some o) e ∙ w.was; back = w.back }

pub far-step : (plan ls : List Link) (x z : ℕ) → far_at (far_planned plan ls) x ≡ Some z → FarStep plan ls x z
far-step plan ls x z h =
    let e : far_at (far_planned plan ls) x ≡ place_of_some (option_map (followed plan) (slice_get ls x)) = ap (λ o. place_of_some o) (slice_get-map (followed plan) ls x) in
    far-step-of plan ls x z (slice_get ls x) refl (sym e ∙ h)

pub one-place : (plan : List Link) (z a b : ℕ) → far_at plan z ≡ Some a → far_at plan z ≡ Some b → a ≡ b
one-place plan z a b h k = let e : Some a ≡ Some b = sym h ∙ k in cc

pub far-apart : (plan ls : List Link) → AreApart ls → AreApart (far_planned plan ls)
far-apart plan ls h x z y e k =
    let a = far-step plan ls x y e in
    let b = far-step plan ls z y k in
    let same : a.old ≡ b.old = one-place plan y a.old b.old a.back b.back in
    h x z a.old a.was (subst (λ o. far_at ls z ≡ Some o) (sym same) b.was)

-- what a plan gathers
got-of : {A : Type 0} (plan : List Link) (fresh : A) (t : List A) (z y : ℕ) (b : A) (o : Option Link) → slice_get plan z ≡ o → place_of_some o ≡ Some y → slice_get t y ≡ Some b
    → option_map (content_of t fresh) o ≡ Some b
got-of plan fresh t z y b None e h g = absurd cc
got-of plan fresh t z y b (Some (Stays k)) e h g = let q : k ≡ y = cc in ap Some (ap (λ i. slice_index_or t i fresh) q ∙ get_or_from_slice_get t y b fresh g)
got-of plan fresh t z y b (Some (Moved k)) e h g = let q : k ≡ y = cc in ap Some (ap (λ i. slice_index_or t i fresh) q ∙ get_or_from_slice_get t y b fresh g)
got-of plan fresh t z y b (Some Gone) e h g = absurd cc
got-of plan fresh t z y b (Some Missed) e h g = absurd cc

pub gathered-old : {A : Type 0} (plan : List Link) (fresh : A) (t : List A) (z y : ℕ) (b : A) → far_at plan z ≡ Some y → slice_get t y ≡ Some b → slice_get (gathered plan fresh t) z ≡ Some b
gathered-old plan fresh t z y b h g = slice_get-map (content_of t fresh) plan z ∙ got-of plan fresh t z y b (slice_get plan z) refl h g

-- a content that is related to another is there
still-related : {A B : Type 0} (r : A → B → Type 0) (a : Option A) (o p : Option B) → ((b : B) → o ≡ Some b → p ≡ Some b) → AreRelated r a o → AreRelated r a p
still-related r None o p h k = absurd k
still-related r (Some a) None p h k = absurd k
still-related r (Some a) (Some b) p h k = subst (λ q. AreRelated r (Some a) q) (sym (h b refl)) k

still-related-near : {A B : Type 0} (r : A → B → Type 0) (a c : Option A) (o : Option B) → ((b : A) → a ≡ Some b → c ≡ Some b) → AreRelated r a o → AreRelated r c o
still-related-near r None c o h k = absurd k
still-related-near r (Some a) c o h k = subst (λ q. AreRelated r q o) (sym (h a refl)) k

pub far-spans : {A B : Type 0} (r : A → B → Type 0) (plan ls : List Link) (fresh : B) (s : List A) (t : List B) → Spans r ls s t → Spans r (far_planned plan ls) s (gathered plan fresh t)
far-spans r plan ls fresh s t h =
    record {
      as_many = length-map ls (followed plan) ∙ h.as_many;
      apart = far-apart plan ls h.apart;
      related = λ x z e.
          let w = far-step plan ls x z e in
          still-related r (slice_get s x) (slice_get t w.old) (slice_get (gathered plan fresh t) z) (λ b g. gathered-old plan fresh t z w.old b w.back g) (h.related x w.old w.was);
    }

-- ---- theorem: a plan of the near shape

-- where a place of the new near shape leads: where its old place did, or to a fresh place
pub data NearStep (n : ℕ) (plan ls : List Link) (x y : ℕ) : Type 0 where
  kept : (k : ℕ) → far_at plan x ≡ Some k → far_at ls k ≡ Some y → NearStep n plan ls x y
  new : far_at plan x ≡ None → x < length plan → y ≡ n + fresh_count (take x plan) → NearStep n plan ls x y

pub put-place : (l : Link) → place_of (put_there l) ≡ place_of l
put-place (Stays y) = refl
put-place (Moved y) = refl
put-place Gone = refl
put-place Missed = refl

linked-at : (ls : List Link) (k y : ℕ) → place_of (link_at ls k) ≡ Some y → far_at ls k ≡ Some y
linked-at [] k y h = absurd cc
linked-at (l ∷ ls) zero y h = h
linked-at (l ∷ ls) (suc k) y h = linked-at ls k y h

next-near : (n m : ℕ) (l : Link) (plan ls : List Link) (x y : ℕ) → m + fresh_count (take x plan) ≡ n + fresh_count (l ∷ take x plan)
    → NearStep m plan ls x y → NearStep n (l ∷ plan) ls (suc x) y
next-near n m l plan ls x y e (kept k h g) = kept k h g
next-near n m l plan ls x y e (new h p g) = new h (omega arith) (g ∙ e)

pub near-step : (n : ℕ) (plan ls : List Link) (x y : ℕ) → far_at (near_planned n plan ls) x ≡ Some y → NearStep n plan ls x y
near-step n [] ls x y h = absurd cc
near-step n (Stays k ∷ plan) ls zero y h = kept k refl (linked-at ls k y h)
near-step n (Moved k ∷ plan) ls zero y h = kept k refl (linked-at ls k y (sym (put-place (link_at ls k)) ∙ h))
near-step n (Gone ∷ plan) ls zero y h = new refl (omega arith) (let e : n ≡ y = cc in omega arith)
near-step n (Missed ∷ plan) ls zero y h = new refl (omega arith) (let e : n ≡ y = cc in omega arith)
near-step n (Stays k ∷ plan) ls (suc x) y h = next-near n n (Stays k) plan ls x y refl (near-step n plan ls x y h)
near-step n (Moved k ∷ plan) ls (suc x) y h = next-near n n (Moved k) plan ls x y refl (near-step n plan ls x y h)
near-step n (Gone ∷ plan) ls (suc x) y h = next-near n (n + 1) Gone plan ls x y (omega arith) (near-step (n + 1) plan ls x y h)
near-step n (Missed ∷ plan) ls (suc x) y h = next-near n (n + 1) Missed plan ls x y (omega arith) (near-step (n + 1) plan ls x y h)

fresh-rises : (plan : List Link) (x z : ℕ) → far_at plan x ≡ None → x < length plan → x < z → fresh_count (take x plan) < fresh_count (take z plan)
fresh-rises [] x z h p q = absurd (omega arith)
fresh-rises (l ∷ plan) x zero h p q = absurd (omega arith)
fresh-rises (Stays k ∷ plan) zero (suc z) h p q = absurd cc
fresh-rises (Moved k ∷ plan) zero (suc z) h p q = absurd cc
fresh-rises (Gone ∷ plan) zero (suc z) h p q = omega arith
fresh-rises (Missed ∷ plan) zero (suc z) h p q = omega arith
fresh-rises (Stays k ∷ plan) (suc x) (suc z) h p q = fresh-rises plan x z h (omega arith) (omega arith)
fresh-rises (Moved k ∷ plan) (suc x) (suc z) h p q = fresh-rises plan x z h (omega arith) (omega arith)
fresh-rises (Gone ∷ plan) (suc x) (suc z) h p q = let w = fresh-rises plan x z h (omega arith) (omega arith) in omega arith
fresh-rises (Missed ∷ plan) (suc x) (suc z) h p q = let w = fresh-rises plan x z h (omega arith) (omega arith) in omega arith

pub fresh-below : (plan : List Link) (x : ℕ) → far_at plan x ≡ None → x < length plan → fresh_count (take x plan) < fresh_count plan
fresh-below plan x h p =
    let w = fresh-rises plan x (length plan) h p p in
    subst (λ l. fresh_count (take x plan) < fresh_count l) (take_all (length plan) plan (omega arith)) w

fresh-apart : (plan : List Link) (x z : ℕ) → far_at plan x ≡ None → x < length plan → far_at plan z ≡ None → z < length plan → fresh_count (take x plan) ≡ fresh_count (take z plan) → x ≡ z
fresh-apart plan x z h p k q e = by-order (cases_lt x z)
  where
    below : x < z → ⊥
    below o = let w = fresh-rises plan x z h p o in omega arith

    above : z < x → ⊥
    above o = let w = fresh-rises plan z x k q o in omega arith

    other : x ≤ z → (z ≤ x) → x ≡ z
    other a b = omega arith

    by-order : (x < z) ⊎ (z ≤ x) → x ≡ z
    by-order (inl o) = absurd (below o)
    by-order (inr o) = by-back (cases_lt z x) o
      where
        by-back : (z < x) ⊎ (x ≤ z) → z ≤ x → x ≡ z
        by-back (inl w) o = absurd (above w)
        by-back (inr w) o = other w o

apart-steps : (n : ℕ) (plan ls : List Link) (x z y : ℕ) → AreApart plan → AreApart ls → AreFree n (fresh_count plan) ls → NearStep n plan ls x y → NearStep n plan ls z y → x ≡ z
apart-steps n plan ls x z y p h f (kept k a b) (kept j c d) = let same : k ≡ j = h k j y b d in p x z k a (subst (λ o. far_at plan z ≡ Some o) (sym same) c)
apart-steps n plan ls x z y p h f (kept k a b) (new c q e) = absurd (f k y (fresh_count (take z plan)) b (fresh-below plan z c q) e)
apart-steps n plan ls x z y p h f (new c q e) (kept k a b) = absurd (f k y (fresh_count (take x plan)) b (fresh-below plan x c q) e)
apart-steps n plan ls x z y p h f (new c q e) (new d o g) = fresh-apart plan x z c q d o (omega arith)

pub near-apart : (n : ℕ) (plan ls : List Link) → AreApart plan → AreApart ls → AreFree n (fresh_count plan) ls → AreApart (near_planned n plan ls)
near-apart n plan ls p h f x z y e k = apart-steps n plan ls x z y p h f (near-step n plan ls x y e) (near-step n plan ls z y k)

pub near-length : (n : ℕ) (plan ls : List Link) → length (near_planned n plan ls) ≡ length plan
near-length n [] ls = refl
near-length n (Stays k ∷ plan) ls = ap suc (near-length n plan ls)
near-length n (Moved k ∷ plan) ls = ap suc (near-length n plan ls)
near-length n (Gone ∷ plan) ls = ap suc (near-length (n + 1) plan ls)
near-length n (Missed ∷ plan) ls = ap suc (near-length (n + 1) plan ls)

new-of : {A : Type 0} (plan : List Link) (fresh : A) (s : List A) (x : ℕ) (o : Option Link) → slice_get plan x ≡ o → place_of_some o ≡ None → x < length plan → option_map (content_of s fresh) o ≡ Some fresh
new-of plan fresh s x None e h p = absurd (let w = slice_get-get_or plan x Gone p in let q : None ≡ Some (get_or plan x Gone) = sym e ∙ w in cc)
new-of plan fresh s x (Some (Stays k)) e h p = absurd cc
new-of plan fresh s x (Some (Moved k)) e h p = absurd cc
new-of plan fresh s x (Some Gone) e h p = refl
new-of plan fresh s x (Some Missed) e h p = refl

pub gathered-new : {A : Type 0} (plan : List Link) (fresh : A) (s : List A) (x : ℕ) → far_at plan x ≡ None → x < length plan → slice_get (gathered plan fresh s) x ≡ Some fresh
gathered-new plan fresh s x h p = slice_get-map (content_of s fresh) plan x ∙ new-of plan fresh s x (slice_get plan x) refl h p

near-related : {A B : Type 0} (r : A → B → Type 0) (n : ℕ) (plan ls : List Link) (a : A) (b : B) (s : List A) (t : List B) (x y : ℕ) → Spans r ls s t → r a b
    → ((d : ℕ) → d < fresh_count plan → slice_get t (n + d) ≡ Some b) → NearStep n plan ls x y → AreRelated r (slice_get (gathered plan a s) x) (slice_get t y)
near-related r n plan ls a b s t x y h ab new-are (kept k p q) =
    still-related-near r (slice_get s k) (slice_get (gathered plan a s) x) (slice_get t y) (λ c g. gathered-old plan a s x k c p g) (h.related k y q)
near-related r n plan ls a b s t x y h ab new-are (new p q e) =
    let far : slice_get t y ≡ Some b = rw e (new-are (fresh_count (take x plan)) (fresh-below plan x p q)) in
    let near : slice_get (gathered plan a s) x ≡ Some a = gathered-new plan a s x p q in
    rw (near, far) ab

pub near-spans : {A B : Type 0} (r : A → B → Type 0) (n : ℕ) (plan ls : List Link) (a : A) (b : B) (s : List A) (t : List B) → Spans r ls s t → AreApart plan → r a b
    → ((d : ℕ) → d < fresh_count plan → slice_get t (n + d) ≡ Some b) → AreFree n (fresh_count plan) ls → Spans r (near_planned n plan ls) (gathered plan a s) t
near-spans r n plan ls a b s t h p ab new-are free =
    record {
      as_many = near-length n plan ls ∙ sym (length-map plan (content_of s a));
      apart = near-apart n plan ls p h.apart free;
      related = λ x y e. near-related r n plan ls a b s t x y h ab new-are (near-step n plan ls x y e);
    }

-- ---- theorem: planned twice

fresh-are-free : (n : ℕ) (near far ls : List Link) → AreFresh n near far → AreFree n (fresh_count near) (far_planned far ls)
fresh-are-free n near far ls f x y d e p q =
    let w = far-step far ls x y e in
    let g : far_at far y ≡ None = rw q (ap (λ o. place_of_some o) (f d p)) in
    let c : None ≡ Some w.old = sym g ∙ w.back in
    cc

fresh-contents : {B : Type 0} (n : ℕ) (near far : List Link) (b : B) (t : List B) → AreFresh n near far → (d : ℕ) → d < fresh_count near → slice_get (gathered far b t) (n + d) ≡ Some b
fresh-contents n near far b t f d p =
    let g = f d p in
    gathered-new far b t (n + d) (ap (λ o. place_of_some o) g) (slice_get_within far (n + d) Gone g)

pub planned-twice : {A B : Type 0} (r : A → B → Type 0) (n : ℕ) (near far ls : List Link) (a : A) (b : B) (s : List A) (t : List B) → Spans r ls s t → AreApart near → AreFresh n near far → r a b
    → Spans r (near_planned n near (far_planned far ls)) (gathered near a s) (gathered far b t)
planned-twice r n near far ls a b s t h p f ab =
    near-spans r n near (far_planned far ls) a b s (gathered far b t) (far-spans r far ls b s t h) p ab (fresh-contents n near far b t f) (fresh-are-free n near far ls f)

pub by-test-far : (r : ℕ → ℕ → Bool) (plan ls : List Link) (b : ℕ) (s t : List ℕ) → SpansBy r ls s t → SpansBy r (far_planned plan ls) s (gathered plan b t)
by-test-far r plan ls b s t h = far-spans (λ a b. IsTrue (r a b)) plan ls b s t h

pub by-test-twice : (r : ℕ → ℕ → Bool) (n : ℕ) (near far ls : List Link) (a b : ℕ) (s t : List ℕ) → SpansBy r ls s t → AreApart near → AreFresh n near far → IsTrue (r a b)
    → SpansBy r (near_planned n near (far_planned far ls)) (gathered near a s) (gathered far b t)
by-test-twice r n near far ls a b s t h p f ab = planned-twice (λ a b. IsTrue (r a b)) n near far ls a b s t h p f ab

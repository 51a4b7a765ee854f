-- Runs in their shortest form say the same.
use Rattle.std.proofs.Common.{◌≡◌, ℕ, ◌+◌, Bool, true, false, List, [], ◌∷◌, ◌++◌, length, refl, sym, ap, ◌∙◌, subst, arith}
use Rattle.std.specs.Prelude.{nat_eq, if◌then◌else◌}
use Rattle.std.proofs.lemmas.Bool.Decides.{nat_tests}
use Rattle.std.proofs.lemmas.List.{length-append, append_assoc, append-nil}
use Rattle.bridge_texts.specs.declared.run.Run.{Run}
use Rattle.bridge_texts.specs.declared.run.Run.TheVariants.{Kept, Added, Gone}
use Rattle.bridge_texts.specs.Runs.{is_empty_run, joined_run, and_run, add_run, add_runs, without_kept_end, shortest}
use Rattle.bridge_texts.specs.Spans.{Spans}

-- a part of no characters
none-of : (x : List ℕ) → length x ≡ 0 → x ≡ []
none-of [] h = refl
none-of (c ∷ cs) h = absurd (omega arith)

behind-none : (s x u : List ℕ) (n : ℕ) → nat_eq n 0 ≡ true → length x ≡ n → s ≡ x ++ u → s ≡ u
behind-none s x u n z size is =
    let no : x ≡ [] = none-of x (grind (arith, nat_tests)) in
    is ∙ ap (λ (l : List ℕ). l ++ u) no

-- an empty run says nothing
without-empty : (r : Run) (rs : List Run) (s t : List ℕ) → is_empty_run r ≡ true → Spans (r ∷ rs) s t → Spans rs s t
without-empty (Kept n) rs s t z h =
    subst (λ (l : List ℕ). Spans rs l t) (sym (behind-none s h.part h.near n z h.size h.near_is))
    (subst (λ (l : List ℕ). Spans rs h.near l) (sym (behind-none t h.part h.far n z h.size h.far_is)) h.goes_on)
without-empty (Added n) rs s t z h = subst (λ (l : List ℕ). Spans rs s l) (sym (behind-none t h.part h.far n z h.size h.far_is)) h.goes_on
without-empty (Gone n) rs s t z h = subst (λ (l : List ℕ). Spans rs l t) (sym (behind-none s h.part h.near n z h.size h.near_is)) h.goes_on

-- two parts, one behind the other
both-parts : (s x y u v : List ℕ) → s ≡ x ++ u → u ≡ y ++ v → s ≡ (x ++ y) ++ v
both-parts s x y u v p q = p ∙ (ap (λ (l : List ℕ). x ++ l) q ∙ sym (append_assoc x y v))

both-sizes : (x y : List ℕ) (n m : ℕ) → length x ≡ n → length y ≡ m → length (x ++ y) ≡ n + m
both-sizes x y n m p q = let l = length-append x y in omega arith

-- two neighbours of one sort as one run
joined-spans : (q r : Run) (rs : List Run) (s t : List ℕ) → Spans (q ∷ r ∷ rs) s t → Spans (joined_run q r ++ rs) s t
joined-spans (Kept n) (Kept m) rs s t h =
    let g = h.goes_on in
    record {
      part = h.part ++ g.part;
      near = g.near;
      far = g.far;
      size = both-sizes h.part g.part n m h.size g.size;
      near_is = both-parts s h.part g.part h.near g.near h.near_is g.near_is;
      far_is = both-parts t h.part g.part h.far g.far h.far_is g.far_is;
      goes_on = g.goes_on;
    }
joined-spans (Added n) (Added m) rs s t h =
    let g = h.goes_on in
    record { part = h.part ++ g.part; far = g.far; size = both-sizes h.part g.part n m h.size g.size; far_is = both-parts t h.part g.part h.far g.far h.far_is g.far_is; goes_on = g.goes_on }
joined-spans (Gone n) (Gone m) rs s t h =
    let g = h.goes_on in
    record { part = h.part ++ g.part; near = g.near; size = both-sizes h.part g.part n m h.size g.size; near_is = both-parts s h.part g.part h.near g.near h.near_is g.near_is; goes_on = g.goes_on }
joined-spans (Kept n) (Added m) rs s t h = h
joined-spans (Kept n) (Gone m) rs s t h = h
joined-spans (Added n) (Kept m) rs s t h = h
joined-spans (Added n) (Gone m) rs s t h = h
joined-spans (Gone n) (Kept m) rs s t h = h
joined-spans (Gone n) (Added m) rs s t h = h

-- what follows a first run may be said otherwise
behind-run : (r : Run) (us bs : List Run) (s t : List ℕ) → ((u v : List ℕ) → Spans us u v → Spans bs u v) → Spans (r ∷ us) s t → Spans (r ∷ bs) s t
behind-run (Kept n) us bs s t go h = record { part = h.part; near = h.near; far = h.far; size = h.size; near_is = h.near_is; far_is = h.far_is; goes_on = go h.near h.far h.goes_on }
behind-run (Added n) us bs s t go h = record { part = h.part; far = h.far; size = h.size; far_is = h.far_is; goes_on = go s h.far h.goes_on }
behind-run (Gone n) us bs s t go h = record { part = h.part; near = h.near; size = h.size; near_is = h.near_is; goes_on = go h.near t h.goes_on }

and-spans : (qs : List Run) (r : Run) (rs : List Run) (s t : List ℕ) → Spans (qs ++ (r ∷ rs)) s t → Spans (and_run qs r ++ rs) s t
and-spans [] r rs s t h = h
and-spans (q ∷ []) r rs s t h = joined-spans q r rs s t h
and-spans (q ∷ p ∷ qs) r rs s t h = behind-run q ((p ∷ qs) ++ (r ∷ rs)) (and_run (p ∷ qs) r ++ rs) s t (λ u v k. and-spans (p ∷ qs) r rs u v k) h

-- runs in front of others that say the same
in-front : (qs us bs : List Run) (s t : List ℕ) → ((u v : List ℕ) → Spans us u v → Spans bs u v) → Spans (qs ++ us) s t → Spans (qs ++ bs) s t
in-front [] us bs s t go h = go s t h
in-front (q ∷ qs) us bs s t go h = behind-run q (qs ++ us) (qs ++ bs) s t (λ u v k. in-front qs us bs u v go k) h

add-spans : (qs : List Run) (r : Run) (rs : List Run) (b : Bool) (s t : List ℕ) → is_empty_run r ≡ b → Spans (qs ++ (r ∷ rs)) s t → Spans ((if b then qs else and_run qs r) ++ rs) s t
add-spans qs r rs true s t z h = in-front qs (r ∷ rs) rs s t (λ u v k. without-empty r rs u v z k) h
add-spans qs r rs false s t z h = and-spans qs r rs s t h

added-spans : (qs rs : List Run) (s t : List ℕ) → Spans (qs ++ rs) s t → Spans (add_runs qs rs) s t
added-spans qs [] s t h = subst (λ (l : List Run). Spans l s t) (append-nil qs) h
added-spans qs (r ∷ rs) s t h = added-spans (add_run qs r) rs s t (add-spans qs r rs (is_empty_run r) s t refl h)

kept-end-spans : (rs : List Run) (s t : List ℕ) → Spans rs s t → Spans (without_kept_end rs) s t
kept-end-spans [] s t h = h
kept-end-spans (Kept n ∷ []) s t h = h.near_is ∙ (ap (λ (l : List ℕ). h.part ++ l) h.goes_on ∙ sym h.far_is)
kept-end-spans (Added n ∷ []) s t h = h
kept-end-spans (Gone n ∷ []) s t h = h
kept-end-spans (q ∷ p ∷ rs) s t h = behind-run q (p ∷ rs) (without_kept_end (p ∷ rs)) s t (λ u v k. kept-end-spans (p ∷ rs) u v k) h

pub shortest-spans : (rs : List Run) (s t : List ℕ) → Spans rs s t → Spans (shortest rs) s t
shortest-spans rs s t h = kept-end-spans (add_runs [] rs) s t (added-spans [] rs s t h)

-- The complements of places, written one after the other.
use Rattle.std.proofs.Common.{◌≡◌, ℕ, zero, suc, ◌+◌, add-one, ◌<◌, true, List, [], ◌∷◌, map, take, length, get_or, refl, sym, ap, subst, ◌∙◌, arith}
use Rattle.texts.specs.Keys.{is_rising}
use Rattle.texts.proofs.KeyOrder.{rising-rest}
use Rattle.serde_json.specs.Data.{item, put}
use Rattle.serde_json.specs.View.{items_of}
use Rattle.value_json.proofs.Writing.{above, put_at}
use Rattle.lens_forms.specs.Forms.{FormTree}
use Rattle.lens_core.specs.Complements.{CompTree, nil, comps_of, Fits, AllFit}
use Rattle.complement_file.specs.ComplementJson.{tree_of_complement, place_items, place_members}

-- the complement at a place fits
fits_at : (F : CompTree → Type 0) (cs : List CompTree) (i : ℕ) (d : CompTree) → i < length cs → AllFit F (comps_of cs) → F (get_or cs i d)
fits_at F [] i d h k = absurd (omega arith)
fits_at F (c ∷ cs) zero d h k = k.0
fits_at F (c ∷ cs) (suc i) d h k = fits_at F cs i d (omega arith) k.1

pub place_fits : (l : FormTree) (cs : List CompTree) (i : ℕ) (c : CompTree) → i < length cs → c ≡ get_or cs i nil → AllFit (Fits l) (comps_of cs) → Fits l c
place_fits l cs i c h is k = subst (Fits l) (sym is) (fits_at (Fits l) cs i nil h k)

pub items_of_places : (l : FormTree) (cs : List CompTree) → items_of (map (tree_of_complement l) cs) ≡ place_items (tree_of_complement l) (comps_of cs)
items_of_places l [] = refl
items_of_places l (c ∷ cs) = ap (item (tree_of_complement l c)) (items_of_places l cs)

put_place_at : (l : FormTree) (ks : List (List ℕ)) (cs : List CompTree) (i : ℕ) (n : List ℕ) (c : CompTree) → i < length ks → i < length cs → is_rising ks ≡ true
    → put (get_or ks i n) (tree_of_complement l (get_or cs i c)) (place_members (tree_of_complement l) (take i ks) (comps_of (take i cs))) ≡ place_members (tree_of_complement l) (take (suc i) ks) (comps_of (take (suc i) cs))
put_place_at l [] cs i n c h k rising = absurd (omega arith)
put_place_at l (x ∷ ks) [] i n c h k rising = absurd (omega arith)
put_place_at l (x ∷ ks) (y ∷ cs) zero n c h k rising = refl
put_place_at l (x ∷ ks) (y ∷ cs) (suc i) n c h k rising =
    put_at _ _ _ _ _ _ (above x ks i n (omega arith) rising) (put_place_at l ks cs i n c (omega arith) (omega arith) (rising-rest x ks rising))

pub put_place : (l : FormTree) (ks : List (List ℕ)) (cs : List CompTree) (i : ℕ) (n : List ℕ) (c : CompTree) → i < length ks → i < length cs → is_rising ks ≡ true → n ≡ get_or ks i n → c ≡ get_or cs i nil
    → put n (tree_of_complement l c) (place_members (tree_of_complement l) (take i ks) (comps_of (take i cs))) ≡ place_members (tree_of_complement l) (take (i + 1) ks) (comps_of (take (i + 1) cs))
put_place l ks cs i n c h k rising is also =
    let this = ap (λ m. put m (tree_of_complement l c) (place_members (tree_of_complement l) (take i ks) (comps_of (take i cs)))) is in
    let that = ap (λ d. put (get_or ks i n) (tree_of_complement l d) (place_members (tree_of_complement l) (take i ks) (comps_of (take i cs)))) also in
    rw add-one (this ∙ that ∙ put_place_at l ks cs i n nil h k rising)

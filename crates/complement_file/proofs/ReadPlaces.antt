-- Reading the places of a container: a complement of one lens for each item.
use Rattle.std.proofs.Common.{◌≡◌, ℕ, ◌+◌, ◌<◌, ◌≤◌, List, [], ◌∷◌, ◌++◌, drop, length, get_or, String, Global, refl, sym, ap, ap₂, subst, arith}
use Rattle.std.proofs.lemmas.List.{drop_all}
use Rattle.serde_json.specs.Data.{Data, Items, no_items, item, Members, no_members, member}
use Rattle.serde_json.specs.View.{view, items_view, members_view}
use Rattle.serde_json.specs.declared.value.Value.{Value}
use Rattle.value_json.specs.DocumentJson.{member_names}
use Rattle.value_json.proofs.Counts.{left_items}
use Rattle.lens_forms.specs.Forms.{FormTree}
use Rattle.lens_core.specs.Complements.{CompTree, CompTrees, no_comps, more_comps, comps_of, comp_count}
use Rattle.complement_file.specs.ComplementJson.{tree_of_complement, place_items, place_members}
use Rattle.complement_file.specs.Reading.{IsComplement, ArePlaces, member_contents}
use Rattle.complement_file.proofs.ReadSoFar.{CompsRead, next_comp, all_comps, none_left, then_comps}

-- ---- one more item

place_into : (l : FormTree) (d : Data) (ds : Items) (c : CompTree) → IsComplement l d c → (cs : CompTrees) → ArePlaces l ds cs → ArePlaces l (item d ds) (more_comps c cs)
place_into l d ds c p cs h = ((p.0, h.0), ap₂ item p.1 h.1)

place_out : (l : FormTree) (d : Data) (ds : Items) (cs : CompTrees) → ArePlaces l (item d ds) cs → (es : CompTrees) × ArePlaces l ds es
place_out l d ds no_comps h = let q : no_items ≡ item d ds = h.1 in cc
place_out l d ds (more_comps c cs) h =
    let q : item (tree_of_complement l c) (place_items (tree_of_complement l) cs) ≡ item d ds = h.1 in
    let rest : place_items (tree_of_complement l) cs ≡ ds = cc in
    (cs, (h.0.1, rest))

place_refused : (l : FormTree) (d : Data) (ds : Items) → ((c : CompTree) → IsComplement l d c → ⊥) → (cs : CompTrees) → ArePlaces l (item d ds) cs → ⊥
place_refused l d ds none no_comps h = let q : no_items ≡ item d ds = h.1 in cc
place_refused l d ds none (more_comps c cs) h =
    let q : item (tree_of_complement l c) (place_items (tree_of_complement l) cs) ≡ item d ds = h.1 in
    let this : tree_of_complement l c ≡ d = cc in
    none c (h.0.0, this)

pub next_place : (Whole : CompTrees → Type 0) (l : FormTree) (xs : Items) (d : Data) (ds : Items) (cs : List CompTree) (c : CompTree) → xs ≡ item d ds → IsComplement l d c
    → CompsRead Whole (ArePlaces l xs) cs → CompsRead Whole (ArePlaces l ds) (cs ++ c ∷ [])
next_place Whole l xs d ds cs c is p r =
    next_comp Whole (ArePlaces l xs) (ArePlaces l ds) cs c r (λ es h. subst (λ ys. ArePlaces l ys (more_comps c es)) (sym is) (place_into l d ds c p es h))
    (λ es h. place_out l d ds es (subst (λ ys. ArePlaces l ys es) is h))

pub refused_place : (Whole : CompTrees → Type 0) (l : FormTree) (xs : Items) (d : Data) (ds : Items) (cs : List CompTree) → xs ≡ item d ds → CompsRead Whole (ArePlaces l xs) cs
    → ((c : CompTree) → IsComplement l d c → ⊥) → (es : CompTrees) → Whole es → ⊥
refused_place Whole l xs d ds cs is r none =
    none_left CompTrees Whole (ArePlaces l xs) (then_comps cs) r (λ es h. place_refused l d ds none es (subst (λ ys. ArePlaces l ys es) is h))

pub all_places : (Whole : CompTrees → Type 0) (l : FormTree) (xs : Items) (cs : List CompTree) → xs ≡ no_items → CompsRead Whole (ArePlaces l xs) cs → Whole (comps_of cs)
all_places Whole l xs cs is r = all_comps Whole (ArePlaces l xs) cs r (tt, sym is)

-- ---- the items of an array

pub items_next : (vs : List Value) (i : ℕ) (v : Value) → i < length vs → v ≡ get_or vs i v → items_view (drop i vs) ≡ item (view v) (items_view (drop (i + 1) vs))
items_next vs i v within is = ap items_view (left_items vs i v within is)

pub items_end : (vs : List Value) (i : ℕ) → length vs ≤ i → items_view (drop i vs) ≡ no_items
items_end vs i past = ap items_view (drop_all i vs past)

-- ---- the members of an object

pub contents_next : (es fs : List (String Global × Value)) (k : String Global) (v : Value) → es ≡ (k, v) ∷ fs → member_contents (members_view es) ≡ item (view v) (member_contents (members_view fs))
contents_next es fs k v is = ap (λ xs. member_contents (members_view xs)) is

pub contents_end : (es : List (String Global × Value)) → es ≡ [] → member_contents (members_view es) ≡ no_items
contents_end es is = ap (λ xs. member_contents (members_view xs)) is

-- members are their names and their contents
pub names_again : (tree : CompTree → Data) (ks : List (List ℕ)) (cs : CompTrees) → length ks ≡ comp_count cs → member_names (place_members tree ks cs) ≡ ks
names_again tree [] no_comps h = refl
names_again tree [] (more_comps c cs) h = absurd (omega arith)
names_again tree (k ∷ ks) no_comps h = absurd (omega arith)
names_again tree (k ∷ ks) (more_comps c cs) h = ap (λ x. k ∷ x) (names_again tree ks cs (omega arith))

pub contents_again : (tree : CompTree → Data) (ks : List (List ℕ)) (cs : CompTrees) → length ks ≡ comp_count cs → member_contents (place_members tree ks cs) ≡ place_items tree cs
contents_again tree [] no_comps h = refl
contents_again tree [] (more_comps c cs) h = absurd (omega arith)
contents_again tree (k ∷ ks) no_comps h = absurd (omega arith)
contents_again tree (k ∷ ks) (more_comps c cs) h = ap (item (tree c)) (contents_again tree ks cs (omega arith))

pub members_join : (tree : CompTree → Data) (ms : Members) (cs : CompTrees) → place_items tree cs ≡ member_contents ms → (place_members tree (member_names ms) cs ≡ ms) × (length (member_names ms) ≡ comp_count cs)
members_join tree no_members no_comps h = (refl, refl)
members_join tree no_members (more_comps c cs) h = cc
members_join tree (member k d ms) no_comps h = cc
members_join tree (member k d ms) (more_comps c cs) h =
    let this : tree c ≡ d = cc in
    let rest : place_items tree cs ≡ member_contents ms = cc in
    let p = members_join tree ms cs rest in
    (ap₂ (member k) this p.0, omega (arith, p.1))

-- as many complements as items
pub places_many : (tree : CompTree → Data) (cs : CompTrees) (vs : List Value) → place_items tree cs ≡ items_view vs → comp_count cs ≡ length vs
places_many tree no_comps [] h = refl
places_many tree no_comps (v ∷ vs) h = cc
places_many tree (more_comps c cs) [] h = cc
places_many tree (more_comps c cs) (v ∷ vs) h =
    let rest : place_items tree cs ≡ items_view vs = cc in
    omega (arith, places_many tree cs vs rest)

-- What a look-up among the entries gives, and what adding one makes.
use Rattle.std.proofs.Common.{◌≡◌, ℕ, zero, suc, ◌+◌, ◌≤◌, ◌<◌, Bool, true, false, true≢false, ◌||◌, nat_eq, cond, List, [], ◌∷◌, ◌++◌, length, map, take, slice_get, bytes_eq, Option, Some, None, is_some, option_map, unwrap_or, refl, ap, sym, ◌∙◌, subst, arith, append-nil, append_assoc}
use Rattle.std.specs.Prelude.{nat_le, nat_lt, min, not, position, if◌then◌else◌}
use Rattle.std.specs.List.{position_or_len}
use Rattle.std.specs.Map.{keys_of, lookup}
use Rattle.std.proofs.lemmas.Bool.Decides.{nat_tests}
use Rattle.std.proofs.lemmas.List.{take-append-le, take_all, length-append, length-map}
use Rattle.doc_values.specs.Types.{TyTree, ty_unit, height}
use Rattle.lens_forms.specs.Forms.{FormTree, form_id, left_type, right_type}
use Rattle.lens_forms.specs.Measures.{type_parts, form_parts, form_height}
use Rattle.program_terms.specs.Terms as Term
use Rattle.program_terms.specs.Views.{type_tree, lens_tree}
use Rattle.texts.specs.Keys.{has_name}
use Rattle.texts.proofs.Conjunction.{both as both_true, first as first_and, second as second_and}
use Rattle.lens_types.specs.Earlier.{KnownTree, Definitions, known, known_of, type_named, form_named, expanded_type, expanded_form}
use Rattle.lens_types.specs.Entries.{scope_of, term_of, stands_for, with_entries, earlier_tree, is_measured, is_measured_type, is_measured_lens, are_measured, term_size, weight, IsFound, IsTypeFound, IsLensFound, IsKnownType, IsKnownLens}
use Rattle.lens_types.specs.Heights.{capped, HasHeights}
use Rattle.lens_types.specs.declared.known.Known.{Known}
use Rattle.lens_types.specs.declared.known.Known.TheVariants.{OfType, OfLens}
use Rattle.lens_types.specs.declared.known.KnownType.{KnownType}
use Rattle.lens_types.specs.declared.known.KnownLens.{KnownLens}
use Rattle.std.proofs.lemmas.Bool.{eqb-true, leb-true, eq-eqb, le-leb}

abbrev Entry : Type 0
Entry = List ℕ × Known

abbrev standing : Definitions → Entry → List ℕ × KnownTree
standing ds e = (e.0, stands_for ds e.1)

-- ---- more definitions change nothing for an entry before them

scope_within : (ds : Definitions) (k : Known) → is_measured ds k ≡ true → scope_of k ≤ length ds
scope_within ds (OfType k) h = leb-true k.scope (length ds) (first_and (nat_le k.scope (length ds)) _ h)
scope_within ds (OfLens k) h = leb-true k.scope (length ds) (first_and (nat_le k.scope (length ds)) _ h)

take_more : (ds more : Definitions) (n : ℕ) → n ≤ length ds → take n (ds ++ more) ≡ take n ds
take_more ds more n h = take-append-le n ds more h

longer : (ds more : Definitions) (n : ℕ) → nat_le n (length ds) ≡ true → nat_le n (length (ds ++ more)) ≡ true
longer ds more n h = le-leb n (length (ds ++ more)) (omega (arith, leb-true n (length ds) h, length-append ds more))

measured-more : (ds more : Definitions) (k : Known) → is_measured ds k ≡ true → is_measured (ds ++ more) k ≡ true
measured-more ds more (OfType k) h =
    both_true _ _ (longer ds more k.scope (first_and (nat_le k.scope (length ds)) _ h))
    (rw (take_more ds more k.scope (scope_within ds (OfType k) h)) (second_and (nat_le k.scope (length ds)) _ h))
measured-more ds more (OfLens k) h =
    both_true _ _ (longer ds more k.scope (first_and (nat_le k.scope (length ds)) _ h))
    (rw (take_more ds more k.scope (scope_within ds (OfLens k) h)) (second_and (nat_le k.scope (length ds)) _ h))

stands-more : (ds more : Definitions) (k : Known) → is_measured ds k ≡ true → stands_for (ds ++ more) k ≡ stands_for ds k
stands-more ds more k h = ap (λ p. known_of p (term_of k)) (take_more ds more (scope_of k) (scope_within ds k h))

-- ---- the definitions that entries stand for

grows : (ds : Definitions) (es : List Entry) → (more : Definitions) × (with_entries ds es ≡ ds ++ more)
grows ds [] = ([], sym (append-nil ds))
grows ds (e ∷ es) =
    let rest = grows (ds ++ standing ds e ∷ []) es in
    (standing ds e ∷ rest.0, rest.1 ∙ append_assoc ds (standing ds e ∷ []) rest.0)

pub names_of_all : (ds : Definitions) (es : List Entry) → map (λ d. d.0) (with_entries ds es) ≡ map (λ d. d.0) ds ++ keys_of es
names_of_all ds [] = sym (append-nil _)
names_of_all ds (e ∷ es) =
    names_of_all (ds ++ standing ds e ∷ []) es
    ∙ ap (λ ns. ns ++ keys_of es) (names-append ds (standing ds e ∷ []))
    ∙ append_assoc (map (λ d. d.0) ds) (e.0 ∷ []) (keys_of es)
  where
    names-append : (ds more : Definitions) → map (λ d. d.0) (ds ++ more) ≡ map (λ d. d.0) ds ++ map (λ d. d.0) more
    names-append [] more = refl
    names-append (d ∷ ds) more = ap (λ ns. d.0 ∷ ns) (names-append ds more)

-- an entry at its place among them
record IsPlaced (ds : Definitions) (at : ℕ) (e : Entry) : Type 0 where
  here : slice_get ds at ≡ Some (standing ds e)
  measured : is_measured ds e.1 ≡ true
  before : scope_of e.1 ≤ at

at_seam : {A : Type 0} (xs : List A) (y : A) (ys : List A) → slice_get (xs ++ y ∷ ys) (length xs) ≡ Some y
at_seam [] y ys = refl
at_seam (x ∷ xs) y ys = at_seam xs y ys

placed_first : (ds more : Definitions) (e : Entry) → is_measured ds e.1 ≡ true → IsPlaced (ds ++ standing ds e ∷ more) (length ds) e
placed_first ds more e h = record {
  here = at_seam ds (standing ds e) more ∙ ap (λ k. Some (e.0, k)) (sym (stands-more ds (standing ds e ∷ more) e.1 h));
  measured = measured-more ds (standing ds e ∷ more) e.1 h;
  before = scope_within ds e.1 h;
}

placed : (ds : Definitions) (es : List Entry) (i : ℕ) (e : Entry) → are_measured ds es ≡ true → slice_get es i ≡ Some e → IsPlaced (with_entries ds es) (length ds + i) e
placed ds [] i e h k = absurd (true≢false (sym (ap is_some k)))
placed ds (x ∷ es) zero e h k =
    let rest = grows (ds ++ standing ds x ∷ []) es in
    let same : x ≡ e = ap (λ o. unwrap_or o x) k in
    let all : with_entries ds (x ∷ es) ≡ ds ++ standing ds x ∷ rest.0 = rest.1 ∙ append_assoc ds (standing ds x ∷ []) rest.0 in
    let at : length ds + 0 ≡ length ds = omega arith in
    let first : IsPlaced (ds ++ standing ds x ∷ rest.0) (length ds) x = placed_first ds rest.0 x (first_and (is_measured ds x.1) _ h) in
    let P : Definitions → Type 0 = λ d. IsPlaced d (length ds + 0) e in
    let Q : Entry → Type 0 = λ y. IsPlaced (ds ++ standing ds x ∷ rest.0) (length ds + 0) y in
    let R : ℕ → Type 0 = λ n. IsPlaced (ds ++ standing ds x ∷ rest.0) n x in
    subst P (sym all) (subst Q same (subst R (sym at) first))
placed ds (x ∷ es) (suc i) e h k =
    let rest = placed (ds ++ standing ds x ∷ []) es i e (second_and (is_measured ds x.1) _ h) k in
    let at : length (ds ++ standing ds x ∷ []) + i ≡ length ds + suc i = omega (arith, length-append ds (standing ds x ∷ [])) in
    let P : ℕ → Type 0 = λ n. IsPlaced (with_entries (ds ++ standing ds x ∷ []) es) n e in
    subst P at rest

-- ---- a look-up by name

abbrev place_of : List ℕ → Definitions → ℕ
place_of name ds = position_or_len (bytes_eq name) (map (λ d. d.0) ds)

place_zero : (b : Bool) (p : ℕ) → b ≡ true → cond (not b) (1 + p) 0 ≡ 0
place_zero true p h = refl
place_zero false p h = cc

place_suc : (b : Bool) (p : ℕ) → b ≡ false → cond (not b) (1 + p) 0 ≡ suc p
place_suc true p h = cc
place_suc false p h = omega arith

known_step : (b : Bool) (x : List ℕ × KnownTree) (ds : Definitions) (name : List ℕ) (n i : ℕ) (d : List ℕ × KnownTree) → bytes_eq name x.0 ≡ b
    → (slice_get ds (place_of name ds) ≡ Some d → place_of name ds < n → known (take n ds) name ≡ Some d.1)
    → place_of name (x ∷ ds) ≡ i → slice_get (x ∷ ds) i ≡ Some d → i < suc n
    → (if b then Some x.1 else known (take n ds) name) ≡ Some d.1
known_step true x ds name n i d e rest p s l =
    let first : 0 ≡ i = sym (place_zero (bytes_eq name x.0) (place_of name ds) e) ∙ p in
    let P : ℕ → Type 0 = λ k. slice_get (x ∷ ds) k ≡ Some d in
    let here : Some x ≡ Some d = subst P (sym first) s in
    ap (option_map (λ y. y.1)) here
known_step false x ds name n i d e rest p s l =
    let next : suc (place_of name ds) ≡ i = sym (place_suc (bytes_eq name x.0) (place_of name ds) e) ∙ p in
    let P : ℕ → Type 0 = λ k. slice_get (x ∷ ds) k ≡ Some d in
    let there : slice_get ds (place_of name ds) ≡ Some d = subst P (sym next) s in
    rest there (omega (arith, next, l))

-- a name stands for what the first definition of that name stands for, if it is among them
known_at : (ds : Definitions) (name : List ℕ) (n i : ℕ) (d : List ℕ × KnownTree) → place_of name ds ≡ i → slice_get ds i ≡ Some d → i < n
    → known (take n ds) name ≡ Some d.1
known_at [] name n i d p s l = absurd (true≢false (sym (ap is_some s)))
known_at (x ∷ ds) name zero i d p s l = absurd (omega arith)
known_at (x ∷ ds) name (suc n) i d p s l =
    known_step (bytes_eq name x.0) x ds name n i d refl (λ at low. known_at ds name n (place_of name ds) d refl at low) p s l

unknown_step : (b : Bool) (x : List ℕ × KnownTree) (ds : Definitions) (name : List ℕ) (n : ℕ) → bytes_eq name x.0 ≡ b
    → (min n (length ds) ≤ place_of name ds → known (take n ds) name ≡ None)
    → min (suc n) (suc (length ds)) ≤ place_of name (x ∷ ds) → (if b then Some x.1 else known (take n ds) name) ≡ None
unknown_step true x ds name n e rest h =
    let first : place_of name (x ∷ ds) ≡ 0 = place_zero (bytes_eq name x.0) (place_of name ds) e in
    absurd (omega (arith, first, h))
unknown_step false x ds name n e rest h =
    let next : place_of name (x ∷ ds) ≡ suc (place_of name ds) = place_suc (bytes_eq name x.0) (place_of name ds) e in
    rest (omega (arith, next, h))

unknown_at : (ds : Definitions) (name : List ℕ) (n : ℕ) → min n (length ds) ≤ place_of name ds → known (take n ds) name ≡ None
unknown_at [] name zero h = refl
unknown_at [] name (suc n) h = refl
unknown_at (x ∷ ds) name zero h = refl
unknown_at (x ∷ ds) name (suc n) h = unknown_step (bytes_eq name x.0) x ds name n refl (λ low. unknown_at ds name n low) h

place_in : (name : List ℕ) (es : List Entry) → place_of name (earlier_tree es) ≡ position_or_len (bytes_eq name) (keys_of es)
place_in name es = ap (position_or_len (bytes_eq name)) (names_of_all [] es)

length_in : (es : List Entry) → length (earlier_tree es) ≡ length (keys_of es)
length_in es = sym (length-map (earlier_tree es) (λ d. d.0)) ∙ ap length (names_of_all [] es)

none_past : (p n : ℕ) → None ≡ cond (nat_lt p n) (Some p) None → n ≤ p
none_past p n h = grind (arith, nat_tests)

some_is : (p n i : ℕ) → Some i ≡ cond (nat_lt p n) (Some p) None → p ≡ i
some_is p n i h = by (nat_lt p n) h
  where
    by : (b : Bool) → Some i ≡ cond b (Some p) None → p ≡ i
    by true e = cc
    by false e = cc

pub find_none : (es : List Entry) (name : List ℕ) (scope : ℕ) → None ≡ position (bytes_eq name) (keys_of es) → known (take scope (earlier_tree es)) name ≡ None
find_none es name scope h =
    let past : length (keys_of es) ≤ position_or_len (bytes_eq name) (keys_of es) = none_past _ _ h in
    unknown_at (earlier_tree es) name scope (omega (arith, past, place_in name es, length_in es))

pub find_late : (es : List Entry) (name : List ℕ) (scope i : ℕ) → Some i ≡ position (bytes_eq name) (keys_of es) → scope ≤ i
    → known (take scope (earlier_tree es)) name ≡ None
find_late es name scope i h l =
    let at : position_or_len (bytes_eq name) (keys_of es) ≡ i = some_is _ _ i h in
    unknown_at (earlier_tree es) name scope (omega (arith, at, place_in name es, l))

-- ---- the entries before an entry that is found take fewer steps

weighed : (es : List Entry) (i s n : ℕ) (e : Entry) → slice_get es i ≡ Some e → s ≤ i → i < n
    → weight (take s es) + term_size (term_of e.1) + 1 ≤ weight (take n es)
weighed [] i s n e h l m = absurd (true≢false (sym (ap is_some h)))
weighed (x ∷ es) i s zero e h l m = absurd (omega arith)
weighed (x ∷ es) zero zero (suc n) e h l m =
    let same : x ≡ e = ap (λ o. unwrap_or o x) h in
    let sizes : term_size (term_of x.1) ≡ term_size (term_of e.1) = ap (λ y. term_size (term_of y.1)) same in
    omega (arith, sizes)
weighed (x ∷ es) zero (suc s) (suc n) e h l m = absurd (omega arith)
weighed (x ∷ es) (suc i) zero (suc n) e h l m =
    let rest : weight (take zero es) + term_size (term_of e.1) + 1 ≤ weight (take n es) = weighed es i zero n e h (omega arith) (omega arith) in
    omega (arith, rest)
weighed (x ∷ es) (suc i) (suc s) (suc n) e h l m =
    let rest : weight (take s es) + term_size (term_of e.1) + 1 ≤ weight (take n es) = weighed es i s n e h (omega arith) (omega arith) in
    omega (arith, rest)

pub find_some : (es : List Entry) (name : List ℕ) (scope i : ℕ) (m : List ℕ) (k : Known) → are_measured [] es ≡ true
    → Some i ≡ position (bytes_eq name) (keys_of es) → slice_get es i ≡ Some (m, k) → i < scope → IsFound es scope name k
find_some es name scope i m k h p e l =
    let at : position_or_len (bytes_eq name) (keys_of es) ≡ i = some_is _ _ i p in
    let zero_at : length {A = List ℕ × KnownTree} [] + i ≡ i = omega arith in
    let P : ℕ → Type 0 = λ n. IsPlaced (earlier_tree es) n (m, k) in
    let here = subst P zero_at (placed [] es i (m, k) h e) in
    record {
      stands = known_at (earlier_tree es) name scope i (m, stands_for (earlier_tree es) k) (place_in name es ∙ at) here.here l;
      measured = here.measured;
      smaller = weighed es i (scope_of k) scope (m, k) e here.before l;
    }

-- ---- one more entry

pub measured_last : (ds : Definitions) (es : List Entry) (n : List ℕ) (k : Known) → are_measured ds es ≡ true → is_measured (with_entries ds es) k ≡ true
    → are_measured ds (es ++ (n, k) ∷ []) ≡ true
measured_last ds [] n k h m = both_true _ _ m refl
measured_last ds (e ∷ es) n k h m =
    both_true _ _ (first_and (is_measured ds e.1) _ h) (measured_last (ds ++ standing ds e ∷ []) es n k (second_and (is_measured ds e.1) _ h) m)

pub with_last : (ds : Definitions) (es : List Entry) (n : List ℕ) (k : Known)
    → with_entries ds (es ++ (n, k) ∷ []) ≡ with_entries ds es ++ (n, stands_for (with_entries ds es) k) ∷ []
with_last ds [] n k = refl
with_last ds (e ∷ es) n k = with_last (ds ++ standing ds e ∷ []) es n k

known-has : (ds : Definitions) (name : List ℕ) → is_some (known ds name) ≡ has_name name (map (λ d. d.0) ds)
known-has [] name = refl
known-has (d ∷ ds) name =
    elim (bytes_eq name d.0) as (λ b. is_some (if b then Some d.1 else known ds name) ≡ (b || has_name name (map (λ x. x.0) ds))) [ true ↦ refl | false ↦ known-has ds name ]

lookup-has : (es : List Entry) (name : List ℕ) → is_some (lookup (bytes_eq name) es) ≡ has_name name (keys_of es)
lookup-has [] name = refl
lookup-has (e ∷ es) name =
    elim (bytes_eq name e.0) as (λ b. is_some (cond b (Some e.1) (lookup (bytes_eq name) es)) ≡ (b || has_name name (keys_of es))) [ true ↦ refl | false ↦ lookup-has es name ]

none_of : {A : Type 0} (o : Option A) → is_some o ≡ false → o ≡ None
none_of None h = refl
none_of (Some x) h = cc

-- a name that is not known is no key
pub no_key : (es : List Entry) (name : List ℕ) → known (earlier_tree es) name ≡ None → lookup (bytes_eq name) es ≡ None
no_key es name h =
    none_of (lookup (bytes_eq name) es)
    (lookup-has es name ∙ ap (has_name name) (sym (names_of_all [] es)) ∙ sym (known-has (earlier_tree es) name) ∙ ap is_some h)

-- a name that is among no names of the definitions is not known
pub not_known : (ds : Definitions) (name : List ℕ) → has_name name (map (λ d. d.0) ds) ≡ false → known ds name ≡ None
not_known ds name h = none_of (known ds name) (known-has ds name ∙ h)

-- ---- all definitions

pub take_length : (ds : Definitions) → take (length ds) ds ≡ ds
take_length ds = take_all (length ds) ds (omega arith)

pub length_tree : (es : List Entry) → length es ≡ length (earlier_tree es)
length_tree es = sym (length-map es (λ e. e.0)) ∙ sym (length_in es)

pub all_of : (es : List Entry) (scope : ℕ) → scope ≡ length es → take scope (earlier_tree es) ≡ earlier_tree es
all_of es scope h = ap (λ n. take n (earlier_tree es)) (h ∙ length_tree es) ∙ take_length (earlier_tree es)

-- ---- the measures of what is found among all definitions

pub record AreTypeMeasures (t : TyTree) (k : KnownType) : Type 0 where
  pub parts : k.parts ≡ type_parts t
  pub height : k.height ≡ capped (height t)

pub type_measures : (es : List Entry) (scope : ℕ) (name : List ℕ) (k : KnownType) → IsTypeFound es scope name k → scope ≡ length es
    → AreTypeMeasures (type_named (earlier_tree es) name) k
type_measures es scope name k h all =
    let t = expanded_type (take k.scope (earlier_tree es)) (type_tree k.ty.now) in
    let numbers = second_and (nat_le k.scope (length (earlier_tree es))) _ h.measured in
    let is : t ≡ type_named (earlier_tree es) name = h.stands ∙ ap (λ ds. type_named ds name) (all_of es scope all) in
    let P : TyTree → Type 0 = λ u. AreTypeMeasures u k in
    subst P is
    (record {
      parts = eqb-true k.parts (type_parts t) (first_and (nat_eq k.parts (type_parts t)) _ numbers);
      height = eqb-true k.height (capped (height t)) (second_and (nat_eq k.parts (type_parts t)) _ numbers);
    })

pub record AreLensMeasures (f : FormTree) (k : KnownLens) : Type 0 where
  pub parts : k.parts ≡ form_parts f
  pub height : k.height ≡ capped (form_height f)
  pub sides : HasHeights f k.sides

pub lens_measures : (es : List Entry) (scope : ℕ) (name : List ℕ) (k : KnownLens) → IsLensFound es scope name k → scope ≡ length es
    → AreLensMeasures (form_named (earlier_tree es) name) k
lens_measures es scope name k h all =
    let f = expanded_form (take k.scope (earlier_tree es)) (lens_tree k.lens.now) in
    let numbers = second_and (nat_le k.scope (length (earlier_tree es))) _ h.measured in
    let heights = second_and (nat_eq k.parts (form_parts f)) _ numbers in
    let sides = second_and (nat_eq k.height (capped (form_height f))) _ heights in
    let is : f ≡ form_named (earlier_tree es) name = h.stands ∙ ap (λ ds. form_named ds name) (all_of es scope all) in
    let P : FormTree → Type 0 = λ g. AreLensMeasures g k in
    subst P is
    (record {
      parts = eqb-true k.parts (form_parts f) (first_and (nat_eq k.parts (form_parts f)) _ numbers);
      height = eqb-true k.height (capped (form_height f)) (first_and (nat_eq k.height (capped (form_height f))) _ heights);
      sides = (
        eqb-true k.sides.left (capped (height (left_type f))) (first_and (nat_eq k.sides.left (capped (height (left_type f)))) _ sides),
        eqb-true k.sides.right (capped (height (right_type f))) (second_and (nat_eq k.sides.left (capped (height (left_type f)))) _ sides),
      );
    })

pub no_type : (es : List Entry) (scope : ℕ) (name : List ℕ) → type_named (take scope (earlier_tree es)) name ≡ ty_unit → scope ≡ length es
    → type_named (earlier_tree es) name ≡ ty_unit
no_type es scope name h all = ap (λ ds. type_named ds name) (sym (all_of es scope all)) ∙ h

pub no_lens : (es : List Entry) (scope : ℕ) (name : List ℕ) → form_named (take scope (earlier_tree es)) name ≡ form_id ty_unit → scope ≡ length es
    → form_named (earlier_tree es) name ≡ form_id ty_unit
no_lens es scope name h all = ap (λ ds. form_named ds name) (sym (all_of es scope all)) ∙ h

-- ---- what a definition stands for: an alias stands for what its name does

pub type_alias : (es : List Entry) (scope : ℕ) (name : List ℕ) (k : KnownType) → IsTypeFound es scope name k → scope ≡ length es
    → IsKnownType (earlier_tree es) (Term.named name) k
type_alias es scope name k h all = record { stands = h.stands ∙ ap (λ ds. type_named ds name) (all_of es scope all); measured = h.measured }

pub type_itself : (es : List Entry) (k : KnownType) → k.scope ≡ length es → is_measured_type (earlier_tree es) k ≡ true
    → IsKnownType (earlier_tree es) (type_tree k.ty.now) k
type_itself es k all h = record { stands = ap (λ ds. expanded_type ds (type_tree k.ty.now)) (all_of es k.scope all); measured = h }

pub lens_alias : (es : List Entry) (scope : ℕ) (name : List ℕ) (k : KnownLens) → IsLensFound es scope name k → scope ≡ length es
    → IsKnownLens (earlier_tree es) (Term.named_lens name) k
lens_alias es scope name k h all = record { stands = h.stands ∙ ap (λ ds. form_named ds name) (all_of es scope all); measured = h.measured }

pub lens_itself : (es : List Entry) (k : KnownLens) → k.scope ≡ length es → is_measured_lens (earlier_tree es) k ≡ true
    → IsKnownLens (earlier_tree es) (lens_tree k.lens.now) k
lens_itself es k all h = record { stands = ap (λ ds. expanded_form ds (lens_tree k.lens.now)) (all_of es k.scope all); measured = h }

-- ---- the measures of a new entry are those that were counted

scope_test : (es : List Entry) (scope : ℕ) → scope ≡ length es → nat_le scope (length (earlier_tree es)) ≡ true
scope_test es scope h = le-leb scope (length (earlier_tree es)) (omega (arith, h, length_tree es))

pub measured_type : (es : List Entry) (k : KnownType) → k.scope ≡ length es → k.parts ≡ type_parts (expanded_type (earlier_tree es) (type_tree k.ty.now))
    → k.height ≡ capped (height (expanded_type (earlier_tree es) (type_tree k.ty.now))) → is_measured_type (earlier_tree es) k ≡ true
measured_type es k all p h =
    let same = sym (ap (λ ds. expanded_type ds (type_tree k.ty.now)) (all_of es k.scope all)) in
    both_true _ _ (scope_test es k.scope all)
    (both_true _ _ (eq-eqb k.parts _ (p ∙ ap type_parts same)) (eq-eqb k.height _ (h ∙ ap (λ t. capped (height t)) same)))

pub measured_lens : (es : List Entry) (k : KnownLens) → k.scope ≡ length es → k.parts ≡ form_parts (expanded_form (earlier_tree es) (lens_tree k.lens.now))
    → k.height ≡ capped (form_height (expanded_form (earlier_tree es) (lens_tree k.lens.now)))
    → HasHeights (expanded_form (earlier_tree es) (lens_tree k.lens.now)) k.sides → is_measured_lens (earlier_tree es) k ≡ true
measured_lens es k all p h s =
    let same = sym (ap (λ ds. expanded_form ds (lens_tree k.lens.now)) (all_of es k.scope all)) in
    both_true _ _ (scope_test es k.scope all)
    (both_true _ _ (eq-eqb k.parts _ (p ∙ ap form_parts same))
    (both_true _ _ (eq-eqb k.height _ (h ∙ ap (λ f. capped (form_height f)) same))
    (both_true _ _ (eq-eqb k.sides.left _ (s.0 ∙ ap (λ f. capped (height (left_type f))) same)) (eq-eqb k.sides.right _ (s.1 ∙ ap (λ f. capped (height (right_type f))) same)))))

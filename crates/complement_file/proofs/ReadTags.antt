-- Reading the tags of a partition's complement: the number of a name.
use Rattle.std.proofs.Common.{◌≡◌, ℕ, zero, suc, ◌+◌, ◌<◌, Bool, true, false, cond, bytes_eq, List, [], ◌∷◌, ◌++◌, Option, Some, None, option_map, refl, sym, ap, ap₂, subst, ◌∙◌, arith}
use Rattle.std.specs.Prelude.{nat_lt}
use Rattle.texts.proofs.Conjunction.{both, first, second}
use Rattle.serde_json.specs.Data.{Data, string, Items, no_items, item}
use Rattle.serde_json.specs.Find.{as_str}
use Rattle.tag_seq.specs.Tags.{are_below}
use Rattle.doc_values.specs.Types.{TyTree, FieldTrees, no_fields, more_fields}
use Rattle.doc_values.specs.Typing.{lookup_field, later_field}
use Rattle.lens_core.specs.Tags.{tag_count, tag_name}
use Rattle.complement_file.specs.ComplementJson.{tag_items}
use Rattle.complement_file.specs.Reading.{IsTag, AreTags}
use Rattle.complement_file.proofs.ReadSoFar.{NumbersRead, next_number, all_numbers, none_left}
use Rattle.texts.proofs.Tests.{bytes_eq-is}
use Rattle.std.proofs.lemmas.Bool.{lt-ltb, ltb-true}
use Rattle.texts.proofs.KeyOrder.{bytes_eq-refl}

-- ---- one more tag

tag_into : (fs : FieldTrees) (d : Data) (ds : Items) (k : ℕ) → IsTag fs d k → (ks : List ℕ) → AreTags fs ds ks → AreTags fs (item d ds) (k ∷ ks)
tag_into fs d ds k p ks h = (both (nat_lt k (tag_count fs)) (are_below (tag_count fs) ks) p.0 h.0, ap₂ item p.1 h.1)

tag_out : (fs : FieldTrees) (d : Data) (ds : Items) (ks : List ℕ) → AreTags fs (item d ds) ks → (js : List ℕ) × AreTags fs ds js
tag_out fs d ds [] h = let q : no_items ≡ item d ds = h.1 in cc
tag_out fs d ds (k ∷ ks) h =
    let q : item (string (tag_name fs k)) (tag_items fs ks) ≡ item d ds = h.1 in
    let rest : tag_items fs ks ≡ ds = cc in
    (ks, (second (nat_lt k (tag_count fs)) (are_below (tag_count fs) ks) h.0, rest))

tag_refused : (fs : FieldTrees) (d : Data) (ds : Items) → ((k : ℕ) → IsTag fs d k → ⊥) → (ks : List ℕ) → AreTags fs (item d ds) ks → ⊥
tag_refused fs d ds none [] h = let q : no_items ≡ item d ds = h.1 in cc
tag_refused fs d ds none (k ∷ ks) h =
    let q : item (string (tag_name fs k)) (tag_items fs ks) ≡ item d ds = h.1 in
    let this : string (tag_name fs k) ≡ d = cc in
    none k (first (nat_lt k (tag_count fs)) (are_below (tag_count fs) ks) h.0, this)

pub next_tag : (Whole : List ℕ → Type 0) (fs : FieldTrees) (xs : Items) (d : Data) (ds : Items) (ks : List ℕ) (k : ℕ) → xs ≡ item d ds → IsTag fs d k
    → NumbersRead Whole (AreTags fs xs) ks → NumbersRead Whole (AreTags fs ds) (ks ++ k ∷ [])
next_tag Whole fs xs d ds ks k is p r =
    next_number Whole (AreTags fs xs) (AreTags fs ds) ks k r (λ js h. subst (λ ys. AreTags fs ys (k ∷ js)) (sym is) (tag_into fs d ds k p js h))
    (λ js h. tag_out fs d ds js (subst (λ ys. AreTags fs ys js) is h))

pub refused_tag : (Whole : List ℕ → Type 0) (fs : FieldTrees) (xs : Items) (d : Data) (ds : Items) (ks : List ℕ) → xs ≡ item d ds → NumbersRead Whole (AreTags fs xs) ks
    → ((k : ℕ) → IsTag fs d k → ⊥) → (js : List ℕ) → Whole js → ⊥
refused_tag Whole fs xs d ds ks is r none =
    none_left (List ℕ) Whole (AreTags fs xs) (λ js. ks ++ js) r (λ js h. tag_refused fs d ds none js (subst (λ ys. AreTags fs ys js) is h))

pub all_tags : (Whole : List ℕ → Type 0) (fs : FieldTrees) (xs : Items) (ks : List ℕ) → xs ≡ no_items → NumbersRead Whole (AreTags fs xs) ks → Whole ks
all_tags Whole fs xs ks is r = all_numbers Whole (AreTags fs xs) ks r (refl, sym is)

-- ---- the number of a name

-- the first field with a name has a number with that name
found_step : (fs : FieldTrees) (m n : List ℕ) (t : TyTree) (rest : Option (ℕ × TyTree)) (q : ℕ × TyTree) (k : Bool) → bytes_eq m n ≡ k
    → cond k (Some (0, t)) (option_map (later_field 1) rest) ≡ Some q → ((p : ℕ × TyTree) → rest ≡ Some p → (p.0 < tag_count fs) × (tag_name fs p.0 ≡ n))
    → (q.0 < tag_count (more_fields m t fs)) × (tag_name (more_fields m t fs) q.0 ≡ n)
found_step fs m n t rest q true is e again =
    let zeroth : (0, t) ≡ q = cc in
    subst (λ (z : ℕ × TyTree). (z.0 < tag_count (more_fields m t fs)) × (tag_name (more_fields m t fs) z.0 ≡ n)) zeroth (omega arith, bytes_eq-is m n is)
found_step fs m n t None q false is e again = cc
found_step fs m n t (Some p) q false is e again =
    let later : later_field 1 p ≡ q = cc in
    let r = again p refl in
    let next : 1 + p.0 ≡ suc p.0 = omega arith in
    subst (λ (z : ℕ × TyTree). (z.0 < tag_count (more_fields m t fs)) × (tag_name (more_fields m t fs) z.0 ≡ n)) later
    (omega (arith, r.0), ap (tag_name (more_fields m t fs)) next ∙ r.1)

pub tag_found : (fs : FieldTrees) (n : List ℕ) (q : ℕ × TyTree) → lookup_field fs n ≡ Some q → (q.0 < tag_count fs) × (tag_name fs q.0 ≡ n)
tag_found no_fields n q e = cc
tag_found (more_fields m t fs) n q e = found_step fs m n t (lookup_field fs n) q (bytes_eq m n) refl e (λ p h. tag_found fs n p h)

-- where no field has the name, no number has it
absent_step : (fs : FieldTrees) (m n : List ℕ) (t : TyTree) (rest : Option (ℕ × TyTree)) (k : Bool) → bytes_eq m n ≡ k → cond k (Some (0, t)) (option_map (later_field 1) rest) ≡ None
    → (m ≡ n → ⊥) × (rest ≡ None)
absent_step fs m n t rest true is e = cc
absent_step fs m n t None false is e = (λ same. let yes : bytes_eq m n ≡ true = subst (λ z. bytes_eq m z ≡ true) same (bytes_eq-refl m) in cc, refl)
absent_step fs m n t (Some p) false is e = cc

pub tag_absent : (fs : FieldTrees) (n : List ℕ) (k : ℕ) → lookup_field fs n ≡ None → k < tag_count fs → tag_name fs k ≡ n → ⊥
tag_absent no_fields n k e h is = absurd (omega arith)
tag_absent (more_fields m t fs) n zero e h is = (absent_step fs m n t (lookup_field fs n) (bytes_eq m n) refl e).0 is
tag_absent (more_fields m t fs) n (suc k) e h is = tag_absent fs n k (absent_step fs m n t (lookup_field fs n) (bytes_eq m n) refl e).1 (omega arith) is

-- ---- the tag that a text names

pub is_tag : (fs : FieldTrees) (d : Data) (n : List ℕ) (q : ℕ × TyTree) → Some n ≡ as_str d → lookup_field fs n ≡ Some q → IsTag fs d q.0
is_tag fs (string m) n q named found =
    let text : n ≡ m = cc in
    let p = tag_found fs n q found in
    (lt-ltb q.0 (tag_count fs) p.0, ap string (p.1 ∙ text))
is_tag fs d n q named found = cc

pub no_text : (fs : FieldTrees) (d : Data) → None ≡ as_str d → (k : ℕ) → IsTag fs d k → ⊥
no_text fs d none k h = let bad : None ≡ Some (tag_name fs k) = none ∙ ap as_str (sym h.1) in cc

pub no_tag : (fs : FieldTrees) (d : Data) (n : List ℕ) → Some n ≡ as_str d → lookup_field fs n ≡ None → (k : ℕ) → IsTag fs d k → ⊥
no_tag fs d n named none k h =
    let same : Some n ≡ Some (tag_name fs k) = named ∙ ap as_str (sym h.1) in
    let text : n ≡ tag_name fs k = cc in
    tag_absent fs n k none (ltb-true k (tag_count fs) h.0) (sym text)

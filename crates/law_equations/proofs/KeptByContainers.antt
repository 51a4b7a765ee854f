-- The maps of a lens over lists, keyed maps and ordered trees keep the equations.
use Rattle.std.proofs.Common.{◌≡◌, refl, sym, ap, ap₂, Bool, true, false, cond, Option, None, Some, option_map, ℕ, zero, suc, ◌+◌, nat_eq, ◌∙◌}
use Rattle.std.specs.Prelude.{option_and_then}
use Rattle.hold_shapes.specs.declared.shape.Shape.{Shape}
use Rattle.hold_shapes.specs.declared.shape.Shape.TheVariants.{List as ListOf, Keyed as KeyedOf, Tree as TreeOf}
use Rattle.hold_shapes.specs.declared.edit.Place.{Place}
use Rattle.hold_shapes.specs.Shapes.{size_of, place_of}
use Rattle.texts.specs.declared.side.Side.{Side}
use Rattle.texts.specs.declared.side.Side.TheVariants.{Left, Right}
use Rattle.texts.specs.Sides.{other}
use Rattle.edit_module.specs.Words.{PrimitiveTree, set, add, splice, at, stay, switch, modify, shape, WordTree, no_primitives, more_primitives, joined}
use Rattle.edit_module.specs.Normal.{merge}
use Rattle.lens_forms.specs.Forms.{FormTree, form_id, form_bij, form_disc, form_then, form_rec, form_alt, form_each, form_keyed, form_ordered, form_part, form_inv}
use Rattle.lens_core.specs.Complements.{CompTree, nil, hold_comp, CompTrees, no_comps, more_comps, comps_of, comp_list, comp_count, missing}
use Rattle.lens_core.specs.Emitted.{one, mod_word, behind, one_by_one}
use Rattle.lens_core.specs.Translation.{Translated, at_nil, set_partner, comp_at, put_comp, held_row, translate_held, translate_one, translate}
use Rattle.lens_core.proofs.ComplementTrees.{comps_of-comp_list}
use Rattle.law_equations.specs.Alike.{KeepsEquations}
use Rattle.law_equations.proofs.Glue.{normalized, normalized_one}
use Rattle.law_equations.proofs.Normals.{merge-cases, normalized-again}
use Rattle.law_equations.proofs.EmittedAlike.{mod_word-normalized, mod_word-joined}
use Rattle.law_equations.proofs.Alikes.{in_normal_form, same-parts, in_order, in_parts, form-keeps, owed-form}

-- ---- complements at places

put-count : (cs : CompTrees) (i : ℕ) (c : CompTree) → comp_count (put_comp cs i c) ≡ comp_count cs
put-count no_comps i c = refl
put-count (more_comps x cs) zero c = ap (λ z. comp_count z + 1) (comps_of-comp_list cs)
put-count (more_comps x cs) (suc i) c = ap (λ n. n + 1) (put-count cs i c)

put-put : (cs : CompTrees) (i : ℕ) (c d : CompTree) → put_comp (put_comp cs i c) i d ≡ put_comp cs i d
put-put no_comps i c d = refl
put-put (more_comps x cs) zero c d = ap (more_comps d) (comps_of-comp_list (comps_of (comp_list cs)))
put-put (more_comps x cs) (suc i) c d = ap (more_comps x) (put-put cs i c d)

-- where there is no such place, the complement there counts as the empty one, and none is put
put-at : (cs : CompTrees) (i : ℕ) (c : CompTree) → (comp_at cs i ≡ nil → c ≡ nil) → comp_at (put_comp cs i c) i ≡ c
put-at no_comps i c h = sym (h refl)
put-at (more_comps x cs) zero c h = refl
put-at (more_comps x cs) (suc i) c h = put-at cs i c h

-- ---- the complement that keeps nothing stays

nil-kept : (o : Option WordTree) (r : Translated) → at_nil nil o ≡ Some r → r.1 ≡ nil
nil-kept None r e = cc
nil-kept (Some w) r e = let same : (w, nil) ≡ r = cc in sym (ap (λ z. z.1) same)

nil-one : (l : FormTree) (side : Side) (p : PrimitiveTree) (r : Translated) → translate_one l side nil p ≡ Some r → r.1 ≡ nil
nil-one (form_id t) side p r e = nil-kept (Some (one p)) r e
nil-one (form_bij ps n) side p r e = nil-kept (set_partner side ps p) r e
nil-one (form_disc t u) side p r e = nil-kept (Some no_primitives) r e
nil-one (form_inv l) side p r e = nil-one l (other side) p r e
nil-one (form_then l k) Left p r e = cc
nil-one (form_then l k) Right p r e = cc
nil-one (form_rec rows) side p r e = cc
nil-one (form_alt arms) side p r e = cc
nil-one (form_each l) side p r e = cc
nil-one (form_keyed l) side p r e = cc
nil-one (form_ordered l) side p r e = cc
nil-one (form_part fs) side p r e = cc

nil-word : (l : FormTree) (side : Side) (w : WordTree) (c : CompTree) (r : Translated) → c ≡ nil → translate l side c w ≡ Some r → r.1 ≡ nil
nil-word l side no_primitives c r n e = let same : (no_primitives, c) ≡ r = cc in sym (ap (λ z. z.1) same) ∙ n
nil-word l side (more_primitives p w) c r n e =
    first (translate_one l side c p) (λ q i. nil-one l side p q (ap (λ d. translate_one l side d p) (sym n) ∙ i)) (λ q s i j. nil-word l side w q.1 s i j) e
  where
    rest : (q : Translated) (o : Option Translated) → ((s : Translated) → o ≡ Some s → s.1 ≡ nil) → option_map (behind q.0) o ≡ Some r → r.1 ≡ nil
    rest q None h e = cc
    rest q (Some s) h e = let same : behind q.0 s ≡ r = cc in sym (ap (λ z. z.1) same) ∙ h s refl

    first : (o : Option Translated) → ((q : Translated) → o ≡ Some q → q.1 ≡ nil)
        → ((q s : Translated) → q.1 ≡ nil → translate l side q.1 w ≡ Some s → s.1 ≡ nil) → in_order o (λ d. translate l side d w) ≡ Some r → r.1 ≡ nil
    first None h k e = cc
    first (Some q) h k e = rest q (translate l side q.1 w) (λ s i. k q s (h q refl) i) e

-- ---- a word at a place

abbrev at_item : Place → Shape → CompTrees → ℕ → Translated → Translated
at_item x s cs i r = (mod_word x r.0, hold_comp s (put_comp cs i r.1))

at_item-same : (x : Place) (s : Shape) (cs : CompTrees) (i : ℕ) (o p : Option Translated) → in_normal_form o ≡ in_normal_form p → in_normal_form (option_map (at_item x s cs i) o) ≡ in_normal_form (option_map (at_item x s cs i) p)
at_item-same x s cs i None None e = refl
at_item-same x s cs i None (Some q) e = cc
at_item-same x s cs i (Some q) None e = cc
at_item-same x s cs i (Some q) (Some r) e = ap₂ (λ w c. Some (w, hold_comp s (put_comp cs i c))) (mod_word-normalized x q.0 r.0 (same-parts q r e).0) (same-parts q r e).1

at_item-order : (x : Place) (s : Shape) (cs : CompTrees) (i : ℕ) (o : Option Translated) (k next : CompTree → Option Translated)
    → ((r : Translated) → o ≡ Some r → next (hold_comp s (put_comp cs i r.1)) ≡ option_map (at_item x s (put_comp cs i r.1) i) (k r.1))
    → in_normal_form (option_map (at_item x s cs i) (in_order o k)) ≡ in_normal_form (in_order (option_map (at_item x s cs i) o) next)
at_item-order x s cs i None k next h = refl
at_item-order x s cs i (Some r) k next h = rw (h r refl) (go (k r.1))
  where
    go : (o : Option Translated) → in_normal_form (option_map (at_item x s cs i) (option_map (behind r.0) o)) ≡ in_normal_form (option_map (behind (mod_word x r.0)) (option_map (at_item x s (put_comp cs i r.1) i) o))
    go None = refl
    go (Some q) = ap₂ (λ w ds. Some (w, hold_comp s ds)) (mod_word-joined x r.0 q.0) (sym (put-put cs i r.1 q.1))

-- ---- one primitive of a container

abbrev held : FormTree → Side → Shape → CompTrees → PrimitiveTree → Option Translated
held l side s cs p = translate_held (one_by_one (translate_one l side)) (missing l) s cs p

held-one : (l : FormTree) → KeepsEquations l → (side : Side) (s : Shape) (cs : CompTrees) (p : PrimitiveTree) → in_normal_form (held l side s cs (normalized_one p)) ≡ in_normal_form (held l side s cs p)
held-one l h side s cs (modify x u) = go (nat_eq (comp_count cs) (size_of s)) (place_of s x)
  where
    go : (b : Bool) (o : Option ℕ) → in_normal_form (cond b (option_and_then (λ i. option_map (at_item x s cs i) (translate l side (comp_at cs i) (normalized u))) o) None)
        ≡ in_normal_form (cond b (option_and_then (λ i. option_map (at_item x s cs i) (translate l side (comp_at cs i) u)) o) None)
    go false o = refl
    go true None = refl
    go true (Some i) = at_item-same x s cs i (translate l side (comp_at cs i) (normalized u)) (translate l side (comp_at cs i) u) (form-keeps l h side (comp_at cs i) (normalized u) u (normalized-again u))
held-one l h side s cs (set a) = refl
held-one l h side s cs (add a) = refl
held-one l h side s cs (splice i k t) = refl
held-one l h side s cs (at f u) = refl
held-one l h side s cs (stay f u) = refl
held-one l h side s cs (switch m n u) = refl
held-one l h side s cs (shape a) = refl

held-mod : (form l : FormTree) → KeepsEquations l → (side : Side) (s : Shape) → ((cs : CompTrees) (p : PrimitiveTree) → translate_one form side (hold_comp s cs) p ≡ held l side s cs p)
    → (cs : CompTrees) (x : Place) (u v : WordTree)
    → in_normal_form (held l side s cs (modify x (joined u v))) ≡ in_normal_form (in_order (held l side s cs (modify x u)) (λ d. translate_one form side d (modify x v)))
held-mod form l h side s is cs x u v = go (nat_eq (comp_count cs) (size_of s)) refl (place_of s x) refl
  where
    second : nat_eq (comp_count cs) (size_of s) ≡ true → (i : ℕ) → place_of s x ≡ Some i → (r : Translated) → translate l side (comp_at cs i) u ≡ Some r
        → translate_one form side (hold_comp s (put_comp cs i r.1)) (modify x v) ≡ option_map (at_item x s (put_comp cs i r.1) i) (translate l side r.1 v)
    second e i f r g =
        is (put_comp cs i r.1) (modify x v)
        ∙ rw (put-count cs i r.1, e, f) (ap (λ c. option_map (at_item x s (put_comp cs i r.1) i) (translate l side c v)) (put-at cs i r.1 (λ n. nil-word l side u (comp_at cs i) r n g)))

    go : (b : Bool) → nat_eq (comp_count cs) (size_of s) ≡ b → (o : Option ℕ) → place_of s x ≡ o
        → in_normal_form (cond b (option_and_then (λ i. option_map (at_item x s cs i) (translate l side (comp_at cs i) (joined u v))) o) None)
        ≡ in_normal_form (in_order (cond b (option_and_then (λ i. option_map (at_item x s cs i) (translate l side (comp_at cs i) u)) o) None) (λ d. translate_one form side d (modify x v)))
    go false e o f = refl
    go true e None f = refl
    go true e (Some i) f =
        ap (λ o. in_normal_form (option_map (at_item x s cs i) o)) (in_parts (translate_one l side) (comp_at cs i) u v)
        ∙ at_item-order x s cs i (translate l side (comp_at cs i) u) (λ d. translate l side d v) (λ d. translate_one form side d (modify x v)) (λ r g. second e i f r g)

-- no other primitives of a container merge
no_other : (l : FormTree) (side : Side) (s : Shape) (cs : CompTrees) (p : PrimitiveTree) → held_row (one_by_one (translate_one l side)) (missing l) s cs p ≡ None → held l side s cs p ≡ None
no_other l side s cs p e = go (nat_eq (comp_count cs) (size_of s))
  where
    go : (b : Bool) → cond b (held_row (one_by_one (translate_one l side)) (missing l) s cs p) None ≡ None
    go true = e
    go false = refl

held-none : (l : FormTree) (side : Side) (s : Shape) (cs : CompTrees) (p r : PrimitiveTree) (k : CompTree → Option Translated) → held l side s cs r ≡ None → held l side s cs p ≡ None
    → in_normal_form (held l side s cs r) ≡ in_normal_form (in_order (held l side s cs p) k)
held-none l side s cs p r k e f = rw (e, f) refl

held-two : (form l : FormTree) → KeepsEquations l → (side : Side) (s : Shape) → ((cs : CompTrees) (p : PrimitiveTree) → translate_one form side (hold_comp s cs) p ≡ held l side s cs p)
    → (cs : CompTrees) (p q r : PrimitiveTree) → merge p q ≡ Some r
    → in_normal_form (held l side s cs r) ≡ in_normal_form (in_order (held l side s cs p) (λ d. translate_one form side d q))
held-two form l h side s is cs p q r e = merge-cases
    (λ p q r. in_normal_form (held l side s cs r) ≡ in_normal_form (in_order (held l side s cs p) (λ d. translate_one form side d q)))
    (λ f u v. held-none l side s cs (at f u) (at f (joined u v)) (λ d. translate_one form side d (at f v)) (no_other l side s cs (at f (joined u v)) refl) (no_other l side s cs (at f u) refl))
    (λ f u v. held-none l side s cs (stay f u) (stay f (joined u v)) (λ d. translate_one form side d (stay f v)) (no_other l side s cs (stay f (joined u v)) refl) (no_other l side s cs (stay f u) refl))
    (λ x u v. held-mod form l h side s is cs x u v)
    (λ m n u v. held-none l side s cs (switch m n u) (switch m n (joined u v)) (λ d. translate_one form side d (stay n v)) (no_other l side s cs (switch m n (joined u v)) refl) (no_other l side s cs (switch m n u) refl))
    p q r e

each-one : (l : FormTree) → KeepsEquations l → (side : Side) (c : CompTree) (p : PrimitiveTree) → in_normal_form (translate_one (form_each l) side c (normalized_one p)) ≡ in_normal_form (translate_one (form_each l) side c p)
each-one l h side (hold_comp (ListOf s) cs) p = held-one l h side (ListOf s) cs p
each-one l h side _ p = refl

each-two : (l : FormTree) → KeepsEquations l → (side : Side) (c : CompTree) (p q r : PrimitiveTree) → merge p q ≡ Some r
    → in_normal_form (translate_one (form_each l) side c r) ≡ in_normal_form (in_order (translate_one (form_each l) side c p) (λ d. translate_one (form_each l) side d q))
each-two l h side (hold_comp (ListOf s) cs) p q r e = held-two (form_each l) l h side (ListOf s) (λ cs p. refl) cs p q r e
each-two l h side _ p q r e = refl

keyed-one : (l : FormTree) → KeepsEquations l → (side : Side) (c : CompTree) (p : PrimitiveTree) → in_normal_form (translate_one (form_keyed l) side c (normalized_one p)) ≡ in_normal_form (translate_one (form_keyed l) side c p)
keyed-one l h side (hold_comp (KeyedOf s) cs) p = held-one l h side (KeyedOf s) cs p
keyed-one l h side _ p = refl

keyed-two : (l : FormTree) → KeepsEquations l → (side : Side) (c : CompTree) (p q r : PrimitiveTree) → merge p q ≡ Some r
    → in_normal_form (translate_one (form_keyed l) side c r) ≡ in_normal_form (in_order (translate_one (form_keyed l) side c p) (λ d. translate_one (form_keyed l) side d q))
keyed-two l h side (hold_comp (KeyedOf s) cs) p q r e = held-two (form_keyed l) l h side (KeyedOf s) (λ cs p. refl) cs p q r e
keyed-two l h side _ p q r e = refl

ordered-one : (l : FormTree) → KeepsEquations l → (side : Side) (c : CompTree) (p : PrimitiveTree) → in_normal_form (translate_one (form_ordered l) side c (normalized_one p)) ≡ in_normal_form (translate_one (form_ordered l) side c p)
ordered-one l h side (hold_comp (TreeOf s) cs) p = held-one l h side (TreeOf s) cs p
ordered-one l h side _ p = refl

ordered-two : (l : FormTree) → KeepsEquations l → (side : Side) (c : CompTree) (p q r : PrimitiveTree) → merge p q ≡ Some r
    → in_normal_form (translate_one (form_ordered l) side c r) ≡ in_normal_form (in_order (translate_one (form_ordered l) side c p) (λ d. translate_one (form_ordered l) side d q))
ordered-two l h side (hold_comp (TreeOf s) cs) p q r e = held-two (form_ordered l) l h side (TreeOf s) (λ cs p. refl) cs p q r e
ordered-two l h side _ p q r e = refl

pub list_keeps : (l : FormTree) → KeepsEquations l → KeepsEquations (form_each l)
list_keeps l h = owed-form (form_each l) (λ side. record { ones = λ c p. each-one l h side c p; pairs = λ c p q r e. each-two l h side c p q r e })

pub keyed_keeps : (l : FormTree) → KeepsEquations l → KeepsEquations (form_keyed l)
keyed_keeps l h = owed-form (form_keyed l) (λ side. record { ones = λ c p. keyed-one l h side c p; pairs = λ c p q r e. keyed-two l h side c p q r e })

pub tree_keeps : (l : FormTree) → KeepsEquations l → KeepsEquations (form_ordered l)
tree_keeps l h = owed-form (form_ordered l) (λ side. record { ones = λ c p. ordered-one l h side c p; pairs = λ c p q r e. ordered-two l h side c p q r e })

pub ruleset container_keep = (list_keeps, keyed_keeps, tree_keeps)

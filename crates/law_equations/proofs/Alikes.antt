-- What a translation of one primitive owes so that equal words are translated alike: a primitive with a normal inner word is
-- translated alike, and so are two primitives that merge, and the merged one.
use Rattle.std.proofs.Common.{◌≡◌, refl, sym, ap, ap₂, Option, None, Some, option_map, ◌∙◌}
use Rattle.std.specs.Prelude.{option_and_then}
use Rattle.texts.specs.declared.side.Side.{Side}
use Rattle.edit_module.specs.Words.{PrimitiveTree, WordTree, no_primitives, more_primitives, joined}
use Rattle.edit_module.specs.Normal.{merge, placed, merged_onto, inside, inside_each}
use Rattle.edit_module.proofs.Words.{joined_assoc}
use Rattle.lens_forms.specs.Forms.{FormTree}
use Rattle.lens_core.specs.Complements.{CompTree}
use Rattle.lens_core.specs.Emitted.{one, behind, one_by_one}
use Rattle.lens_core.specs.Translation.{Translated, translate_one, translate}
use Rattle.law_equations.specs.Alike.{AreAlike, KeepsEquations}
use Rattle.law_equations.proofs.Glue.{glue, put_on, normalized, normalized_one, normalized_joined}
use Rattle.law_equations.proofs.Normals.{normalized_one-inside, normalized-merge, normalized-merged, normalized_one-again, normal-normalized}

-- ---- what was translated, with its word in normal form

abbrev pub word_normalized : {C : Type 0} → WordTree × C → WordTree × C
word_normalized r = (normalized r.0, r.1)

abbrev pub in_normal_form : {C : Type 0} → Option (WordTree × C) → Option (WordTree × C)
in_normal_form o = option_map word_normalized o

-- one translation after another
abbrev pub then_on : {C D : Type 0} → (C → Option (WordTree × D)) → WordTree × C → Option (WordTree × D)
then_on k r = option_map (behind r.0) (k r.1)

abbrev pub in_order : {C D : Type 0} → Option (WordTree × C) → (C → Option (WordTree × D)) → Option (WordTree × D)
in_order o k = option_and_then (then_on k) o

pub same-parts : {C : Type 0} → (q r : WordTree × C) → in_normal_form (Some q) ≡ in_normal_form (Some r) → (normalized q.0 ≡ normalized r.0) × (q.1 ≡ r.1)
same-parts q r e =
    let same : word_normalized q ≡ word_normalized r = cc in
    (ap (λ z. z.0) same, ap (λ z. z.1) same)

pub normalized_joined-same : (a b u v : WordTree) → normalized a ≡ normalized b → normalized u ≡ normalized v → normalized (joined a u) ≡ normalized (joined b v)
normalized_joined-same a b u v e f = normalized_joined a u ∙ ap₂ glue e f ∙ sym (normalized_joined b v)

behind-same : {C : Type 0} → (a b : WordTree) (o p : Option (WordTree × C)) → normalized a ≡ normalized b → in_normal_form o ≡ in_normal_form p → in_normal_form (option_map (behind a) o) ≡ in_normal_form (option_map (behind b) p)
behind-same a b None None e f = refl
behind-same a b None (Some q) e f = cc
behind-same a b (Some q) None e f = cc
behind-same a b (Some q) (Some r) e f =
    let words = (same-parts q r f).0 in
    let after = (same-parts q r f).1 in
    ap₂ (λ w c. Some (w, c)) (normalized_joined-same a b q.0 r.0 e words) after

-- what comes second may depend on what came first
pub in_order-given : {C D : Type 0} → (o p : Option (WordTree × C)) (k l : C → Option (WordTree × D)) → in_normal_form o ≡ in_normal_form p
    → ((r : WordTree × C) → p ≡ Some r → in_normal_form (k r.1) ≡ in_normal_form (l r.1)) → in_normal_form (in_order o k) ≡ in_normal_form (in_order p l)
in_order-given None None k l e h = refl
in_order-given None (Some q) k l e h = cc
in_order-given (Some q) None k l e h = cc
in_order-given (Some q) (Some r) k l e h =
    let words = (same-parts q r e).0 in
    let after = (same-parts q r e).1 in
    behind-same q.0 r.0 (k q.1) (l r.1) words (ap (λ c. in_normal_form (k c)) after ∙ h r refl)

pub in_order-same : {C D : Type 0} → (o p : Option (WordTree × C)) (k l : C → Option (WordTree × D)) → in_normal_form o ≡ in_normal_form p → ((c : C) → in_normal_form (k c) ≡ in_normal_form (l c))
    → in_normal_form (in_order o k) ≡ in_normal_form (in_order p l)
in_order-same o p k l e h = in_order-given o p k l e (λ r f. h r.1)

behind-behind : {C : Type 0} → (u v : WordTree) (o : Option (WordTree × C)) → option_map (behind u) (option_map (behind v) o) ≡ option_map (behind (joined u v)) o
behind-behind u v None = refl
behind-behind u v (Some r) = ap (λ z. Some (z, r.1)) (sym (joined_assoc u v r.0))

behind-in_order : {C D : Type 0} → (u : WordTree) (o : Option (WordTree × C)) (k : C → Option (WordTree × D)) → option_map (behind u) (in_order o k) ≡ in_order (option_map (behind u) o) k
behind-in_order u None k = refl
behind-in_order u (Some r) k = behind-behind u r.0 (k r.1)

pub in_order-again : {C D E : Type 0} → (o : Option (WordTree × C)) (k : C → Option (WordTree × D)) (l : D → Option (WordTree × E)) → in_order (in_order o k) l ≡ in_order o (λ c. in_order (k c) l)
in_order-again None k l = refl
in_order-again (Some r) k l = sym (behind-in_order r.0 (k r.1) l)

in_order-exact : {C D : Type 0} → (o : Option (WordTree × C)) (k l : C → Option (WordTree × D)) → ((c : C) → k c ≡ l c) → in_order o k ≡ in_order o l
in_order-exact None k l h = refl
in_order-exact (Some r) k l h = ap (option_map (behind r.0)) (h r.1)

-- a joined word is translated part by part
pub in_parts : {C : Type 0} → (rule : C → PrimitiveTree → Option (WordTree × C)) (c : C) (u w : WordTree) → one_by_one rule c (joined u w) ≡ in_order (one_by_one rule c u) (λ d. one_by_one rule d w)
in_parts {C = C} rule c no_primitives w = alone (one_by_one rule c w)
  where
    alone : (o : Option (WordTree × C)) → o ≡ option_map (behind no_primitives) o
    alone None = refl
    alone (Some r) = refl
in_parts rule c (more_primitives p u) w =
    in_order-exact (rule c p) (λ d. one_by_one rule d (joined u w)) (λ d. in_order (one_by_one rule d u) (λ e. one_by_one rule e w)) (λ d. in_parts rule d u w)
    ∙ sym (in_order-again (rule c p) (λ d. one_by_one rule d u) (λ e. one_by_one rule e w))

-- ---- what a translation owes

pub record Owed (C : Type 0) (rule : C → PrimitiveTree → Option (WordTree × C)) : Type 0 where
  pub ones : (c : C) (p : PrimitiveTree) → in_normal_form (rule c (normalized_one p)) ≡ in_normal_form (rule c p)
  pub pairs : (c : C) (p q r : PrimitiveTree) → merge p q ≡ Some r → in_normal_form (rule c r) ≡ in_normal_form (in_order (rule c p) (λ d. rule d q))

-- equal words are translated alike
abbrev pub Keeps : {C : Type 0} → (C → PrimitiveTree → Option (WordTree × C)) → Type 0
Keeps {C} rule = (c : C) (u w : WordTree) → normalized u ≡ normalized w → in_normal_form (one_by_one rule c u) ≡ in_normal_form (one_by_one rule c w)

placed-alike : {C : Type 0} → (rule : C → PrimitiveTree → Option (WordTree × C)) → Owed C rule → (w : WordTree) (p q : PrimitiveTree) (c : C) (o : Option PrimitiveTree) → merge p q ≡ o
    → ((d : C) (r : PrimitiveTree) → in_normal_form (one_by_one rule d (merged_onto r w)) ≡ in_normal_form (one_by_one rule d (more_primitives r w)))
    → in_normal_form (one_by_one rule c (placed o p q (λ r. merged_onto r w))) ≡ in_normal_form (one_by_one rule c (more_primitives p (more_primitives q w)))
placed-alike rule owed w p q c None e h =
    in_order-same (rule c p) (rule c p) (λ d. one_by_one rule d (merged_onto q w)) (λ d. one_by_one rule d (more_primitives q w)) refl (λ d. h d q)
placed-alike rule owed w p q c (Some r) e h =
    h c r
    ∙ in_order-same (rule c r) (in_order (rule c p) (λ d. rule d q)) (λ d. one_by_one rule d w) (λ d. one_by_one rule d w) (owed.pairs c p q r e) (λ d. refl)
    ∙ ap in_normal_form (in_order-again (rule c p) (λ d. rule d q) (λ d. one_by_one rule d w))

merged-alike : {C : Type 0} → (rule : C → PrimitiveTree → Option (WordTree × C)) → Owed C rule → (w : WordTree) (p : PrimitiveTree) (c : C)
    → in_normal_form (one_by_one rule c (merged_onto p w)) ≡ in_normal_form (one_by_one rule c (more_primitives p w))
merged-alike rule owed no_primitives p c = refl
merged-alike rule owed (more_primitives q w) p c = placed-alike rule owed w p q c (merge p q) refl (λ d r. merged-alike rule owed w r d)

inside-alike : {C : Type 0} → (rule : C → PrimitiveTree → Option (WordTree × C)) → Owed C rule → (w : WordTree) (c : C)
    → in_normal_form (one_by_one rule c (inside_each normalized w)) ≡ in_normal_form (one_by_one rule c w)
inside-alike rule owed no_primitives c = refl
inside-alike rule owed (more_primitives p w) c =
    in_order-same (rule c (inside normalized p)) (rule c p) (λ d. one_by_one rule d (inside_each normalized w)) (λ d. one_by_one rule d w)
    (ap (λ z. in_normal_form (rule c z)) (normalized_one-inside p) ∙ owed.ones c p) (λ d. inside-alike rule owed w d)

normalized-alike : {C : Type 0} → (rule : C → PrimitiveTree → Option (WordTree × C)) → Owed C rule → (w : WordTree) (c : C) → in_normal_form (one_by_one rule c (normalized w)) ≡ in_normal_form (one_by_one rule c w)
normalized-alike rule owed no_primitives c = refl
normalized-alike rule owed (more_primitives p w) c =
    ap (λ z. in_normal_form (one_by_one rule c z)) (sym (normalized-merged (more_primitives p w))) ∙ inside-alike rule owed (merged_onto p w) c ∙ merged-alike rule owed w p c

pub owed-keeps : {C : Type 0} → (rule : C → PrimitiveTree → Option (WordTree × C)) → Owed C rule → Keeps rule
owed-keeps rule owed c u w e = sym (normalized-alike rule owed u c) ∙ ap (λ z. in_normal_form (one_by_one rule c z)) e ∙ normalized-alike rule owed w c

-- ---- of a form

pub alike-same : (o p : Option Translated) → AreAlike o p → in_normal_form o ≡ in_normal_form p
alike-same None None h = refl
alike-same None (Some r) h = elim h [ ]
alike-same (Some q) None h = elim h [ ]
alike-same (Some q) (Some r) h = ap₂ (λ w c. Some (w, c)) (sym (normal-normalized q.0) ∙ h.0 ∙ normal-normalized r.0) h.1

pub same-alike : (o p : Option Translated) → in_normal_form o ≡ in_normal_form p → AreAlike o p
same-alike None None h = tt
same-alike None (Some r) h = cc
same-alike (Some q) None h = cc
same-alike (Some q) (Some r) h =
    let words = (same-parts q r h).0 in
    let after = (same-parts q r h).1 in
    (normal-normalized q.0 ∙ words ∙ sym (normal-normalized r.0), after)

pub keeps-form : (l : FormTree) → ((side : Side) → Keeps (translate_one l side)) → KeepsEquations l
keeps-form l h side c u w e = same-alike (translate l side c u) (translate l side c w) (h side c u w (sym (normal-normalized u) ∙ e ∙ normal-normalized w))

pub form-keeps : (l : FormTree) → KeepsEquations l → (side : Side) → Keeps (translate_one l side)
form-keeps l h side c u w e = alike-same (translate l side c u) (translate l side c w) (h side c u w (normal-normalized u ∙ e ∙ sym (normal-normalized w)))

pub owed-form : (l : FormTree) → ((side : Side) → Owed CompTree (translate_one l side)) → KeepsEquations l
owed-form l h = keeps-form l (λ side. owed-keeps (translate_one l side) (h side))

-- ---- of words of one primitive

pub normalized-one : (p : PrimitiveTree) → normalized (one (normalized_one p)) ≡ normalized (one p)
normalized-one p = ap (λ z. put_on z no_primitives) (normalized_one-again p)

pub normalized-two : (p q r : PrimitiveTree) → merge p q ≡ Some r → normalized (one r) ≡ normalized (more_primitives p (one q))
normalized-two p q r e = normalized-merge p q r e no_primitives

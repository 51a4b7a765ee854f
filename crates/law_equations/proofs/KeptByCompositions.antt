-- Inverses and compositions keep the equations.
use Rattle.std.proofs.Common.{◌≡◌, refl, sym, ap, ap₂, Option, None, Some, option_map, ◌∙◌}
use Rattle.std.specs.Prelude.{option_and_then}
use Rattle.texts.specs.declared.side.Side.{Side}
use Rattle.texts.specs.declared.side.Side.TheVariants.{Left, Right}
use Rattle.texts.specs.Sides.{other}
use Rattle.edit_module.specs.Words.{PrimitiveTree, WordTree, no_primitives, more_primitives}
use Rattle.edit_module.specs.Normal.{merge}
use Rattle.lens_forms.specs.Forms.{FormTree, form_then, form_inv}
use Rattle.lens_core.specs.Complements.{CompTree, then_comp}
use Rattle.lens_core.specs.Emitted.{one, behind, one_by_one}
use Rattle.lens_core.specs.Translation.{Translated, onward, translate_one, translate}
use Rattle.law_equations.specs.Alike.{AreAlike, KeepsEquations}
use Rattle.law_equations.proofs.Glue.{normalized, normalized_one}
use Rattle.law_equations.proofs.Alikes.{in_normal_form, same-parts, in_order, in_order-same, in_parts, Keeps, form-keeps, owed-form, normalized-one, normalized-two}
use Rattle.edit_module.proofs.JoinedWords.{joined_nothing}

-- ---- an inverse

pub inverse_keeps : (l : FormTree) → KeepsEquations l → KeepsEquations (form_inv l)
inverse_keeps l h side c u w e = inv-same l side c u w (h (other side) c u w e)
  where
    inv-same : (l : FormTree) (side : Side) (c : CompTree) (u w : WordTree) → AreAlike (translate l (other side) c u) (translate l (other side) c w) → AreAlike (translate (form_inv l) side c u) (translate (form_inv l) side c w)
    inv-same l side c u w h = h

-- ---- a composition

abbrev pub Rule : Type 0
Rule = CompTree → PrimitiveTree → Option Translated

-- what the first lens gives, translated by the second
abbrev through : Rule → CompTree → (CompTree → CompTree → CompTree) → Option Translated → Option Translated
through rule d pack o = option_and_then (onward (one_by_one rule) d pack) o

packed-same : (pack : CompTree → CompTree → CompTree) (c : CompTree) (o p : Option Translated) → in_normal_form o ≡ in_normal_form p
    → in_normal_form (option_map (λ q. (q.0, pack c q.1)) o) ≡ in_normal_form (option_map (λ q. (q.0, pack c q.1)) p)
packed-same pack c None None e = refl
packed-same pack c None (Some q) e = cc
packed-same pack c (Some q) None e = cc
packed-same pack c (Some q) (Some r) e =
    let words = (same-parts q r e).0 in
    let after = (same-parts q r e).1 in
    ap₂ (λ w x. Some (w, pack c x)) words after

through-same : (rule : Rule) → Keeps rule → (d : CompTree) (pack : CompTree → CompTree → CompTree) (o p : Option Translated) → in_normal_form o ≡ in_normal_form p → in_normal_form (through rule d pack o) ≡ in_normal_form (through rule d pack p)
through-same rule h d pack None None e = refl
through-same rule h d pack None (Some q) e = cc
through-same rule h d pack (Some q) None e = cc
through-same rule h d pack (Some q) (Some r) e =
    let words = (same-parts q r e).0 in
    let after = (same-parts q r e).1 in
    ap (λ c. in_normal_form (option_map (λ x. (x.0, pack c x.1)) (one_by_one rule d q.0))) after
    ∙ packed-same pack r.1 (one_by_one rule d q.0) (one_by_one rule d r.0) (h d q.0 r.0 words)

-- one translation after another, through the second lens
through-order : (rule : Rule) (d : CompTree) (pack : CompTree → CompTree → CompTree) (o : Option Translated) (k next : CompTree → Option Translated)
    → ((c x : CompTree) → next (pack c x) ≡ through rule x pack (k c)) → through rule d pack (in_order o k) ≡ in_order (through rule d pack o) next
through-order rule d pack None k next h = refl
through-order rule d pack (Some r) k next h = second (k r.1) (λ x. h r.1 x)
  where
    packed-behind : (w : WordTree) (c : CompTree) (o : Option Translated)
        → option_map (λ q. (q.0, pack c q.1)) (option_map (behind w) o) ≡ option_map (behind w) (option_map (λ q. (q.0, pack c q.1)) o)
    packed-behind w c None = refl
    packed-behind w c (Some q) = refl

    none : (o : Option Translated) → ((x : CompTree) → next (pack r.1 x) ≡ None) → None ≡ in_order (option_map (λ q. (q.0, pack r.1 q.1)) o) next
    none None e = refl
    none (Some q) e = rw (e q.1) refl

    some : (s : Translated) (o : Option Translated) → ((x : CompTree) → next (pack r.1 x) ≡ option_map (λ q. (q.0, pack s.1 q.1)) (one_by_one rule x s.0))
        → option_map (λ q. (q.0, pack s.1 q.1)) (in_order o (λ x. one_by_one rule x s.0)) ≡ in_order (option_map (λ q. (q.0, pack r.1 q.1)) o) next
    some s None e = refl
    some s (Some q) e = rw (e q.1) (packed-behind q.0 s.1 (one_by_one rule q.1 s.0))

    second : (o : Option Translated) → ((x : CompTree) → next (pack r.1 x) ≡ through rule x pack o)
        → through rule d pack (option_map (behind r.0) o) ≡ in_order (option_map (λ q. (q.0, pack r.1 q.1)) (one_by_one rule d r.0)) next
    second None e = none (one_by_one rule d r.0) e
    second (Some s) e =
        ap (option_map (λ q. (q.0, pack s.1 q.1))) (in_parts rule d r.0 s.0) ∙ some s (one_by_one rule d r.0) e

-- what is kept for words is kept for one primitive and for two
alone : (o : Option Translated) → in_normal_form (in_order o (λ d. Some (no_primitives, d))) ≡ in_normal_form o
alone None = refl
alone (Some r) = ap (λ w. Some (normalized w, r.1)) (joined_nothing r.0)

keeps-one : (rule : Rule) → Keeps rule → (c : CompTree) (p q : PrimitiveTree) → normalized (one p) ≡ normalized (one q) → in_normal_form (rule c p) ≡ in_normal_form (rule c q)
keeps-one rule h c p q e = sym (alone (rule c p)) ∙ h c (one p) (one q) e ∙ alone (rule c q)

keeps-two : (rule : Rule) → Keeps rule → (c : CompTree) (p q r : PrimitiveTree) → merge p q ≡ Some r → in_normal_form (rule c r) ≡ in_normal_form (in_order (rule c p) (λ d. rule d q))
keeps-two rule h c p q r e =
    sym (alone (rule c r)) ∙ h c (one r) (more_primitives p (one q)) (normalized-two p q r e)
    ∙ in_order-same (rule c p) (rule c p) (λ d. one_by_one rule d (one q)) (λ d. rule d q) refl (λ d. alone (rule d q))

then-one : (l k : FormTree) → ((s : Side) → Keeps (translate_one l s)) → ((s : Side) → Keeps (translate_one k s)) → (s : Side) (c : CompTree) (p : PrimitiveTree)
    → in_normal_form (translate_one (form_then l k) s c (normalized_one p)) ≡ in_normal_form (translate_one (form_then l k) s c p)
then-one l k hl hk Left (then_comp c d) p =
    through-same (translate_one k Left) (hk Left) d (λ x y. then_comp x y) (translate_one l Left c (normalized_one p)) (translate_one l Left c p) (keeps-one (translate_one l Left) (hl Left) c (normalized_one p) p (normalized-one p))
then-one l k hl hk Right (then_comp c d) p =
    through-same (translate_one l Right) (hl Right) c (λ y x. then_comp x y) (translate_one k Right d (normalized_one p)) (translate_one k Right d p) (keeps-one (translate_one k Right) (hk Right) d (normalized_one p) p (normalized-one p))
then-one l k hl hk Left _ p = refl
then-one l k hl hk Right _ p = refl

then-two : (l k : FormTree) → ((s : Side) → Keeps (translate_one l s)) → ((s : Side) → Keeps (translate_one k s)) → (s : Side) (c : CompTree) (p q r : PrimitiveTree) → merge p q ≡ Some r
    → in_normal_form (translate_one (form_then l k) s c r) ≡ in_normal_form (in_order (translate_one (form_then l k) s c p) (λ d. translate_one (form_then l k) s d q))
then-two l k hl hk Left (then_comp c d) p q r e =
    through-same (translate_one k Left) (hk Left) d (λ x y. then_comp x y) (translate_one l Left c r) (in_order (translate_one l Left c p) (λ x. translate_one l Left x q))
    (keeps-two (translate_one l Left) (hl Left) c p q r e)
    ∙ ap in_normal_form (through-order (translate_one k Left) d (λ x y. then_comp x y) (translate_one l Left c p) (λ x. translate_one l Left x q) (λ x. translate_one (form_then l k) Left x q) (λ c x. refl))
then-two l k hl hk Right (then_comp c d) p q r e =
    through-same (translate_one l Right) (hl Right) c (λ y x. then_comp x y) (translate_one k Right d r) (in_order (translate_one k Right d p) (λ x. translate_one k Right x q))
    (keeps-two (translate_one k Right) (hk Right) d p q r e)
    ∙ ap in_normal_form (through-order (translate_one l Right) c (λ y x. then_comp x y) (translate_one k Right d p) (λ x. translate_one k Right x q) (λ x. translate_one (form_then l k) Right x q) (λ c x. refl))
then-two l k hl hk Left _ p q r e = refl
then-two l k hl hk Right _ p q r e = refl

pub composition_keeps : (l k : FormTree) → KeepsEquations l → KeepsEquations k → KeepsEquations (form_then l k)
composition_keeps l k hl hk = owed-form (form_then l k) (λ side. record {
  ones = λ c p. then-one l k (λ s. form-keeps l hl s) (λ s. form-keeps k hk s) side c p;
  pairs = λ c p q r e. then-two l k (λ s. form-keeps l hl s) (λ s. form-keeps k hk s) side c p q r e;
})

-- From the tests and the image to consistency.
use Rattle.std.proofs.Common.{◌≡◌, Bool, true, false, ◌&&◌, Option, None, Some, option_map, sym, ◌∙◌, subst}
use Rattle.std.specs.Prelude.{◌↔◌, IsTrue, MatchOption}
use Rattle.texts.proofs.Conjunction.{first, second, both}
use Rattle.texts.specs.declared.side.Side.{Side}
use Rattle.texts.specs.declared.side.Side.TheVariants.{Left}
use Rattle.doc_values.specs.Documents.{DocTree}
use Rattle.doc_values.specs.Typing.{has}
use Rattle.lens_forms.specs.Forms.{FormTree, left_type, right_type}
use Rattle.lens_forms.specs.Typing.{is_typed}
use Rattle.lens_core.specs.Sides.{type_on}
use Rattle.lens_core.specs.Complements.{CompTree, Fits}
use Rattle.lens_core.specs.Consistency.{IsConsistent}
use Rattle.law_images.specs.Patterns.{PatternTree, Matches, is_of_type, pattern_of, pattern_tree}
use Rattle.law_images.specs.Image.{image}
use Rattle.law_images.specs.declared.pattern.Pattern.{Pattern}
use Rattle.law_images.specs.ImageLaws.{IsExactImage}
use Rattle.law_images.proofs.ExactImages.{decides_consistency, images_are_exact}
use Rattle.law_images.proofs.TypedPatterns.{match_self, pattern_typed}
use Rattle.lens_check.specs.TypedTriples.{AreTyped}
use Rattle.law_images.proofs.PatternsOfItems.{same_pattern}

-- the three tests
pub typed_test : (a f b : Bool) (l : FormTree) (x : DocTree) (c : CompTree) (y : DocTree) → a ≡ has (left_type l) x → (IsTrue f ↔ Fits l c) → b ≡ has (right_type l) y
    → IsTrue (a && (f && b)) ↔ AreTyped l x c y
typed_test a f b l x c y p q r = (
  (λ h. record {
    left_has = sym p ∙ first a (f && b) h;
    comp_fits = q.0 (first f b (second a (f && b) h));
    right_has = sym r ∙ second f b (second a (f && b) h);
  }),
  (λ t. both a (f && b) (p ∙ t.left_has) (both f b (q.1 t.comp_fits) (r ∙ t.right_has))),
)

-- what is not typed is not consistent
pub not_typed : (l : FormTree) (x : DocTree) (c : CompTree) (y : DocTree) → is_typed l ≡ true → (AreTyped l x c y → ⊥) → IsTrue false ↔ IsConsistent l x c y
not_typed l x c y t h =
    ((λ e. cc), (λ k. let i = (decides_consistency l t).judged x c y k in absurd (h (record { left_has = i.0; comp_fits = i.1; right_has = i.4.0 }))))

-- the pattern of a document is of the document's type
pub whole_typed : (t : FormTree) (x : DocTree) → has (left_type t) x ≡ true → is_of_type (pattern_of x) (type_on Left t) ≡ true
whole_typed l x h = pattern_typed (pattern_of x) (left_type l) x h (match_self x)

-- without an image nothing is consistent
pub no_image : (l : FormTree) (x : DocTree) (c : CompTree) (y : DocTree) → is_typed l ≡ true → image l Left c (pattern_of x) ≡ None → IsTrue false ↔ IsConsistent l x c y
no_image l x c y t e = ((λ h. cc), (λ k. let i = (decides_consistency l t).judged x c y k in let n : None ≡ Some i.2 = sym e ∙ i.3 in cc))

-- with an image it is asked whether the right document is in it
pub in_image : (b : Bool) (l : FormTree) (x : DocTree) (c : CompTree) (y : DocTree) (q : PatternTree) → is_typed l ≡ true → AreTyped l x c y
    → image l Left c (pattern_of x) ≡ Some q → (IsTrue b ↔ Matches q y) → IsTrue b ↔ IsConsistent l x c y
in_image b l x c y q t a e m = (
  (λ h. (decides_consistency l t).consistent x c y (a.left_has, a.comp_fits, q, e, (a.right_has, m.0 h))),
  (λ k.
      let i = (decides_consistency l t).judged x c y k in
      m.1 (subst (λ p. Matches p y) (same_pattern i.2 q (sym i.3 ∙ e)) i.4.1)),
)

-- both cases, as a call of `image` gives them
pub judged_by_image : (b : Bool) (l : FormTree) (x : DocTree) (c : CompTree) (y : DocTree) (o : Option Pattern) → is_typed l ≡ true → AreTyped l x c y
    → option_map pattern_tree o ≡ image l Left c (pattern_of x) → MatchOption o (b ≡ false) (λ p. IsTrue b ↔ Matches (pattern_tree p) y) → IsTrue b ↔ IsConsistent l x c y
judged_by_image b l x c y None t a e m = rw m (no_image l x c y t (sym e))
judged_by_image b l x c y (Some p) t a e m = in_image b l x c y (pattern_tree p) t a (sym e) m

-- the image is exact
pub exact_image : (l : FormTree) (s : Side) (c : CompTree) (p : PatternTree) (o : Option PatternTree) → is_typed l ≡ true → Fits l c → is_of_type p (type_on s l) ≡ true
    → o ≡ image l s c p → IsExactImage l s c p o
exact_image l s c p o t f h e = subst (λ z. IsExactImage l s c p z) (sym e) (images_are_exact l t s c p f h)

pub ruleset decision_rules = (not_typed, whole_typed, exact_image)

-- The test of consistency is true if and only if the three are consistent.
-- Lemmas, which stand here since the laws of an `impl` cite them.
use Rattle.std.proofs.Common.{◌≡◌, Bool, true, false, ◌&&◌, Option, None, Some, Result, Ok, Err, IfOk, refl}
use Rattle.std.specs.Prelude.{◌↔◌, IsTrue}
use Rattle.texts.proofs.Conjunction.{first, second, both}
use Rattle.texts.specs.declared.side.Side.TheVariants.{Left}
use Rattle.doc_values.specs.Documents.{DocTree}
use Rattle.doc_values.specs.Typing.{has}
use Rattle.lens_forms.specs.Forms.{FormTree, left_type, right_type}
use Rattle.lens_forms.specs.Typing.{is_typed}
use Rattle.lens_core.specs.Complements.{CompTree}
use Rattle.lens_core.specs.Consistency.{IsConsistent}
use Rattle.law_images.specs.Patterns.{PatternTree, pattern_of}
use Rattle.law_images.specs.Image.{image}
use Rattle.law_images.proofs.ExactImages.{decides_consistency}
use Rattle.lens_check.specs.FitTest.{fits}
use Rattle.lens_check.specs.MatchTest.{is_match}
use Rattle.lens_check.specs.TypedTriples.{AreTyped}
use Rattle.lens_check.proofs.Decisions.{no_image, in_image}
use Rattle.lens_check.proofs.FitTests.{fit_passes, passes_fit}
use Rattle.lens_check.proofs.MatchTests.{match_test}
use Rattle.store_session.specs.ConsistencyTest.{is_in_image, is_consistent}

module _ (l : FormTree) (x : DocTree) (c : CompTree) (y : DocTree) (typed : is_typed l ≡ true) where
  judged : (o : Option PatternTree) → image l Left c (pattern_of x) ≡ o → AreTyped l x c y → IsTrue (is_in_image o y)
      ↔ IsConsistent l x c y
  judged None e a = no_image l x c y typed e
  judged (Some q) e a = in_image (is_match q y) l x c y q typed a e (match_test (is_match q y) q y refl)

  pub consistent_if : IsTrue (is_consistent l x c y) → IsConsistent l x c y
  consistent_if h =
      let reached = is_in_image (image l Left c (pattern_of x)) y in
      let last = second (has (left_type l) x) (fits l c && (has (right_type l) y && reached)) h in
      let end = second (fits l c) (has (right_type l) y && reached) last in
      let a : AreTyped l x c y = record {
        left_has = first (has (left_type l) x) (fits l c && (has (right_type l) y && reached)) h;
        comp_fits = passes_fit l c (first (fits l c) (has (right_type l) y && reached) last);
        right_has = first (has (right_type l) y) reached end;
      } in
      (judged (image l Left c (pattern_of x)) refl a).0 (second (has (right_type l) y) reached end)

  pub consistent_then : IsConsistent l x c y → IsTrue (is_consistent l x c y)
  consistent_then k =
      let i = (decides_consistency l typed).judged x c y k in
      let a : AreTyped l x c y = record { left_has = i.0; comp_fits = i.1; right_has = i.4.0 } in
      let reached = is_in_image (image l Left c (pattern_of x)) y in
      let end = both (has (right_type l) y) reached i.4.0 ((judged (image l Left c (pattern_of x)) refl a).1 k) in
      both (has (left_type l) x) (fits l c && (has (right_type l) y && reached)) i.0
      (both (fits l c) (has (right_type l) y && reached) (fit_passes l c i.1) end)

-- two truth values that follow from each other are the same
same_truth : (a b : Bool) → (IsTrue a → IsTrue b) → (IsTrue b → IsTrue a) → a ≡ b
same_truth true b f g = let h : b ≡ true = f refl in cc
same_truth false true f g = g refl
same_truth false false f g = refl

-- what decides consistency is the test
pub is_decided : (b : Bool) (l : FormTree) (x : DocTree) (c : CompTree) (y : DocTree) → is_typed l ≡ true
    → (IsTrue b ↔ IsConsistent l x c y) → b ≡ is_consistent l x c y
is_decided b l x c y typed k =
    same_truth b (is_consistent l x c y) (λ h. consistent_then l x c y typed (k.0 h))
    (λ h. k.1 (consistent_if l x c y typed h))

-- the same of what a call returns
pub all_decided : {E : Type 0} (r : Result Bool E) (l : FormTree) (x : DocTree) (c : CompTree) (y : DocTree)
    → is_typed l ≡ true
    → IfOk r (λ b. IsTrue b ↔ IsConsistent l x c y) → IfOk r (λ b. b ≡ is_consistent l x c y)
all_decided (Ok b) l x c y typed k = is_decided b l x c y typed k
all_decided (Err fault) l x c y typed k = k

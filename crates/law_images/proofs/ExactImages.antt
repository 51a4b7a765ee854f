-- The law of images, as a caller has it.
use Rattle.std.proofs.Common.{◌≡◌, true, Option, None, Some, refl, subst}
use Rattle.texts.specs.declared.side.Side.{Side}
use Rattle.texts.specs.declared.side.Side.TheVariants.{Left}
use Rattle.texts.specs.Sides.{other}
use Rattle.doc_values.specs.Documents.{DocTree}
use Rattle.lens_forms.specs.Forms.{FormTree}
use Rattle.lens_forms.specs.Typing.{is_typed}
use Rattle.lens_core.specs.Sides.{type_on}
use Rattle.lens_core.specs.Complements.{CompTree}
use Rattle.lens_core.specs.Consistency.{IsConsistent}
use Rattle.lens_core.proofs.LawsOfWords.{consistent_is_typed}
use Rattle.law_images.specs.Patterns.{PatternTree, pattern_of}
use Rattle.law_images.specs.Image.{image}
use Rattle.law_images.specs.ImageLaws.{IsExactImage, ImagesAreExact, IsInImage, DecidesConsistency, IsImage}
use Rattle.law_images.proofs.SidesOfTriples.{far_has, formed_on}
use Rattle.law_images.proofs.TypedPatterns.{some_document, pattern_typed, match_self, match_only}
use Rattle.law_images.proofs.ImagesOfForms.{form_images}

exact : (l : FormTree) (s : Side) (c : CompTree) (p : PatternTree) (o : Option PatternTree) → IsImage l s c p o → IsExactImage l s c p o
exact l s c p None a = λ w r. a r.0 w r.1 r.2
exact l s c p (Some q) a = record {
  of_type = pattern_typed q (type_on (other s) l) a.some_doc.0 a.some_doc.1 a.some_doc.2;
  some_document = (a.some_doc.0, a.onto a.some_doc.0 a.some_doc.1 a.some_doc.2);
  documents_are_reached = λ w m. a.onto w m.0 m.1;
  reached_are_documents = λ w r. (far_has l s r.0 c w r.2, a.into r.0 w r.1 r.2);
}

pub images_are_exact : (l : FormTree) → is_typed l ≡ true → ImagesAreExact l
images_are_exact l h s c p fit typed = exact l s c p (image l s c p) (form_images l h s c p fit (some_document p (type_on s l) (formed_on l h s) typed))

judged_by : (l : FormTree) (x : DocTree) (c : CompTree) (y : DocTree) → IsConsistent l x c y → (o : Option PatternTree) → image l Left c (pattern_of x) ≡ o → IsImage l Left c (pattern_of x) o → IsInImage l x c y
judged_by l x c y k None e a = absurd (a x y (match_self x) k)
judged_by l x c y k (Some q) e a =
    let t = consistent_is_typed l x c y k in
    (t.left_has, t.comp_fits, q, e, (t.right_has, a.into x y (match_self x) k))

pub decides_consistency : (l : FormTree) → is_typed l ≡ true → DecidesConsistency l
decides_consistency l h = record {
  judged = λ x c y k.
      let t = consistent_is_typed l x c y k in
      judged_by l x c y k (image l Left c (pattern_of x)) refl (form_images l h Left c (pattern_of x) t.comp_fits (x, t.left_has, match_self x));
  consistent = λ x c y r.
      let a = subst (λ o. IsImage l Left c (pattern_of x) o) r.3 (form_images l h Left c (pattern_of x) r.1 (x, r.0, match_self x)) in
      let v = a.onto y r.4.0 r.4.1 in
      subst (λ z. IsConsistent l z c y) (match_only x v.0 v.1) v.2;
}

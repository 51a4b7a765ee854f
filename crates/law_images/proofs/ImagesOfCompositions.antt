-- Images through inverse and composition.
use Rattle.std.proofs.Common.{◌≡◌, true, Option, None, Some, refl, sym, subst}
use Rattle.std.specs.Prelude.{option_and_then}
use Rattle.texts.specs.declared.side.Side.{Side}
use Rattle.texts.specs.declared.side.Side.TheVariants.{Left, Right}
use Rattle.texts.specs.Sides.{other}
use Rattle.doc_values.specs.Documents.{DocTree}
use Rattle.doc_values.specs.Typing.{has}
use Rattle.lens_forms.specs.Forms.{FormTree, form_inv, form_then, left_type, right_type}
use Rattle.lens_core.specs.Sides.{type_on}
use Rattle.lens_core.specs.Complements.{CompTree, nil, then_comp, rec_comp, alt_comp, hold_comp, tags_comp, Fits}
use Rattle.lens_core.specs.Laws.{IsRelated}
use Rattle.law_images.specs.Patterns.{PatternTree, HasSome}
use Rattle.law_images.specs.Image.{image}
use Rattle.law_images.specs.ImageLaws.{IsImage, ImageLaw}
use Rattle.law_images.proofs.SidesOfTriples.{near_has, far_has}

-- ---- inverse

inv_left : (l : FormTree) (c : CompTree) (p : PatternTree) (o : Option PatternTree) → IsImage l Right c p o → IsImage (form_inv l) Left c p o
inv_left l c p None a = a
inv_left l c p (Some q) a = record { some_doc = a.some_doc; into = a.into; onto = a.onto }

inv_right : (l : FormTree) (c : CompTree) (p : PatternTree) (o : Option PatternTree) → IsImage l Left c p o → IsImage (form_inv l) Right c p o
inv_right l c p None a = a
inv_right l c p (Some q) a = record { some_doc = a.some_doc; into = a.into; onto = a.onto }

pub inv_images : (l : FormTree) → ImageLaw l → ImageLaw (form_inv l)
inv_images l law Left c p fit some = inv_left l c p (image l Right c p) (law Right c p fit some)
inv_images l law Right c p fit some = inv_right l c p (image l Left c p) (law Left c p fit some)

-- ---- composition

-- the document in the middle, through the two lenses in the order of the side
record IsMiddle (l k : FormTree) (s : Side) (v : DocTree) (c d : CompTree) (w : DocTree) : Type 0 where
  middle : DocTree
  first : IsRelated l s v c middle
  second : IsRelated k s middle d w

middle_left : (l k : FormTree) (v : DocTree) (c d : CompTree) (w : DocTree) → IsRelated (form_then l k) Left v (then_comp c d) w → IsMiddle l k Left v c d w
middle_left l k v c d w h = record { middle = h.1.0; first = h.1.1; second = h.1.2 }

middle_right : (l k : FormTree) (v : DocTree) (c d : CompTree) (w : DocTree) → IsRelated (form_then l k) Right v (then_comp c d) w → IsMiddle k l Right v d c w
middle_right l k v c d w h = record { middle = h.1.0; first = h.1.2; second = h.1.1 }

-- the two steps of any form that is related exactly where the two are in turn
two_steps : (n l k : FormTree) (s : Side) (e c d : CompTree) (p : PatternTree) → type_on (other s) n ≡ type_on (other s) k → type_on (other s) l ≡ type_on s k
    → ((v w : DocTree) → IsRelated n s v e w → IsMiddle l k s v c d w) → ((v y w : DocTree) → IsRelated l s v c y → IsRelated k s y d w → IsRelated n s v e w)
    → (o : Option PatternTree) (next : PatternTree → Option PatternTree) → IsImage l s c p o → ((q : PatternTree) → HasSome (type_on s k) q → IsImage k s d q (next q))
    → IsImage n s e p (option_and_then next o)
two_steps n l k s e c d p far same apart join None next a b = λ v w m h. let r = apart v w h in a v r.middle m r.first
two_steps n l k s e c d p far same apart join (Some q) next a b = last (next q) (b q (subst (λ t. HasSome t q) same a.some_doc))
  where
    last : (o : Option PatternTree) → IsImage k s d q o → IsImage n s e p o
    last None b = λ v w m h. let r = apart v w h in b r.middle w (a.into v r.middle m r.first) r.second
    last (Some z) b = record {
      some_doc = subst (λ t. HasSome t z) (sym far) b.some_doc;
      into = λ v w m h. let r = apart v w h in b.into r.middle w (a.into v r.middle m r.first) r.second;
      onto = λ w h m.
          let y = b.onto w (subst (λ t. has t w ≡ true) far h) m in
          let x = a.onto y.0 (subst (λ t. has t y.0 ≡ true) (sym same) (near_has k s y.0 d w y.2)) y.1 in
          (x.0, x.1, join x.0 y.0 w x.2 y.2);
    }

join_left : (l k : FormTree) (c d : CompTree) (v y w : DocTree) → Fits l c → Fits k d → IsRelated l Left v c y → IsRelated k Left y d w → IsRelated (form_then l k) Left v (then_comp c d) w
join_left l k c d v y w f g a b = (record { left_has = near_has l Left v c y a; comp_fits = (f, g); right_has = far_has k Left y d w b }, (y, a, b))

join_right : (l k : FormTree) (c d : CompTree) (v y w : DocTree) → Fits l c → Fits k d → IsRelated k Right v d y → IsRelated l Right y c w → IsRelated (form_then l k) Right v (then_comp c d) w
join_right l k c d v y w f g a b = (record { left_has = far_has l Right y c w b; comp_fits = (f, g); right_has = near_has k Right v d y a }, (y, b, a))

pub then_images : (l k : FormTree) → right_type l ≡ left_type k → ImageLaw l → ImageLaw k → ImageLaw (form_then l k)
then_images l k same a b Left (then_comp c d) p fit some =
    two_steps (form_then l k) l k Left (then_comp c d) c d p refl same (λ v w h. middle_left l k v c d w h) (λ v y w f g. join_left l k c d v y w fit.0 fit.1 f g)
    (image l Left c p) (image k Left d) (a Left c p fit.0 some) (λ q h. b Left d q fit.1 h)
then_images l k same a b Right (then_comp c d) p fit some =
    two_steps (form_then l k) k l Right (then_comp c d) d c p refl (sym same) (λ v w h. middle_right l k v c d w h) (λ v y w f g. join_right l k c d v y w fit.0 fit.1 f g)
    (image k Right d p) (image l Right c) (b Right d p fit.1 some) (λ q h. a Right c q fit.0 h)
then_images l k same a b s nil p fit some = absurd fit
then_images l k same a b s (rec_comp cs) p fit some = absurd fit
then_images l k same a b s (alt_comp t c) p fit some = absurd fit
then_images l k same a b s (hold_comp r cs) p fit some = absurd fit
then_images l k same a b s (tags_comp ts) p fit some = absurd fit

-- The laws of inverse and composition, from those of the lenses inside.
use Rattle.std.proofs.Common.{◌≡◌, Some, Ok, refl, sym, subst}
use Rattle.texts.specs.declared.side.Side.{Side}
use Rattle.texts.specs.declared.side.Side.TheVariants.{Left, Right}
use Rattle.doc_values.specs.Documents.{DocTree}
use Rattle.std.proofs.Common.{true}
use Rattle.doc_values.specs.Types.{is_well_formed}
use Rattle.edit_module.specs.Words.{PrimitiveTree, WordTree}
use Rattle.doc_values.specs.Initial.{initial}
use Rattle.edit_module.specs.Action.{act, act_primitive}
use Rattle.lens_forms.specs.Forms.{FormTree, form_inv, form_then, left_type, right_type}
use Rattle.texts.specs.Sides.{other}
use Rattle.lens_core.specs.Sides.{type_on}
use Rattle.lens_core.specs.Complements.{CompTree, nil, then_comp, rec_comp, alt_comp, hold_comp, tags_comp, missing}
use Rattle.lens_core.specs.Consistency.{IsConsistent, HasMiddle}
use Rattle.lens_core.specs.Translation.{translate_one, translate}
use Rattle.lens_core.specs.Laws.{IsRelated, Carries, Laws}
use Rattle.lens_core.proofs.LawsOfWords.{edits_carry, consistent_is_typed}

-- ---- inverse

inv_carries : (l : FormTree) (s : Side) (p : PrimitiveTree) (x' : DocTree) (c : CompTree) (y : DocTree) → Carries l (other s) x' y (translate_one l (other s) c p) → Carries (form_inv l) s x' y (translate_one (form_inv l) s c p)
inv_carries l Left p x' c y k = record { word = k.word; comp = k.comp; document = k.document; carried = k.carried; acts = k.acts; consistent = k.consistent }
inv_carries l Right p x' c y k = record { word = k.word; comp = k.comp; document = k.document; carried = k.carried; acts = k.acts; consistent = k.consistent }

inv_step : (l : FormTree) → Laws l → (s : Side) (p : PrimitiveTree) (x : DocTree) (c : CompTree) (y x' : DocTree)
    → IsRelated (form_inv l) s x c y → act_primitive (type_on s (form_inv l)) p x ≡ Ok x' → Carries (form_inv l) s x' y (translate_one (form_inv l) s c p)
inv_step l laws Left p x c y x' k e = inv_carries l Left p x' c y (laws.step Right p x c y x' k e)
inv_step l laws Right p x c y x' k e = inv_carries l Right p x' c y (laws.step Left p x c y x' k e)

inv_sound : (l : FormTree) → Laws l → (s : Side) → is_well_formed (type_on s (form_inv l)) ≡ true
inv_sound l laws Left = laws.sound Right
inv_sound l laws Right = laws.sound Left

pub inv_laws : (l : FormTree) → Laws l → Laws (form_inv l)
inv_laws l laws = record { sound = inv_sound l laws; starts = laws.starts; step = inv_step l laws }

-- ---- composition

-- the lens through which the edit of a side goes first, and the one after it
abbrev first_of : Side → FormTree → FormTree → FormTree
first_of Left l k = l
first_of Right l k = k

abbrev second_of : Side → FormTree → FormTree → FormTree
second_of Left l k = k
second_of Right l k = l

-- the complement of both, from that of the first and of the second on the way of the edit
abbrev pair_of : Side → CompTree → CompTree → CompTree
pair_of Left c d = then_comp c d
pair_of Right d c = then_comp c d

-- a middle document, seen from the edited side
record HasMiddleOn (l k : FormTree) (s : Side) (x : DocTree) (e : CompTree) (z : DocTree) : Type 0 where
  near_comp : CompTree
  far_comp : CompTree
  middle : DocTree
  is_pair : e ≡ pair_of s near_comp far_comp
  near_related : IsRelated (first_of s l k) s x near_comp middle
  far_related : IsRelated (second_of s l k) s middle far_comp z

middle_left : (l k : FormTree) (x : DocTree) (e : CompTree) (z : DocTree) → HasMiddle (IsConsistent l) (IsConsistent k) x e z → HasMiddleOn l k Left x e z
middle_left l k x (then_comp c d) z h = record { near_comp = c; far_comp = d; middle = h.0; is_pair = refl; near_related = h.1; far_related = h.2 }
middle_left l k x nil z h = absurd h
middle_left l k x (rec_comp cs) z h = absurd h
middle_left l k x (alt_comp t c) z h = absurd h
middle_left l k x (hold_comp q cs) z h = absurd h
middle_left l k x (tags_comp ts) z h = absurd h

middle_right : (l k : FormTree) (x : DocTree) (e : CompTree) (z : DocTree) → HasMiddle (IsConsistent l) (IsConsistent k) x e z → HasMiddleOn l k Right z e x
middle_right l k x (then_comp c d) z h = record { near_comp = d; far_comp = c; middle = h.0; is_pair = refl; near_related = h.2; far_related = h.1 }
middle_right l k x nil z h = absurd h
middle_right l k x (rec_comp cs) z h = absurd h
middle_right l k x (alt_comp t c) z h = absurd h
middle_right l k x (hold_comp q cs) z h = absurd h
middle_right l k x (tags_comp ts) z h = absurd h

middle_on : (l k : FormTree) (s : Side) (x : DocTree) (e : CompTree) (z : DocTree) → IsRelated (form_then l k) s x e z → HasMiddleOn l k s x e z
middle_on l k Left x e z h = middle_left l k x e z h.1
middle_on l k Right x e z h = middle_right l k z e x h.1

-- from both ends and the middle the composition is consistent
then_related : (l k : FormTree) (s : Side) (x : DocTree) (c d : CompTree) (y z : DocTree) → IsRelated (first_of s l k) s x c y → IsRelated (second_of s l k) s y d z
    → IsRelated (form_then l k) s x (pair_of s c d) z
then_related l k Left x c d y z h q =
    let t = consistent_is_typed l x c y h in
    let u = consistent_is_typed k y d z q in
    (record { left_has = t.left_has; comp_fits = (t.comp_fits, u.comp_fits); right_has = u.right_has }, (y, h, q))
then_related l k Right z d c y x h q =
    let t = consistent_is_typed l x c y q in
    let u = consistent_is_typed k y d z h in
    (record { left_has = t.left_has; comp_fits = (t.comp_fits, u.comp_fits); right_has = u.right_has }, (y, q, h))

-- the two steps of the translation
then_translates : (l k : FormTree) (s : Side) (p : PrimitiveTree) (e : CompTree) (c d c' d' : CompTree) (w u : WordTree) → e ≡ pair_of s c d
    → translate_one (first_of s l k) s c p ≡ Some (w, c') → translate (second_of s l k) s d w ≡ Some (u, d')
    → translate_one (form_then l k) s e p ≡ Some (u, pair_of s c' d')
then_translates l k Left p e c d c' d' w u h f g = rw (h, f, g) refl
then_translates l k Right p e c d c' d' w u h f g = rw (h, f, g) refl

laws_of_first : (l k : FormTree) (s : Side) → Laws l → Laws k → Laws (first_of s l k)
laws_of_first l k Left a b = a
laws_of_first l k Right a b = b

laws_of_second : (l k : FormTree) (s : Side) → Laws l → Laws k → Laws (second_of s l k)
laws_of_second l k Left a b = b
laws_of_second l k Right a b = a

-- the middle types are the same, and the outer types are those of the outer lenses
middle_acts : (l k : FormTree) (s : Side) (w : WordTree) (y y' : DocTree) → right_type l ≡ left_type k → act (type_on (other s) (first_of s l k)) w y ≡ Ok y' → act (type_on s (second_of s l k)) w y ≡ Ok y'
middle_acts l k Left w y y' same e = subst (λ t. act t w y ≡ Ok y') same e
middle_acts l k Right w y y' same e = subst (λ t. act t w y ≡ Ok y') (sym same) e

near_acts : (l k : FormTree) (s : Side) (p : PrimitiveTree) (x x' : DocTree) → act_primitive (type_on s (form_then l k)) p x ≡ Ok x' → act_primitive (type_on s (first_of s l k)) p x ≡ Ok x'
near_acts l k Left p x x' e = e
near_acts l k Right p x x' e = e

far_acts : (l k : FormTree) (s : Side) (w : WordTree) (z z' : DocTree) → act (type_on (other s) (second_of s l k)) w z ≡ Ok z' → act (type_on (other s) (form_then l k)) w z ≡ Ok z'
far_acts l k Left w z z' e = e
far_acts l k Right w z z' e = e

then_step : (l k : FormTree) → Laws l → Laws k → right_type l ≡ left_type k → (s : Side) (p : PrimitiveTree) (x : DocTree) (e : CompTree) (z x' : DocTree)
    → IsRelated (form_then l k) s x e z → act_primitive (type_on s (form_then l k)) p x ≡ Ok x' → Carries (form_then l k) s x' z (translate_one (form_then l k) s e p)
then_step l k laws more same s p x e z x' h acts =
    let m = middle_on l k s x e z h in
    let a = (laws_of_first l k s laws more).step s p x m.near_comp m.middle x' m.near_related (near_acts l k s p x x' acts) in
    let b = edits_carry (second_of s l k) (laws_of_second l k s laws more) s a.word m.middle m.far_comp z a.document m.far_related (middle_acts l k s a.word m.middle a.document same a.acts) in
    record {
      word = b.word;
      comp = pair_of s a.comp b.comp;
      document = b.document;
      carried = then_translates l k s p e m.near_comp m.far_comp a.comp b.comp a.word b.word m.is_pair a.carried b.carried;
      acts = far_acts l k s b.word z b.document b.acts;
      consistent = then_related l k s x' a.comp b.comp a.document b.document a.consistent b.consistent;
    }

then_sound : (l k : FormTree) → Laws l → Laws k → (s : Side) → is_well_formed (type_on s (form_then l k)) ≡ true
then_sound l k laws more Left = laws.sound Left
then_sound l k laws more Right = more.sound Right

then_starts : (l k : FormTree) → Laws l → Laws k → right_type l ≡ left_type k → IsConsistent (form_then l k) (initial (left_type l)) (then_comp (missing l) (missing k)) (initial (right_type k))
then_starts l k laws more same =
    then_related l k Left (initial (left_type l)) (missing l) (missing k) (initial (right_type l)) (initial (right_type k)) laws.starts
    (subst (λ t. IsConsistent k (initial t) (missing k) (initial (right_type k))) (sym same) more.starts)

pub then_laws : (l k : FormTree) → Laws l → Laws k → right_type l ≡ left_type k → Laws (form_then l k)
then_laws l k laws more same = record {
  sound = then_sound l k laws more;
  starts = then_starts l k laws more same;
  step = then_step l k laws more same;
}

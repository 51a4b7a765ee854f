-- From one primitive to a whole word: where each primitive is translated so that the triple stays consistent, so is each word.
use Rattle.std.proofs.Common.{◌≡◌, Option, None, Some, option_map, refl, ap, ◌∙◌, subst}
use Rattle.std.specs.Prelude.{option_and_then}
use Rattle.texts.specs.declared.side.Side.{Side}
use Rattle.texts.specs.declared.side.Side.TheVariants.{Left, Right}
use Rattle.doc_values.specs.Documents.{DocTree}
use Rattle.doc_values.specs.Initial.{initial}
use Rattle.edit_module.specs.Words.{PrimitiveTree, WordTree, no_primitives, more_primitives, joined}
use Rattle.edit_module.specs.Action.{act, act_primitive}
use Rattle.lens_forms.specs.Forms.{FormTree, form_id, form_bij, form_disc, form_then, form_rec, form_alt, form_each, form_keyed, form_ordered, form_part, form_inv}
use Rattle.texts.specs.Sides.{other}
use Rattle.lens_core.specs.Sides.{type_on}
use Rattle.lens_core.specs.Emitted.{behind}
use Rattle.lens_core.specs.Complements.{CompTree, Fits, missing}
use Rattle.lens_core.specs.Translation.{Translated, translate_one, translate}
use Rattle.lens_core.specs.Laws.{IsRelated, Carries, Laws, StartsConsistent, EditsCarry, EmptyStays, WordsCompose, ConsistentIsTyped}
use Rattle.lens_core.proofs.JoinedWords.{behind_behind}
use Rattle.lens_core.proofs.Results.{after_ok}
use Rattle.edit_module.proofs.JoinedWords.{acts_joined}

-- the first primitive and then the rest
carries_more : (l : FormTree) (s : Side) (p : PrimitiveTree) (w : WordTree) (x'' y : DocTree) (c : CompTree) (x' : DocTree)
    → (first : Carries l s x' y (translate_one l s c p)) → Carries l s x'' first.document (translate l s first.comp w)
    → Carries l s x'' y (translate l s c (more_primitives p w))
carries_more l s p w x'' y c x' first rest = record {
  word = joined first.word rest.word;
  comp = rest.comp;
  document = rest.document;
  carried = rw first.carried (rw rest.carried refl);
  acts = acts_joined (type_on (other s) l) first.word rest.word y first.document rest.document first.acts rest.acts;
  consistent = rest.consistent;
}

pub edits_carry : (l : FormTree) → Laws l → (s : Side) → EditsCarry l s
edits_carry l laws s no_primitives x c y x' k e =
    let same : x ≡ x' = cc in
    record { word = no_primitives; comp = c; document = y; carried = refl; acts = refl; consistent = subst (λ z. IsRelated l s z c y) same k }
edits_carry l laws s (more_primitives p w) x c y x'' k e =
    let a = after_ok (act_primitive (type_on s l) p x) (λ u. act (type_on s l) w u) x'' e in
    let first = laws.step s p x c y a.0 k a.1 in
    carries_more l s p w x'' y c a.0 first (edits_carry l laws s w a.0 first.comp first.document x'' first.consistent a.2)

-- ---- words compose

pub empty_stays : (l : FormTree) → EmptyStays l
empty_stays l s c = refl

-- the rest of a word behind what was translated
compose_on : (rest : CompTree → Option Translated) (o : Option Translated) (u : WordTree)
    → option_map (behind u) (option_and_then (λ r. option_map (behind r.0) (rest r.1)) o)
    ≡ option_and_then (λ r. option_map (behind r.0) (rest r.1)) (option_map (behind u) o)
compose_on rest None u = refl
compose_on rest (Some r) u = behind_behind u r.0 (rest r.1)

compose_first : (o : Option Translated) (f g : CompTree → Option Translated) (rest : CompTree → Option Translated)
    → ((c : CompTree) → f c ≡ option_and_then (λ r. option_map (behind r.0) (rest r.1)) (g c))
    → option_and_then (λ r. option_map (behind r.0) (f r.1)) o
    ≡ option_and_then (λ r. option_map (behind r.0) (rest r.1)) (option_and_then (λ r. option_map (behind r.0) (g r.1)) o)
compose_first None f g rest h = refl
compose_first (Some r) f g rest h = ap (option_map (behind r.0)) (h r.1) ∙ compose_on rest (g r.1) r.0

behind_nothing : (o : Option Translated) → o ≡ option_map (behind no_primitives) o
behind_nothing None = refl
behind_nothing (Some r) = refl

pub words_compose : (l : FormTree) → WordsCompose l
words_compose l s c no_primitives w = behind_nothing (translate l s c w)
words_compose l s c (more_primitives p u) w =
    compose_first (translate_one l s c p) (λ d. translate l s d (joined u w)) (λ d. translate l s d u) (λ d. translate l s d w)
    (λ d. words_compose l s d u w)

pub ruleset compose_laws = (empty_stays, words_compose)

-- ---- the start, and the types

pub starts_consistent : (l : FormTree) → Laws l → StartsConsistent l
starts_consistent l laws = laws.starts

pub consistent_is_typed : (l : FormTree) → ConsistentIsTyped l
consistent_is_typed (form_id t) x c y k = k.0
consistent_is_typed (form_bij ps i) x c y k = k.0
consistent_is_typed (form_disc t u) x c y k = k
consistent_is_typed (form_then l m) x c y k = k.0
consistent_is_typed (form_rec rows) x c y k = k.0
consistent_is_typed (form_alt arms) x c y k = k.0
consistent_is_typed (form_each l) x c y k = k.0
consistent_is_typed (form_keyed l) x c y k = k.0
consistent_is_typed (form_ordered l) x c y k = k.0
consistent_is_typed (form_part fs) x c y k = k.0
consistent_is_typed (form_inv l) x c y k =
    let t = consistent_is_typed l y c x k in
    record { left_has = t.right_has; comp_fits = t.comp_fits; right_has = t.left_has }

pub related_fits : (l : FormTree) (s : Side) (x : DocTree) (c : CompTree) (y : DocTree) → IsRelated l s x c y → Fits l c
related_fits l Left x c y h = (consistent_is_typed l x c y h).comp_fits
related_fits l Right x c y h = (consistent_is_typed l y c x h).comp_fits

-- the initial triple, from either side
pub starts_on : (l : FormTree) → Laws l → (s : Side) → IsRelated l s (initial (type_on s l)) (missing l) (initial (type_on (other s) l))
starts_on l laws Left = laws.starts
starts_on l laws Right = laws.starts

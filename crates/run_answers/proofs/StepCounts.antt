-- The words that a step carries have counts that fit, since they act on the other document.
use Rattle.std.proofs.Common.{◌≡◌, suc, List, [], ◌∷◌, length, Option, None, Some, option_map, Result, Ok, Err, true, refl, ap, subst}
use Rattle.std.specs.Prelude.{option_and_then}
use Rattle.std.specs.List.{list_all}
use Rattle.texts.proofs.Conjunction.{both}
use Rattle.texts.specs.declared.side.Side.{Side}
use Rattle.texts.specs.Sides.{other}
use Rattle.doc_values.specs.Documents.{DocTree}
use Rattle.doc_values.specs.Types.{TyTree}
use Rattle.edit_module.specs.Words.{WordTree}
use Rattle.edit_module.specs.Action.{act, Why}
use Rattle.edit_json.specs.WordJson.{counts_fit}
use Rattle.lens_core.specs.Complements.{CompTree}
use Rattle.lens_core.specs.Sides.{near}
use Rattle.lens_core.specs.Translation.{Translated}
use Rattle.edit_session.specs.Step.{TripleTree, document_on, triple_from, Stepped, AllStepped, after_carrying, after_action, step, with_first, after_first, step_each}
use Rattle.run_answers.proofs.ActingCounts.{acting_fits}

module _ (left right : TyTree) (translation : Side → CompTree → WordTree → Option Translated) where
  after_carrying_fits : (side : Side) (x : DocTree) (r : Translated) (t : TyTree) (v : DocTree) (a : Result DocTree Why) (s : TripleTree × WordTree)
      → act t r.0 v ≡ a → after_carrying side x r a ≡ Some (Ok s) → counts_fit s.1 ≡ true
  after_carrying_fits side x r t v (Ok y) s acts e =
      let same : (triple_from side x r.1 y, r.0) ≡ s = cc in
      subst (λ (q : TripleTree × WordTree). counts_fit q.1 ≡ true) same (acting_fits r.0 t v y acts)
  after_carrying_fits side x r t v (Err why) s acts e = cc

  after_translation_fits : (side : Side) (x : DocTree) (t : TyTree) (v : DocTree) (o : Option Translated) (s : TripleTree × WordTree)
      → option_and_then (λ r. after_carrying side x r (act t r.0 v)) o ≡ Some (Ok s) → counts_fit s.1 ≡ true
  after_translation_fits side x t v None s e = cc
  after_translation_fits side x t v (Some r) s e = after_carrying_fits side x r t v (act t r.0 v) s refl e

  after_action_fits : (t : TripleTree) (side : Side) (w : WordTree) (a : Result DocTree Why) (s : TripleTree × WordTree)
      → after_action left right translation t side w a ≡ Some (Ok s) → counts_fit s.1 ≡ true
  after_action_fits t side w (Ok x) s e =
      after_translation_fits side x (near (other side) left right) (document_on (other side) t) (translation side t.comp w) s e
  after_action_fits t side w (Err why) s e = cc

  pub carried_fits : (t : TripleTree) (e : Side × WordTree) (s : TripleTree × WordTree) → step left right translation t e ≡ Some (Ok s) → counts_fit s.1 ≡ true
  carried_fits t e s is = after_action_fits t e.0 e.1 (act (near e.0 left right) e.1 (document_on e.0 t)) s is

-- ---- groups

-- there are as many words as entries, and the counts of each fit
abbrev pub Counted : List (Side × WordTree) → List WordTree → Type 0
Counted es ws = (length ws ≡ length es) × (list_all counts_fit ws ≡ true)

others_counted : (w : WordTree) (e : Side × WordTree) (es : List (Side × WordTree)) (o : Option AllStepped) (s : TripleTree × List WordTree) → counts_fit w ≡ true
    → ((r : TripleTree × List WordTree) → o ≡ Some (Ok r) → Counted es r.1) → option_map (with_first w) o ≡ Some (Ok s) → Counted (e ∷ es) s.1
others_counted w e es None s fits rest h = cc
others_counted w e es (Some (Err why)) s fits rest h = cc
others_counted w e es (Some (Ok r)) s fits rest h =
    let same : (r.0, w ∷ r.1) ≡ s = cc in
    let c = rest r refl in
    subst (λ (q : TripleTree × List WordTree). Counted (e ∷ es) q.1) same (ap (λ n. suc n) c.0, both (counts_fit w) (list_all counts_fit r.1) fits c.1)

first_counted : (e : Side × WordTree) (es : List (Side × WordTree)) (others : TripleTree → Option AllStepped) (o : Option Stepped) (s : TripleTree × List WordTree)
    → ((r : TripleTree × WordTree) → o ≡ Some (Ok r) → counts_fit r.1 ≡ true) → ((t : TripleTree) (r : TripleTree × List WordTree) → others t ≡ Some (Ok r) → Counted es r.1)
    → option_and_then (after_first others) o ≡ Some (Ok s) → Counted (e ∷ es) s.1
first_counted e es others None s fits rest h = cc
first_counted e es others (Some (Err why)) s fits rest h = cc
first_counted e es others (Some (Ok r)) s fits rest h = others_counted r.1 e es (others r.0) s (fits r refl) (rest r.0) h

module _ (left right : TyTree) (translation : Side → CompTree → WordTree → Option Translated) where
  pub each_counted : (es : List (Side × WordTree)) (t : TripleTree) (s : TripleTree × List WordTree) → step_each left right translation t es ≡ Some (Ok s) → Counted es s.1
  each_counted [] t s is =
      let none : List WordTree = [] in
      let same : (t, none) ≡ s = cc in
      subst (λ (q : TripleTree × List WordTree). Counted [] q.1) same (refl, refl)
  each_counted (e ∷ es) t s is =
      first_counted e es (λ next. step_each left right translation next es) (step left right translation t e) s (λ r h. carried_fits left right translation t e r h) (λ u r h. each_counted es u r h) is

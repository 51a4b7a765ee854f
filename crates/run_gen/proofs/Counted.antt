-- A step of the run of a generated journal, and the summary that it leads to.
use Rattle.std.proofs.Common.{◌≡◌, ℕ, zero, suc, ◌+◌, List, [], ◌∷◌, Option, Some, None, Result, Ok, Err, refl, ap, sym, ◌∙◌, subst, arith}
use Rattle.std.specs.Prelude.{option_map, option_and_then}
use Rattle.texts.specs.declared.side.Side.{Side}
use Rattle.texts.specs.declared.side.Side.TheVariants.{Left, Right}
use Rattle.texts.specs.Sides.{other}
use Rattle.doc_values.specs.Documents.{DocTree}
use Rattle.doc_values.specs.Types.{TyTree}
use Rattle.edit_module.specs.Words.{WordTree}
use Rattle.edit_module.specs.Action.{act, Why}
use Rattle.lens_forms.specs.Forms.{left_type, right_type}
use Rattle.lens_core.specs.Complements.{CompTree}
use Rattle.lens_core.specs.Sides.{near}
use Rattle.lens_core.specs.Translation.{Translated, translate}
use Rattle.edit_session.specs.Step.{TripleTree, Stepped, document_on, triple_from, after_carrying, after_action, step}
use Rattle.edit_session.specs.Run.{AnswerTree, carried}
use Rattle.run_gen.specs.declared.summary.Summary.{Summary}
use Rattle.run_gen.specs.Program.{generated_form}
use Rattle.run_gen.specs.Journal.{accepted_among, refused_among, summarized, generated_run_from}
use Rattle.run_gen.specs.Invariant.{counted}

-- ---- the document of the entry's side after a step

from_side : (side : Side) (x : DocTree) (c : CompTree) (y : DocTree) → document_on side (triple_from side x c y) ≡ x
from_side Left x c y = refl
from_side Right x c y = refl

-- a step that was made
abbrev after_carried : TripleTree × WordTree → Option Stepped
after_carried s = Some (Ok s)

only : (s r : TripleTree × WordTree) → after_carried s ≡ after_carried r → s ≡ r
only s r e = cc

after_carrying_is : (side : Side) (x : DocTree) (r : Translated) (a : Result DocTree Why) (t : TripleTree) (w : WordTree)
    → after_carrying side x r a ≡ Some (Ok (t, w)) → document_on side t ≡ x
after_carrying_is side x r (Ok y) t w e =
    let same : triple_from side x r.1 y ≡ t = ap (λ (s : TripleTree × WordTree). s.0) (only _ _ e) in
    subst (λ z. document_on side z ≡ x) same (from_side side x r.1 y)
after_carrying_is side x r (Err why) t w e = cc

after_translation_is : (side : Side) (x : DocTree) (f : Translated → Result DocTree Why) (o : Option Translated) (t : TripleTree) (w : WordTree)
    → option_and_then (λ r. after_carrying side x r (f r)) o ≡ Some (Ok (t, w)) → document_on side t ≡ x
after_translation_is side x f None t w e = cc
after_translation_is side x f (Some r) t w e = after_carrying_is side x r (f r) t w e

module _ (left right : TyTree) (translation : Side → CompTree → WordTree → Option Translated) where
  pub stepped : (t t' : TripleTree) (e : Side × WordTree) (w : WordTree) (x : DocTree) → step left right translation t e ≡ Some (Ok (t', w))
      → act (near e.0 left right) e.1 (document_on e.0 t) ≡ Ok x → document_on e.0 t' ≡ x
  stepped t t' e w x is acts =
      after_translation_is e.0 x (λ r. act (near (other e.0) left right) r.0 (document_on (other e.0) t)) (translation e.0 t.comp e.1) t' w
      (subst (λ a. after_action left right translation t e.0 e.1 a ≡ Some (Ok (t', w))) acts is)

-- ---- the summary

counted_more : (n : ℕ) (t t' : TripleTree) (side : Side) (w : WordTree) (o : Option (List (TripleTree × AnswerTree ⊥)))
    → counted n t (option_map (λ steps. (t', carried side w) ∷ steps) o) ≡ counted (n + 1) t' o
counted_more n t t' side w None = refl
counted_more n t t' side w (Some steps) =
    let sum : (a : ℕ) → n + (1 + a) ≡ n + 1 + a = λ a. omega arith in
    let none : (r : ℕ) → 0 + r ≡ r = λ r. omega arith in
    rw (sum (accepted_among steps), none (refused_among steps)) refl

-- after a step one more is accepted
pub counted_step : (n : ℕ) (t t' : TripleTree) (e : Side × WordTree) (w : WordTree) (es : List (Side × WordTree))
    → step (left_type generated_form) (right_type generated_form) (translate generated_form) t e ≡ Some (Ok (t', w))
    → counted n t (generated_run_from t (e ∷ es)) ≡ counted (n + 1) t' (generated_run_from t' es)
counted_step n t t' e w es is = rw is (counted_more n t t' (other e.0) w (generated_run_from t' es))

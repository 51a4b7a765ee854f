-- The step by which a document is brought in.
use Rattle.std.proofs.Common.{◌≡◌, Option, Some, None, option_and_then, Result, Ok, Err, refl, sym, ap, subst, ◌∙◌}
use Rattle.texts.specs.declared.side.Side.{Side}
use Rattle.texts.specs.declared.side.Side.TheVariants.{Left, Right}
use Rattle.texts.specs.Sides.{other}
use Rattle.doc_values.specs.Documents.{DocTree}
use Rattle.doc_values.specs.Initial.{initial}
use Rattle.doc_values.specs.Types.{TyTree}
use Rattle.edit_inverse.specs.Construct.{construct}
use Rattle.edit_module.specs.Action.{Why, act}
use Rattle.edit_module.specs.Words.{WordTree}
use Rattle.edit_session.specs.Step.{TripleTree, document_on, triple_from, after_carrying, after_action, step}
use Rattle.run_answers.specs.ItemRuns.{IsInStepFor, triple_at_first}
use Rattle.lens_core.specs.Complements.{CompTree}
use Rattle.lens_core.specs.Sides.{near}
use Rattle.lens_core.specs.Translation.{Translated, translate}
use Rattle.lens_forms.specs.Forms.{FormTree, left_type, right_type}
use Rattle.embed_session.specs.Embedded.{side_type, Brings}

-- the first triple has the initial document on each side
pub first_document : (form : FormTree) (s : Side) → document_on s (triple_at_first form) ≡ initial (side_type form s)
first_document form Left = refl
first_document form Right = refl

module _ (left right : TyTree) (carried : Side → CompTree → WordTree → Option Translated) where
  from_own : (s : Side) (x y : DocTree) (c : CompTree) → document_on s (triple_from s x c y) ≡ x
  from_own Left x y c = refl
  from_own Right x y c = refl

  carried_own : (s : Side) (x : DocTree) (r : Translated) (a : Result DocTree Why) (m : TripleTree × WordTree) → after_carrying s x r a ≡ Some (Ok m) → document_on s m.0 ≡ x
  carried_own s x r (Ok y) m h =
      let same : (triple_from s x r.1 y, r.0) ≡ m = cc in
      sym (ap (λ (q : TripleTree × WordTree). document_on s q.0) same) ∙ from_own s x y r.1
  carried_own s x r (Err why) m h = cc

  translated_own : (s : Side) (x y : DocTree) (o : Option Translated) (m : TripleTree × WordTree)
      → option_and_then (λ r. after_carrying s x r (act (near (other s) left right) r.0 y)) o ≡ Some (Ok m) → document_on s m.0 ≡ x
  translated_own s x y None m h = cc
  translated_own s x y (Some r) m h = carried_own s x r (act (near (other s) left right) r.0 y) m h

  -- after an entry the document of its side is what its word made
  pub step_own : (t : TripleTree) (s : Side) (w : WordTree) (x : DocTree) (m : TripleTree × WordTree) → step left right carried t (s, w) ≡ Some (Ok m)
      → act (near s left right) w (document_on s t) ≡ Ok x → document_on s m.0 ≡ x
  step_own t s w x m h acts =
      translated_own s x (document_on (other s) t) (carried s t.comp w) m (subst (λ a. after_action left right carried t s w a ≡ Some (Ok m)) acts h)

-- the word that makes a document makes it from the document of the first triple
pub made_first : (form l : FormTree) (s : Side) (doc : DocTree) (ty : TyTree) (word : WordTree) (t : TripleTree) → l ≡ form → t ≡ triple_at_first form → ty ≡ side_type form s
    → act ty word (initial ty) ≡ Ok doc → act (near s (left_type l) (right_type l)) word (document_on s t) ≡ Ok doc
made_first form l s doc ty word t lens first is makes =
    subst (λ (f : FormTree). act (side_type f s) word (document_on s t) ≡ Ok doc) (sym lens)
    (subst (λ u. act (side_type form s) word (document_on s u) ≡ Ok doc) (sym first)
    (ap (act (side_type form s) word) (first_document form s) ∙ subst (λ x. act x word (initial x) ≡ Ok doc) is makes))

-- the step from the first triple, where the word is the one that makes the document
abbrev Steps : FormTree → TripleTree → Side × WordTree → TripleTree → WordTree → Type 0
Steps form t e after word = step (left_type form) (right_type form) (translate form) t e ≡ Some (Ok (after, word))

pub brought : (form l : FormTree) (s : Side) (doc : DocTree) (ty : TyTree) (w : WordTree) (t after : TripleTree) (word : WordTree) → l ≡ form → t ≡ triple_at_first form
    → ty ≡ side_type form s → w ≡ construct ty doc → act ty w (initial ty) ≡ Ok doc → Steps l t (s, w) after word → IsInStepFor l after → Brings form s doc after
brought form l s doc ty w t after word lens first is made makes steps in_step =
    let acts = made_first form l s doc ty w t lens first is makes in
    let exact : w ≡ construct (side_type form s) doc = made ∙ ap (λ x. construct x doc) is in
    record {
      word = word;
      stepped = subst (λ x. Steps form (triple_at_first form) (s, x) after word) exact
          (subst (λ u. Steps form u (s, w) after word) first (subst (λ (f : FormTree). Steps f t (s, w) after word) lens steps));
      has = step_own (left_type l) (right_type l) (translate l) t s w doc (after, word) steps acts;
      in_step = subst (λ (f : FormTree). IsInStepFor f after) lens in_step;
    }

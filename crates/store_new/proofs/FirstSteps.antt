-- The step by which a document is imported: the word that makes it from the initial one.
use Rattle.std.proofs.Common.{◌≡◌, ◌≤◌, ◌++◌, ℕ, List, [], ◌∷◌, Option, Some, None, Result, Ok, Err, true, refl, sym, ap, subst, ◌∙◌}
use Rattle.std.specs.Prelude.{option_and_then, option_map}
use Rattle.texts.proofs.Conjunction.{both}
use Rattle.serde_json.specs.Data.{depth}
use Rattle.serde_json.specs.Read.{max_depth}
use Rattle.serde_json.specs.Written.{compact_text}
use Rattle.answer_text.specs.Lines.{ok_line}
use Rattle.texts.specs.declared.side.Side.{Side}
use Rattle.texts.specs.declared.side.Side.TheVariants.{Left, Right}
use Rattle.doc_values.specs.Initial.{initial}
use Rattle.doc_values.specs.Documents.{DocTree}
use Rattle.doc_values.specs.Types.{TyTree, height}
use Rattle.edit_inverse.specs.Construct.{construct}
use Rattle.edit_json.specs.WordJson.{counts_fit}
use Rattle.edit_journal.specs.EntryJson.{change_counts_fit, change_numbers_fit, tree_of_text}
use Rattle.edit_module.specs.Changes.{one}
use Rattle.edit_module.specs.Action.{act, Why}
use Rattle.edit_module.specs.Words.{WordTree}
use Rattle.lens_core.specs.Complements.{CompTree}
use Rattle.lens_core.specs.LensOf.{IsLensOf}
use Rattle.lens_core.specs.Sides.{near}
use Rattle.lens_core.specs.Translation.{Translated, translate}
use Rattle.lens_forms.specs.Forms.{FormTree, left_type, right_type}
use Rattle.lens_forms.specs.declared.limits.TheConstants.{GREATEST_HEIGHT}
use Rattle.run_answers.specs.Answers.{state_lines}
use Rattle.run_answers.specs.ItemRuns.{IsInStepFor, triple_at_first}
use Rattle.run_answers.proofs.InStep.{of_form}
use Rattle.store_records.specs.RecordJson.{tree_of_change_record}
use Rattle.store_session.proofs.AcceptedDepths.{accepted_low}
use Rattle.store_new.specs.ImportStores.{IsEntryText, MakesDocument}
use Rattle.edit_session.specs.Step.{alone, document_on, IsInStep, TripleTree, triple_from, after_carrying, after_action, step}

-- ---- the entry

pub document_made : (form : FormTree) (doc : DocTree) (ty : TyTree) (w : WordTree) → ty ≡ left_type form → w ≡ construct ty doc → act ty w (initial ty) ≡ Ok doc
    → counts_fit w ≡ true → MakesDocument form doc (Left, w)
document_made form doc ty w same is acts counts =
    let made : w ≡ construct (left_type form) doc = is ∙ ap (λ t. construct t doc) same in
    record {
      is = cc;
      acts = subst (λ x. act (left_type form) x (initial (left_type form)) ≡ Ok doc) made (subst (λ t. act t w (initial t) ≡ Ok doc) same acts);
      counts = subst (λ x. counts_fit x ≡ true) made counts;
    }

-- it applies to the first triple
pub entry_applies : (left right : TyTree) (form : FormTree) (t : TripleTree) (doc : DocTree) (e : Side × WordTree) → left ≡ left_type form → t ≡ triple_at_first form → MakesDocument form doc e
    → (x : DocTree) × (act (near e.0 left right) e.1 (document_on e.0 t) ≡ Ok x)
entry_applies left right form t doc e same first m = (
  doc,
  subst (λ l. act (near e.0 l right) e.1 (document_on e.0 t) ≡ Ok doc) (sym same)
      (subst (λ u. act (near e.0 (left_type form) right) e.1 (document_on e.0 u) ≡ Ok doc) (sym first)
      (subst (λ (k : Side × WordTree). act (near k.0 (left_type form) right) k.1 (document_on k.0 (triple_at_first form)) ≡ Ok doc) (sym m.is) m.acts)),
)

pub entry_counts : (form : FormTree) (doc : DocTree) (e : Side × WordTree) → MakesDocument form doc e → change_counts_fit (one e) ≡ true
entry_counts form doc e m =
    subst (λ (k : Side × WordTree). change_counts_fit (one k) ≡ true) (sym m.is) (both (counts_fit (construct (left_type form) doc)) true m.counts refl)

-- ---- the step

module _ (left right : TyTree) (carried : Side → CompTree → WordTree → Option Translated) where
  carried_left : (x : DocTree) (r : Translated) (a : Result DocTree Why) (s : TripleTree × WordTree) → after_carrying Left x r a ≡ Some (Ok s) → s.0.left ≡ x
  carried_left x r (Ok y) s h =
      let same : (triple_from Left x r.1 y, r.0) ≡ s = cc in
      sym (ap (λ (q : TripleTree × WordTree). q.0.left) same)
  carried_left x r (Err why) s h = cc

  translated_left : (x y : DocTree) (o : Option Translated) (s : TripleTree × WordTree) → option_and_then (λ r. after_carrying Left x r (act right r.0 y)) o ≡ Some (Ok s) → s.0.left ≡ x
  translated_left x y None s h = cc
  translated_left x y (Some r) s h = carried_left x r (act right r.0 y) s h

  -- after an entry of the left side the left document is what its word made
  step_left : (t : TripleTree) (w : WordTree) (x : DocTree) (s : TripleTree × WordTree) → step left right carried t (Left, w) ≡ Some (Ok s) → act left w t.left ≡ Ok x → s.0.left ≡ x
  step_left t w x s h acts = translated_left x t.right (carried Left t.comp w) s (subst (λ a. after_action left right carried t Left w a ≡ Some (Ok s)) acts h)

-- What is stored and written of the step by which a document is imported, for the entry itself and the first triple.
first_made : (form : FormTree) (doc : DocTree) (after : TripleTree) (word : WordTree) (payload lines : List ℕ)
    → height (left_type form) ≤ GREATEST_HEIGHT → height (right_type form) ≤ GREATEST_HEIGHT
    → act (left_type form) (construct (left_type form) doc) (initial (left_type form)) ≡ Ok doc
    → counts_fit (construct (left_type form) doc) ≡ true → change_numbers_fit (one (Left, construct (left_type form) doc)) ≡ true
    → step (left_type form) (right_type form) (translate form) (triple_at_first form) (Left, construct (left_type form) doc) ≡ Some (Ok (after, word))
    → IsInStepFor form after
    → payload ≡ compact_text (tree_of_change_record (one (Left, construct (left_type form) doc)))
    → (depth (tree_of_change_record (one (Left, construct (left_type form) doc))) ≤ max_depth → tree_of_text payload ≡ Some (tree_of_change_record (one (Left, construct (left_type form) doc))))
    → lines ≡ ok_line 1 Right word ++ state_lines form after
    → IsEntryText form doc payload lines
first_made form doc after word payload lines low_left low_right acts counts numbers steps in_step is reads written =
    let w = construct (left_type form) doc in
    let all = ap (option_map alone) steps in
    record {
      after = after;
      word = word;
      is_payload = is;
      reads = reads (accepted_low form (triple_at_first form) after (one (Left, w)) (word ∷ []) low_left low_right all);
      counts = (both (counts_fit w) true counts refl, numbers);
      steps = all;
      left_is = step_left (left_type form) (right_type form) (translate form) (triple_at_first form) w doc (after, word) steps acts;
      in_step = in_step;
      written = written;
    }

-- What is read, stored and written of an entry.
record HasText (e : Side × WordTree) (payload : List ℕ) : Type 0 where
  is : payload ≡ compact_text (tree_of_change_record (one e))
  reads : depth (tree_of_change_record (one e)) ≤ max_depth → tree_of_text payload ≡ Some (tree_of_change_record (one e))
  numbers : change_numbers_fit (one e) ≡ true

-- The same for the step of a lens of the form.
pub entry_made : (left right : TyTree) (start : CompTree) (holds : DocTree → CompTree → DocTree → Type 0) (carried : Side → CompTree → WordTree → Option Translated) (form : FormTree)
    (doc : DocTree) (e : Side × WordTree) (t after : TripleTree) (word : WordTree) (payload lines : List ℕ) → IsLensOf left right start holds carried form
    → height (left_type form) ≤ GREATEST_HEIGHT → height (right_type form) ≤ GREATEST_HEIGHT → MakesDocument form doc e → t ≡ triple_at_first form
    → step left right carried t e ≡ Some (Ok (after, word)) → IsInStep holds after
    → payload ≡ compact_text (tree_of_change_record (one e))
    → (depth (tree_of_change_record (one e)) ≤ max_depth → tree_of_text payload ≡ Some (tree_of_change_record (one e)))
    → change_numbers_fit (one e) ≡ true
    → lines ≡ ok_line 1 Right word ++ state_lines form after
    → IsEntryText form doc payload lines
entry_made left right start holds carried form doc e t after word payload lines l low_left low_right m first steps in_step is reads numbers written =
    let w = construct (left_type form) doc in
    let of_the_form = of_form left right start holds carried form l (λ a b k. step a b k t e ≡ Some (Ok (after, word))) steps in
    let from_first = subst (λ u. step (left_type form) (right_type form) (translate form) u e ≡ Some (Ok (after, word))) first of_the_form in
    let by_entry = subst (λ (k : Side × WordTree). step (left_type form) (right_type form) (translate form) (triple_at_first form) k ≡ Some (Ok (after, word))) m.is from_first in
    let text = subst (λ (k : Side × WordTree). HasText k payload) m.is (record { is = is; reads = reads; numbers = numbers }) in
    first_made form doc after word payload lines low_left low_right m.acts m.counts text.numbers by_entry
    ((l.relates after.left after.comp after.right).0 in_step) text.is text.reads written

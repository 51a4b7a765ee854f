-- The tree of a change that is accepted nests at most as deep as the reader of JSON reads back.
use Rattle.std.proofs.Common.{◌≡◌, ◌≤◌, List, [], ◌∷◌, Option, Some, None, option_map, option_and_then, Result, Ok, Err, refl, arith}
use Rattle.std.specs.List.{AllByRecursion}
use Rattle.std.proofs.lemmas.List.Elements.{All-from_recursion}
use Rattle.serde_json.specs.Data.{depth}
use Rattle.serde_json.specs.Read.{max_depth}
use Rattle.texts.specs.declared.side.Side.{Side}
use Rattle.texts.specs.declared.side.Side.TheVariants.{Left, Right}
use Rattle.doc_values.specs.Documents.{DocTree}
use Rattle.doc_values.specs.Types.{TyTree, height}
use Rattle.edit_module.specs.Action.{act, Why}
use Rattle.edit_module.specs.Changes.{ChangeTree, one, group}
use Rattle.edit_module.specs.Depths.{word_depth}
use Rattle.edit_module.specs.Words.{WordTree}
use Rattle.edit_journal.proofs.Entries.{shallow}
use Rattle.edit_journal.proofs.Groups.{change_shallow}
use Rattle.lens_forms.specs.Forms.{FormTree, left_type, right_type}
use Rattle.lens_forms.specs.declared.limits.TheConstants.{GREATEST_HEIGHT}
use Rattle.lens_core.specs.Complements.{CompTree}
use Rattle.lens_core.specs.Sides.{near}
use Rattle.lens_core.specs.Translation.{Translated, translate}
use Rattle.edit_session.specs.Step.{TripleTree, Stepped, AllStepped, document_on, after_action, after_first, with_first, alone, step, step_each}
use Rattle.store_records.specs.RecordJson.{tree_of_change_record}
use Rattle.store_records.proofs.AppliedWords.{word_low}
use Rattle.store_session.specs.Stands.{step_of}

module _ (left right : TyTree) (carried : Side → CompTree → WordTree → Option Translated) (low_left : height left ≤ GREATEST_HEIGHT) (low_right : height right ≤ GREATEST_HEIGHT) where
  side_low : (side : Side) → height (near side left right) ≤ GREATEST_HEIGHT
  side_low Left = low_left
  side_low Right = low_right

  -- an entry that is accepted acts on the document of its side
  acted : (t : TripleTree) (side : Side) (w : WordTree) (r : Result DocTree Why) (s : TripleTree × WordTree) → after_action left right carried t side w r ≡ Some (Ok s)
      → (x : DocTree) × (r ≡ Ok x)
  acted t side w (Ok x) s h = (x, refl)
  acted t side w (Err why) s h = cc

  entry_low : (t : TripleTree) (e : Side × WordTree) (s : TripleTree × WordTree) → step left right carried t e ≡ Some (Ok s) → word_depth e.1 ≤ GREATEST_HEIGHT
  entry_low t e s h =
      let a = acted t e.0 e.1 (act (near e.0 left right) e.1 (document_on e.0 t)) s h in
      omega (arith, word_low e.1 (near e.0 left right) (document_on e.0 t) a.0 a.1, side_low e.0)

  alone_made : (o : Option Stepped) (m : TripleTree × List WordTree) → option_map alone o ≡ Some (Ok m) → (s : TripleTree × WordTree) × (o ≡ Some (Ok s))
  alone_made (Some (Ok s)) m h = (s, refl)
  alone_made (Some (Err why)) m h = cc
  alone_made None m h = cc

  -- the first entry of an accepted group is accepted, and the others are, too
  others_made : (o : Option AllStepped) (w : WordTree) (m : TripleTree × List WordTree) → option_map (with_first w) o ≡ Some (Ok m) → (n : TripleTree × List WordTree) × (o ≡ Some (Ok n))
  others_made (Some (Ok n)) w m h = (n, refl)
  others_made (Some (Err why)) w m h = cc
  others_made None w m h = cc

  first_made : (others : TripleTree → Option AllStepped) (o : Option Stepped) (m : TripleTree × List WordTree) → option_and_then (after_first others) o ≡ Some (Ok m)
      → (s : TripleTree × WordTree) × (o ≡ Some (Ok s)) × (n : TripleTree × List WordTree) × (others s.0 ≡ Some (Ok n))
  first_made others (Some (Ok s)) m h = let n = others_made (others s.0) s.1 m h in (s, refl, n.0, n.1)
  first_made others (Some (Err why)) m h = cc
  first_made others None m h = cc

  entries_low : (t : TripleTree) (es : List (Side × WordTree)) (m : TripleTree × List WordTree) → step_each left right carried t es ≡ Some (Ok m)
      → AllByRecursion (λ (e : Side × WordTree). word_depth e.1 ≤ GREATEST_HEIGHT) es
  entries_low t [] m h = tt
  entries_low t (e ∷ es) m h =
      let f = first_made (λ next. step_each left right carried next es) (step left right carried t e) m h in
      (entry_low t e f.0 f.1, entries_low f.0.0 es f.2 f.3)

pub accepted_low : (l : FormTree) (t after : TripleTree) (change : ChangeTree) (words : List WordTree) → height (left_type l) ≤ GREATEST_HEIGHT → height (right_type l) ≤ GREATEST_HEIGHT
    → step_of l t change ≡ Some (Ok (after, words)) → depth (tree_of_change_record change) ≤ max_depth
accepted_low l t after (one e) words low_left low_right h =
    let s = alone_made (left_type l) (right_type l) (translate l) low_left low_right (step (left_type l) (right_type l) (translate l) t e) (after, words) h in
    omega (arith, shallow e, entry_low (left_type l) (right_type l) (translate l) low_left low_right t e s.0 s.1)
accepted_low l t after (group es) words low_left low_right h =
    let all = entries_low (left_type l) (right_type l) (translate l) low_left low_right t es (after, words) h in
    omega (arith, change_shallow (group es) GREATEST_HEIGHT (All-from_recursion (λ (e : Side × WordTree). word_depth e.1 ≤ GREATEST_HEIGHT) es all))

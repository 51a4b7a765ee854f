-- Every run and every group from a triple that is in step goes on to its end, and all its triples are in step.
use Rattle.std.proofs.Common.{◌≡◌, ◌+◌, List, [], ◌∷◌, Option, Some, Result, Ok, Err, map, refl}
use Rattle.std.specs.Prelude.{option_map, option_and_then}
use Rattle.std.specs.List.{AllByRecursion}
use Rattle.std.proofs.lemmas.List.Elements.{All-from_recursion}
use Rattle.texts.specs.declared.side.Side.{Side}
use Rattle.texts.specs.declared.side.Side.TheVariants.{Left, Right}
use Rattle.doc_values.specs.Documents.{DocTree}
use Rattle.doc_values.specs.Types.{TyTree}
use Rattle.edit_module.specs.Words.{WordTree}
use Rattle.edit_module.specs.Changes.{ChangeTree, one, group}
use Rattle.edit_module.specs.Action.{act, Why}
use Rattle.lens_core.specs.Complements.{CompTree}
use Rattle.lens_core.specs.Sides.{near}
use Rattle.lens_core.specs.Translation.{Translated}
use Rattle.lens_core.specs.Laws.{WordsCarry}
use Rattle.edit_session.specs.Step.{TripleTree, IsInStep, Stepped, document_on, triple_from, after_action, step, AllStepped, with_first, after_first, step_each, from_first, inner_triples}
use Rattle.edit_session.specs.Run.{Item, AnswerTree, answered, group_answered, take_change, take_item, run, RunsStayInStep, GroupsStayInStep}
use Rattle.edit_session.proofs.StepsCarry.{carries, from_seen}

module _ (F : Type 0) (holds : DocTree → CompTree → DocTree → Type 0) (left right : TyTree) (carried : Side → CompTree → WordTree → Option Translated)
    (from_left : WordsCarry holds left right Left (carried Left)) (from_right : WordsCarry holds right left Right (carried Right)) where
  -- an answer to an edit, with a triple that is in step
  abbrev IsAnswered : TripleTree → Side → Option Stepped → Type 0
  IsAnswered t side o = (s : Stepped) × (o ≡ Some s) × IsInStep holds (answered {F = F} t side s).0

  action_steps : (side : Side) (t : TripleTree) (w : WordTree) → IsInStep holds t → (r : Result DocTree Why)
      → act (near side left right) w (document_on side t) ≡ r → IsAnswered t side (after_action left right carried t side w r)
  action_steps side t w h (Ok x) is =
      let k = carries holds left right carried from_left from_right side t w x h is in
      (Ok (triple_from side x k.comp k.document, k.word), rw (k.carried, k.acts) refl, from_seen holds side x k.comp k.document k.consistent)
  action_steps side t w h (Err why) is = (Err why, refl, h)

  entry_steps : (t : TripleTree) (e : Side × WordTree) → IsInStep holds t → IsAnswered t e.0 (step left right carried t e)
  entry_steps t e h = action_steps e.0 t e.1 h _ refl

  -- an answer to a group from a first triple, with a triple that is in step
  abbrev IsGroupAnswered : TripleTree → List (Side × WordTree) → Option AllStepped → Type 0
  IsGroupAnswered t es o = (s : AllStepped) × (o ≡ Some s) × IsInStep holds (group_answered {F = F} t es s).0

  with_first_answered : (t u : TripleTree) (w : WordTree) (e : Side × WordTree) (es : List (Side × WordTree)) (o : Option AllStepped) → IsInStep holds t
      → IsGroupAnswered u es o → IsGroupAnswered t (e ∷ es) (option_map (with_first w) o)
  with_first_answered t u w e es o h (Ok s, is, k) = (Ok (s.0, w ∷ s.1), rw is refl, k)
  with_first_answered t u w e es o h (Err why, is, k) = (Err (why.0 + 1, why.1), rw is refl, h)

  first_answered : (t : TripleTree) (e : Side × WordTree) (es : List (Side × WordTree)) (o : Option Stepped) → IsInStep holds t → IsAnswered t e.0 o
      → ((u : TripleTree) → IsInStep holds u → IsGroupAnswered u es (step_each left right carried u es))
      → IsGroupAnswered t (e ∷ es) (option_and_then (after_first (λ u. step_each left right carried u es)) o)
  first_answered t e es o h (Ok s, is, k) others = rw is (with_first_answered t s.0 s.1 e es (step_each left right carried s.0 es) h (others s.0 k))
  first_answered t e es o h (Err why, is, k) others = (Err (0, why), rw is refl, h)

  -- the steps of a group are defined, and its triple is in step
  group_steps : (es : List (Side × WordTree)) (t : TripleTree) → IsInStep holds t → IsGroupAnswered t es (step_each left right carried t es)
  group_steps [] t h = (Ok (t, []), refl, h)
  group_steps (e ∷ es) t h = first_answered t e es (step left right carried t e) h (entry_steps t e h) (λ u k. group_steps es u k)

  -- the step of an item is defined, and its triple is in step
  change_steps : (t : TripleTree) (change : ChangeTree) → IsInStep holds t
      → (s : TripleTree × AnswerTree F) × (take_change left right carried t change ≡ Some s) × IsInStep holds s.0
  change_steps t (one e) h =
      let s = entry_steps t e h in
      (answered t e.0 s.0, rw s.1 refl, s.2)
  change_steps t (group es) h =
      let s = group_steps es t h in
      (group_answered t es s.0, rw s.1 refl, s.2)

  item_steps : (t : TripleTree) (item : Item F) → IsInStep holds t
      → (s : TripleTree × AnswerTree F) × (take_item left right carried t item ≡ Some s) × IsInStep holds s.0
  item_steps t (Ok change) h = change_steps t change h
  item_steps t (Err fault) h = ((t, _), refl, h)

  run_in_step : (t : TripleTree) (items : List (Item F)) → IsInStep holds t
      → (steps : List (TripleTree × AnswerTree F)) × (run left right carried t items ≡ Some steps) × AllByRecursion (IsInStep holds) (map (λ s. s.0) steps)
  run_in_step t [] h = ([], refl, tt)
  run_in_step t (item ∷ items) h =
      let s = item_steps t item h in
      let rest = run_in_step s.0.0 items s.2 in
      (s.0 ∷ rest.0, rw s.1 (rw rest.1 refl), (s.2, rest.2))

  pub runs_stay_in_step : RunsStayInStep F holds left right carried
  runs_stay_in_step t items h =
      let r = run_in_step t items h in
      (t ∷ map (λ s. s.0) r.0, rw r.1 refl, All-from_recursion (IsInStep holds) (t ∷ map (λ s. s.0) r.0) (h, r.2))

  -- ---- inside a group

  abbrev AreInner : Option (List TripleTree) → Type 0
  AreInner o = (ts : List TripleTree) × (o ≡ Some ts) × AllByRecursion (IsInStep holds) ts

  first_inner : (t : TripleTree) (e : Side × WordTree) (others : TripleTree → Option (List TripleTree)) (o : Option Stepped) → IsAnswered t e.0 o
      → ((u : TripleTree) → IsInStep holds u → AreInner (others u)) → AreInner (option_and_then (from_first others) o)
  first_inner t e others o (Ok s, is, k) h = let rest = h s.0 k in (s.0 ∷ rest.0, rw is (rw rest.1 refl), (k, rest.2))
  first_inner t e others o (Err why, is, k) h = ([], rw is refl, tt)

  inner_in_step : (es : List (Side × WordTree)) (t : TripleTree) → IsInStep holds t → AreInner (inner_triples left right carried t es)
  inner_in_step [] t h = ([], refl, tt)
  inner_in_step (e ∷ es) t h = first_inner t e (λ u. inner_triples left right carried u es) (step left right carried t e) (entry_steps t e h) (λ u k. inner_in_step es u k)

  pub groups_stay_in_step : GroupsStayInStep holds left right carried
  groups_stay_in_step t es h = let r = inner_in_step es t h in (r.0, r.1, All-from_recursion (IsInStep holds) r.0 r.2)

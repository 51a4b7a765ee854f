-- A hub with one view makes the steps of the session of that view's lens.
use Rattle.std.proofs.Common.{◌≡◌, List, [], ◌∷◌, map, Option, Some, None, option_map, option_and_then, Result, Ok, Err, refl, ap, ◌∙◌}
use Rattle.texts.specs.declared.side.Side.{Side}
use Rattle.texts.specs.declared.side.Side.TheVariants.{Left, Right}
use Rattle.doc_values.specs.Documents.{DocTree}
use Rattle.edit_module.specs.Action.{act, Why}
use Rattle.edit_module.specs.Words.{WordTree}
use Rattle.edit_session.specs.Step as sessions
use Rattle.edit_session.specs.Step.{TripleTree, Stepped, AllStepped, after_carrying, after_action, with_first, after_first}
use Rattle.lens_core.specs.Translation.{Translated, translate}
use Rattle.lens_forms.specs.Forms.{FormTree, left_type, right_type}
use Rattle.view_hub.specs.Groups.{GroupStepped, with_words, then_others, step_group}
use Rattle.view_hub.specs.Hubs.{ViewTree, HubTree, stepped, lowered, after_hub, after_lift, after_view}
use Rattle.hub_run.specs.FormLenses.{form_lens}
use Rattle.hub_records.specs.OneView.{hub_of_triple, edit_of_entry, acting, hub_stepped, hub_grouped, IsSessionStep, IsSessionGroup}

module _ (l : FormTree) where
  abbrev view_of : TripleTree → ViewTree
  view_of t = record { comp = t.comp; doc = t.right }

  -- ---- an edit of the hub

  far_of_hub : (t : TripleTree) (w : WordTree) (x : DocTree) (r : Translated) (a : Result DocTree Why)
      → option_map (stepped x w) (option_and_then (λ (p : ViewTree × WordTree). option_map (λ rs. p ∷ rs) (Some [])) (lowered form_lens r.0 r.1 a))
      ≡ option_map (hub_stepped (Left, w)) (after_carrying Left x r a)
  far_of_hub t w x r (Ok y) = refl
  far_of_hub t w x r (Err why) = refl

  carried_of_hub : (t : TripleTree) (w : WordTree) (x : DocTree) (o : Option Translated)
      → option_map (stepped x w) (option_and_then (λ (p : ViewTree × WordTree). option_map (λ rs. p ∷ rs) (Some [])) (option_and_then (λ r. lowered form_lens r.0 r.1 (act (right_type l) r.0 t.right)) o))
      ≡ option_map (hub_stepped (Left, w)) (option_and_then (λ r. after_carrying Left x r (act (right_type l) r.0 t.right)) o)
  carried_of_hub t w x (Some r) = far_of_hub t w x r (act (right_type l) r.0 t.right)
  carried_of_hub t w x None = refl

  acted_on_hub : (t : TripleTree) (w : WordTree) (a : Result DocTree Why)
      → after_hub form_lens (l ∷ []) (view_of t ∷ []) w a ≡ option_map (hub_stepped (Left, w)) (after_action (left_type l) (right_type l) (translate l) t Left w a)
  acted_on_hub t w (Ok x) = carried_of_hub t w x (translate l Left t.comp w)
  acted_on_hub t w (Err why) = refl

  -- ---- an edit of the view

  far_of_view : (t : TripleTree) (w : WordTree) (y : DocTree) (r : Translated) (a : Result DocTree Why)
      → after_lift form_lens (l ∷ []) (view_of t ∷ []) 0 (record { comp = r.1; doc = y }, w) r.0 a ≡ option_map (hub_stepped (Right, w)) (after_carrying Right y r a)
  far_of_view t w y r (Ok x) = refl
  far_of_view t w y r (Err why) = refl

  carried_of_view : (t : TripleTree) (w : WordTree) (y : DocTree) (o : Option Translated)
      → option_and_then (λ r. after_lift form_lens (l ∷ []) (view_of t ∷ []) 0 (record { comp = r.1; doc = y }, w) r.0 (act (left_type l) r.0 t.left)) o
      ≡ option_map (hub_stepped (Right, w)) (option_and_then (λ r. after_carrying Right y r (act (left_type l) r.0 t.left)) o)
  carried_of_view t w y (Some r) = far_of_view t w y r (act (left_type l) r.0 t.left)
  carried_of_view t w y None = refl

  acted_on_view : (t : TripleTree) (w : WordTree) (a : Result DocTree Why)
      → after_view form_lens (l ∷ []) (hub_of_triple t) 0 l t.comp w a ≡ option_map (hub_stepped (Right, w)) (after_action (left_type l) (right_type l) (translate l) t Right w a)
  acted_on_view t w (Ok y) = carried_of_view t w y (translate l Right t.comp w)
  acted_on_view t w (Err why) = refl

  pub one_step : (t : TripleTree) (e : Side × WordTree) → IsSessionStep l t e
  one_step t (Left, w) = acted_on_hub t w (act (left_type l) w t.left)
  one_step t (Right, w) = acted_on_view t w (act (right_type l) w t.right)

  -- ---- a group

  words_first : (e : Side × WordTree) (es : List (Side × WordTree)) (w : WordTree) (o : Option AllStepped)
      → option_map (with_words (acting e w)) (option_map (hub_grouped es) o) ≡ option_map (hub_grouped (e ∷ es)) (option_map (with_first w) o)
  words_first e es w (Some (Ok s)) = refl
  words_first e es w (Some (Err why)) = refl
  words_first e es w None = refl

  abbrev hub_others : List (Side × WordTree) → HubTree → Option GroupStepped
  hub_others es h = step_group form_lens (l ∷ []) h (map edit_of_entry es)

  abbrev others : List (Side × WordTree) → TripleTree → Option AllStepped
  others es t = sessions.step_each (left_type l) (right_type l) (translate l) t es

  first_stepped : (e : Side × WordTree) (es : List (Side × WordTree)) (o : Option Stepped) → ((t : TripleTree) → hub_others es (hub_of_triple t) ≡ option_map (hub_grouped es) (others es t))
      → option_and_then (then_others (hub_others es)) (option_map (hub_stepped e) o) ≡ option_map (hub_grouped (e ∷ es)) (option_and_then (after_first (others es)) o)
  first_stepped e es (Some (Ok s)) same = ap (option_map (with_words (acting e s.1))) (same s.0) ∙ words_first e es s.1 (others es s.0)
  first_stepped e es (Some (Err why)) same = refl
  first_stepped e es None same = refl

  pub one_group : (t : TripleTree) (es : List (Side × WordTree)) → IsSessionGroup l t es
  one_group t [] = refl
  one_group t (e ∷ es) =
      ap (option_and_then (then_others (hub_others es))) (one_step t e)
      ∙ first_stepped e es (sessions.step (left_type l) (right_type l) (translate l) t e) (λ u. one_group u es)

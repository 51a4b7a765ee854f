-- A hub whose lenses are those of forms makes the steps of the forms.
use Rattle.std.proofs.Common.{◌≡◌, ℕ, zero, suc, List, [], ◌∷◌, map, slice_get, Option, None, Some, option_map, option_and_then, Result, Ok, Err, refl, sym, ap, ◌∙◌}
use Rattle.texts.specs.declared.side.Side.TheVariants.{Right}
use Rattle.doc_values.specs.Documents.{DocTree}
use Rattle.doc_values.specs.Initial.{initial}
use Rattle.edit_module.specs.Action.{act, Why}
use Rattle.edit_module.specs.Words.{WordTree}
use Rattle.lens_core.specs.Complements.{CompTree}
use Rattle.lens_core.specs.declared.lens.EditLens as OfLens
use Rattle.lens_core.specs.Translation.{Translated}
use Rattle.view_hub.specs.Hubs.{ViewTree, HubTree, Place, at_hub, at_view, stepped, lower, lower_all, lower_others, after_hub, act_on_hub, after_lift, after_view, step_view, hub_step, first_view, start_hub}
use Rattle.hub_run.specs.FormLenses.{lens_by}
use Rattle.hub_run.specs.Runs.{HubItem, answer_of, take_hub_item}

-- the lenses of type L are seen as those of type F
module _ {L F : Type 0} (f : L → F) (lens : OfLens.Ghosts F) where
  abbrev by_f : OfLens.Ghosts L
  by_f = lens_by f lens

  all_lowered : (w : WordTree) (ls : List L) (vs : List ViewTree) → lower_all by_f w ls vs ≡ lower_all lens w (map f ls) vs
  all_lowered w [] [] = refl
  all_lowered w [] (v ∷ vs) = refl
  all_lowered w (l ∷ ls) [] = refl
  all_lowered w (l ∷ ls) (v ∷ vs) =
      ap (λ o. option_and_then (λ (r : ViewTree × WordTree). option_map (λ rs. r ∷ rs) o) (lower lens (f l) w v)) (all_lowered w ls vs)

  others_lowered : (w : WordTree) (own : ViewTree × WordTree) (k : ℕ) (ls : List L) (vs : List ViewTree)
      → lower_others by_f w own k ls vs ≡ lower_others lens w own k (map f ls) vs
  others_lowered w own zero [] [] = refl
  others_lowered w own zero [] (v ∷ vs) = refl
  others_lowered w own zero (l ∷ ls) [] = refl
  others_lowered w own zero (l ∷ ls) (v ∷ vs) = ap (option_map (λ rs. own ∷ rs)) (all_lowered w ls vs)
  others_lowered w own (suc k) [] [] = refl
  others_lowered w own (suc k) [] (v ∷ vs) = refl
  others_lowered w own (suc k) (l ∷ ls) [] = refl
  others_lowered w own (suc k) (l ∷ ls) (v ∷ vs) =
      ap (λ o. option_and_then (λ (r : ViewTree × WordTree). option_map (λ rs. r ∷ rs) o) (lower lens (f l) w v)) (others_lowered w own k ls vs)

  hub_acted : (ls : List L) (w : WordTree) (x : DocTree) → act_on_hub by_f ls w x ≡ act_on_hub lens (map f ls) w x
  hub_acted [] w x = refl
  hub_acted (l ∷ ls) w x = refl

  hub_stepped : (ls : List L) (vs : List ViewTree) (w : WordTree) (a : Result DocTree Why)
      → after_hub by_f ls vs w a ≡ after_hub lens (map f ls) vs w a
  hub_stepped ls vs w (Ok x) = ap (option_map (stepped x w)) (all_lowered w ls vs)
  hub_stepped ls vs w (Err why) = refl

  at_lifted : (ls : List L) (vs : List ViewTree) (k : ℕ) (own : ViewTree × WordTree) (w : WordTree) (a : Result DocTree Why)
      → after_lift by_f ls vs k own w a ≡ after_lift lens (map f ls) vs k own w a
  at_lifted ls vs k own w (Ok x) = ap (option_map (stepped x w)) (others_lowered w own k ls vs)
  at_lifted ls vs k own w (Err why) = refl

  at_translated : (ls : List L) (h : HubTree) (k : ℕ) (l : L) (w : WordTree) (y : DocTree) (o : Option Translated)
      → option_and_then (λ (r : Translated). after_lift by_f ls h.views k (record { comp = r.1; doc = y }, w) r.0 (act (lens.left_type (f l)) r.0 h.hub)) o
      ≡ option_and_then (λ (r : Translated). after_lift lens (map f ls) h.views k (record { comp = r.1; doc = y }, w) r.0 (act (lens.left_type (f l)) r.0 h.hub)) o
  at_translated ls h k l w y None = refl
  at_translated ls h k l w y (Some r) = at_lifted ls h.views k (record { comp = r.1; doc = y }, w) r.0 (act (lens.left_type (f l)) r.0 h.hub)

  view_stepped : (ls : List L) (h : HubTree) (k : ℕ) (l : L) (c : CompTree) (w : WordTree) (a : Result DocTree Why)
      → after_view by_f ls h k l c w a ≡ after_view lens (map f ls) h k (f l) c w a
  view_stepped ls h k l c w (Ok y) = at_translated ls h k l w y (lens.carried (f l) Right c w)
  view_stepped ls h k l c w (Err why) = refl

  got : (ls : List L) (k : ℕ) → slice_get (map f ls) k ≡ option_map f (slice_get ls k)
  got [] k = refl
  got (l ∷ ls) zero = refl
  got (l ∷ ls) (suc k) = got ls k

  at_lens : (ls : List L) (h : HubTree) (k : ℕ) (w : WordTree) (v : ViewTree) (o : Option L)
      → option_and_then (λ l. after_view by_f ls h k l v.comp w (act (lens.right_type (f l)) w v.doc)) o
      ≡ option_and_then (λ m. after_view lens (map f ls) h k m v.comp w (act (lens.right_type m) w v.doc)) (option_map f o)
  at_lens ls h k w v None = refl
  at_lens ls h k w v (Some l) = view_stepped ls h k l v.comp w (act (lens.right_type (f l)) w v.doc)

  at_view_stepped : (ls : List L) (h : HubTree) (k : ℕ) (w : WordTree) (o : Option ViewTree)
      → step_view by_f ls h k w o ≡ step_view lens (map f ls) h k w o
  at_view_stepped ls h k w (Some v) =
      at_lens ls h k w v (slice_get ls k)
      ∙ ap (option_and_then (λ m. after_view lens (map f ls) h k m v.comp w (act (lens.right_type m) w v.doc))) (sym (got ls k))
  at_view_stepped ls h k w None = refl

  at_hub_stepped : (ls : List L) (vs : List ViewTree) (w : WordTree) (o : Option (Result DocTree Why))
      → option_and_then (after_hub by_f ls vs w) o ≡ option_and_then (after_hub lens (map f ls) vs w) o
  at_hub_stepped ls vs w None = refl
  at_hub_stepped ls vs w (Some a) = hub_stepped ls vs w a

  pub steps_are : (ls : List L) (h : HubTree) (e : Place × WordTree) → hub_step by_f ls h e ≡ hub_step lens (map f ls) h e
  steps_are ls h (at_hub, w) =
      at_hub_stepped ls h.views w (act_on_hub by_f ls w h.hub)
      ∙ ap (option_and_then (after_hub lens (map f ls) h.views w)) (hub_acted ls w h.hub)
  steps_are ls h (at_view k, w) = at_view_stepped ls h k w (slice_get h.views k)

  pub items_are : (ls : List L) (h : HubTree) (item : HubItem) → take_hub_item by_f ls h item ≡ take_hub_item lens (map f ls) h item
  items_are ls h (Ok e) = ap (option_map (answer_of h)) (steps_are ls h e)
  items_are ls h (Err fault) = refl

  pub first_views : (ls : List L) → map (first_view by_f) ls ≡ map (first_view lens) (map f ls)
  first_views [] = refl
  first_views (l ∷ ls) = ap (λ vs. first_view lens (f l) ∷ vs) (first_views ls)

  pub starts_are : (ls : List L) → start_hub by_f ls ≡ start_hub lens (map f ls)
  starts_are [] = refl
  starts_are (l ∷ ls) = ap (λ vs. Some (record { hub = initial (lens.left_type (f l)); views = first_view lens (f l) ∷ vs })) (first_views ls)

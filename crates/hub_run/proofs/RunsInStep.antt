-- Each item of a journal has an answer, and keeps every view in step.
use Rattle.std.proofs.Common.{◌≡◌, List, [], ◌∷◌, Some, option_map, Result, Ok, Err, refl, sym, ap, subst}
use Rattle.texts.specs.declared.side.Side.TheVariants.{Left, Right}
use Rattle.lens_core.specs.Laws.{WordsCarry}
use Rattle.lens_core.specs.declared.lens.EditLens as OfLens
use Rattle.view_hub.specs.Hubs as hubs
use Rattle.view_hub.specs.Hubs.{HubTree, CarriedTree, hub_after}
use Rattle.view_hub.specs.Laws.{IsHub}
use Rattle.view_hub.proofs.HubSteps.{keeps}
use Rattle.hub_run.specs.Answers.{HubAnswerTree, no_edit}
use Rattle.hub_run.specs.Runs.{HubItem, answer_of, take_hub_item}

after_is : (h : HubTree) (r : Result (HubTree × CarriedTree) hubs.ViewRefusal) → (answer_of h r).0 ≡ hub_after h r
after_is h (Ok r) = refl
after_is h (Err (hubs.no_view views)) = refl
after_is h (Err (hubs.no_apply at cause)) = refl

module _ {L : Type 0} (lens : OfLens.Ghosts L)
    (from_left : (l : L) → WordsCarry (lens.holds l) (lens.left_type l) (lens.right_type l) Left (lens.carried l Left))
    (from_right : (l : L) → WordsCarry (lens.holds l) (lens.right_type l) (lens.left_type l) Right (lens.carried l Right)) where
  abbrev Hub : List L → HubTree → Type 0
  Hub = IsHub lens

  pub item_stays : (ls : List L) (h : HubTree) (item : HubItem) → Hub ls h → (s : HubTree × HubAnswerTree) × (take_hub_item lens ls h item ≡ Some s) × Hub ls s.0
  item_stays [] h item all = absurd all
  item_stays (l ∷ ls) h (Ok e) all =
      let k = keeps lens from_left from_right (lens.left_type l) l ls h e all in
      (answer_of h k.0, ap (option_map (answer_of h)) k.1, subst (λ (h' : HubTree). Hub (l ∷ ls) h') (sym (after_is h k.0)) k.2)
  item_stays (l ∷ ls) h (Err fault) all = ((h, no_edit fault), refl, all)

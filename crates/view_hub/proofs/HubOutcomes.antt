-- What the parts of a step make of it, by its definition.
use Rattle.std.proofs.Common.{◌≡◌, ℕ, suc, ◌<◌, ◌≤◌, List, [], ◌∷◌, length, map, slice_get, Option, None, Some, Result, Ok, Err, refl, sym, ap, ◌∙◌, subst, arith}
use Rattle.std.proofs.lemmas.Option.{slice_get_past}
use Rattle.texts.specs.declared.side.Side.TheVariants.{Left, Right}
use Rattle.doc_values.specs.Documents.{DocTree}
use Rattle.doc_values.specs.Types.{TyTree}
use Rattle.doc_values.specs.Initial.{initial}
use Rattle.edit_module.specs.Words.{WordTree}
use Rattle.edit_module.specs.Action.{act, Why}
use Rattle.lens_core.specs.declared.lens.EditLens as OfLens
use Rattle.lens_core.specs.Translation.{Translated}
use Rattle.lens_core.specs.Laws.{WordsCarry, StartTogether, TogetherAreTyped}
use Rattle.view_hub.specs.declared.fault.HubFault.{HubFault}
use Rattle.view_hub.specs.declared.fault.HubFault.TheVariants.{NoView, NoApply, NoMemory}
use Rattle.view_hub.specs.Hubs.{ViewTree, HubTree, Place, at_view, CarriedTree, no_view, hub_after, lower_others, hub_step, first_hub, start_hub}
use Rattle.view_hub.specs.Laws.{HaveOneLeftType, IsHub}
use Rattle.view_hub.specs.Lowering.{CanLower, Adds, IsLifted}
use Rattle.view_hub.specs.Views.{IsHubRefusal, IsActionFault}
use Rattle.view_hub.proofs.HubSteps.{AllIn, lowers, view_at, keeps, starts}
use Rattle.texts.proofs.Tests.{same_value}

module _ {L : Type 0} (lens : OfLens.Ghosts L) where
  -- a word of a view that was lifted and then carried to the other views makes a step
  pub view_steps : (ls : List L) (h : HubTree) (k : ℕ) (l : L) (v : ViewTree) (w : WordTree) (new : ViewTree) (up : WordTree) (x : DocTree) (vs : List ViewTree) (ws : List WordTree)
      → slice_get ls k ≡ Some l → slice_get h.views k ≡ Some v → IsLifted lens l h.hub v w new up x
      → Adds (lower_others lens up (new, w) k ls h.views) [] [] vs ws
      → hub_step lens ls h (at_view k, w) ≡ Some (Ok (record { hub = x; views = vs }, record { hub = up; views = ws }))
  view_steps ls h k l v w new up x vs ws lens_at view lifted adds =
      let acts = lifted.acts in
      let carries = lifted.carries in
      let hub_acts = lifted.hub_acts in
      let all = adds.is in
      let views : map (λ r. r.0) adds.results ≡ vs = sym adds.views_are in
      let words : map (λ r. r.1) adds.results ≡ ws = sym adds.words_are in
      rw (view, lens_at, acts, carries, hub_acts, all) (ap (λ vs. Some (Ok (record { hub = x; views = vs }, record { hub = up; views = map (λ r. r.1) adds.results }))) views
      ∙ ap (λ ws. Some (Ok (record { hub = x; views = vs }, record { hub = up; views = ws }))) words)

  -- a word that is refused at its own view refuses the step
  pub view_refuses : (ls : List L) (h : HubTree) (k : ℕ) (l : L) (v : ViewTree) (w : WordTree) (fault : HubFault)
      → slice_get ls k ≡ Some l → slice_get h.views k ≡ Some v → IsActionFault (act (lens.right_type l) w v.doc) fault
      → IsHubRefusal (hub_step lens ls h (at_view k, w)) fault
  view_refuses ls h k l v w (NoView views) lens_at view is = absurd is
  view_refuses ls h k l v w (NoApply at cause) lens_at view is = rw (view, lens_at, is) refl
  view_refuses ls h k l v w NoMemory lens_at view is = tt

  -- and so does a number that no view has
  pub no_view_refuses : (ls : List L) (h : HubTree) (k : ℕ) (w : WordTree) → slice_get h.views k ≡ None
      → hub_step lens ls h (at_view k, w) ≡ Some (Err (no_view (length h.views)))
  no_view_refuses ls h k w none = rw none refl

  pub past_refuses : (ls : List L) (h : HubTree) (k : ℕ) (w : WordTree) (n : ℕ) → length h.views ≡ n → n ≤ k
      → hub_step lens ls h (at_view k, w) ≡ Some (Err (no_view n))
  past_refuses ls h k w n count past =
      subst (λ n. hub_step lens ls h (at_view k, w) ≡ Some (Err (no_view n))) count
      (no_view_refuses ls h k w (slice_get_past h.views k (omega arith)))

module _ {L : Type 0} (lens : OfLens.Ghosts L)
    (from_left : (l : L) → WordsCarry (lens.holds l) (lens.left_type l) (lens.right_type l) Left (lens.carried l Left))
    (from_right : (l : L) → WordsCarry (lens.holds l) (lens.right_type l) (lens.left_type l) Right (lens.carried l Right)) where
  abbrev In : TyTree → List L → DocTree → List ViewTree → Type 0
  In = AllIn lens from_left from_right

  abbrev Hub : List L → HubTree → Type 0
  Hub = IsHub lens

  same_result : {A B : Type 0} {o : Option (Result A B)} {r : Result A B} {x : A} → o ≡ Some r → o ≡ Some (Ok x) → r ≡ Ok x
  same_result p q = cc

  -- a hub that made a step is in step again
  pub stays : (ls : List L) (h h' : HubTree) (e : Place × WordTree) (c : CarriedTree) → Hub ls h → hub_step lens ls h e ≡ Some (Ok (h', c)) → Hub ls h'
  stays [] h h' e c all is = absurd all
  stays (l ∷ ls) h h' e c all is =
      let k = keeps lens from_left from_right (lens.left_type l) l ls h e all in
      let same = same_result k.1 is in
      subst (λ r. In (lens.left_type l) (l ∷ ls) (hub_after h r).hub (hub_after h r).views) same k.2

  module _ (typed : (l : L) → TogetherAreTyped (lens.holds l) (lens.left_type l) (lens.right_type l)) where
    -- the views of a hub, on which a word acts, can be lowered
    pub in_can : (ty : TyTree) (ls : List L) (vs : List ViewTree) (w : WordTree) (x x' : DocTree) → In ty ls x vs → act ty w x ≡ Ok x'
        → CanLower lens w ls vs
    in_can ty [] [] w x x' all acts = tt
    in_can ty [] (v ∷ vs) w x x' all acts = absurd all
    in_can ty (l ∷ ls) [] w x x' all acts = absurd all
    in_can ty (l ∷ ls) (v ∷ vs) w x x' all acts =
        let one = lowers lens from_left from_right l w v x x' all.1 (subst (λ t. act t w x ≡ Ok x') (sym all.0) acts) in
        ((typed l x v.comp v.doc all.1).1, record { result = one.result; is = one.lowers }, in_can ty ls vs w x x' all.2 acts)

    -- a word that acts on the hub's document can be lowered to all its views
    pub hub_can : (ls : List L) (h : HubTree) (l : L) (w : WordTree) (x : DocTree) → Hub ls h → slice_get ls 0 ≡ Some l → act (lens.left_type l) w h.hub ≡ Ok x
        → CanLower lens w ls h.views
    hub_can [] h l w x all first acts = absurd all
    hub_can (m ∷ ls) h l w x all first acts =
        let same : m ≡ l = cc in
        in_can (lens.left_type m) (m ∷ ls) h.views w h.hub x all (subst (λ l. act (lens.left_type l) w h.hub ≡ Ok x) (sym same) acts)

    pub view_can : (ls : List L) (h : HubTree) (k : ℕ) (l : L) (v : ViewTree) (w : WordTree) (x : DocTree) → Hub ls h → slice_get ls k ≡ Some l → slice_get h.views k ≡ Some v
        → act (lens.left_type l) w h.hub ≡ Ok x → CanLower lens w ls h.views
    view_can [] h k l v w x all lens_at view acts = absurd all
    view_can (m ∷ ls) h k l v w x all lens_at view acts =
        let at = view_at lens from_left from_right (lens.left_type m) (m ∷ ls) h.views h.hub k v all view in
        let same : at.its_lens ≡ l = same_value at.lens_is lens_at in
        let same_type : lens.left_type l ≡ lens.left_type m = ap lens.left_type (sym same) ∙ at.same_type in
        in_can (lens.left_type m) (m ∷ ls) h.views w h.hub x all (subst (λ t. act t w h.hub ≡ Ok x) same_type acts)

  -- a word that acts on a view is carried to the hub, and acts there
  pub lift_fits : (l : L) (w : WordTree) (x : DocTree) (v : ViewTree) (y : DocTree) → lens.holds l x v.comp v.doc → act (lens.right_type l) w v.doc ≡ Ok y
      → lens.carried l Right v.comp w ≡ None → ⊥
  lift_fits l w x v y h acts none = let some = (from_right l w v.doc v.comp x y h acts).carried in cc

  pub lift_acts : (l : L) (w : WordTree) (x : DocTree) (v : ViewTree) (y : DocTree) (r : Translated) (why : Why) → lens.holds l x v.comp v.doc → act (lens.right_type l) w v.doc ≡ Ok y
      → lens.carried l Right v.comp w ≡ Some r → act (lens.left_type l) r.0 x ≡ Err why → ⊥
  lift_acts l w x v y r why h acts some refused =
      let k = from_right l w v.doc v.comp x y h acts in
      let same : (k.word, k.comp) ≡ r = same_value k.carried some in
      let here : act (lens.left_type l) r.0 x ≡ Ok k.document = ap (λ (r : Translated). act (lens.left_type l) r.0 x) (sym same) ∙ k.acts in
      cc

  -- a view is in step with the hub
  pub view_in_step : (ls : List L) (h : HubTree) (k : ℕ) (l : L) (v : ViewTree) → Hub ls h → slice_get ls k ≡ Some l → slice_get h.views k ≡ Some v → lens.holds l h.hub v.comp v.doc
  view_in_step [] h k l v all lens_at view = absurd all
  view_in_step (m ∷ ls) h k l v all lens_at view =
      let at = view_at lens from_left from_right (lens.left_type m) (m ∷ ls) h.views h.hub k v all view in
      let same : at.its_lens ≡ l = same_value at.lens_is lens_at in
      subst (λ l. lens.holds l h.hub v.comp v.doc) same at.in_step

  -- there is a lens for each view, and there is one
  in_length : (ty : TyTree) (ls : List L) (x : DocTree) (vs : List ViewTree) → In ty ls x vs → length ls ≡ length vs
  in_length ty [] x [] all = refl
  in_length ty [] x (v ∷ vs) all = absurd all
  in_length ty (l ∷ ls) x [] all = absurd all
  in_length ty (l ∷ ls) x (v ∷ vs) all = ap suc (in_length ty ls x vs all.2)

  pub hub_length : (ls : List L) (h : HubTree) → Hub ls h → length ls ≡ length h.views
  hub_length [] h all = absurd all
  hub_length (l ∷ ls) h all = in_length (lens.left_type l) (l ∷ ls) h.hub h.views all

  pub lens_within : (ls : List L) (h : HubTree) (k : ℕ) (n : ℕ) → Hub ls h → length h.views ≡ n → k < n → k < length ls
  lens_within ls h k n all count within = subst (λ m. k < m) (sym (hub_length ls h all ∙ count)) within

  pub some_lens : (ls : List L) (h : HubTree) → Hub ls h → 0 < length ls
  some_lens [] h all = absurd all
  some_lens (l ∷ ls) h all = omega arith

  -- a hub is in step at its start
  pub starts_in_step : ((l : L) → StartTogether (lens.holds l) (lens.left_type l) (lens.right_type l) (lens.start l)) → (ls : List L) (h : HubTree)
      → HaveOneLeftType lens ls → start_hub lens ls ≡ Some h → Hub ls h
  starts_in_step together [] h same is = absurd same
  starts_in_step together (l ∷ ls) h same is =
      let begun : first_hub lens l (l ∷ ls) ≡ h = cc in
      subst (λ (h : HubTree). Hub (l ∷ ls) h) begun
      (starts lens from_left from_right together (lens.left_type l) (initial (lens.left_type l)) (λ m is. ap initial (sym is)) (l ∷ ls) (refl, same))

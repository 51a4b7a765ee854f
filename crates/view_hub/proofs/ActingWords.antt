-- The words of a step act on the documents of a hub.
use Rattle.std.proofs.Common.{◌≡◌, ℕ, zero, suc, true, List, [], ◌∷◌, map, slice_get, Option, None, Some, Result, Ok, Err, refl, sym, subst}
use Rattle.std.specs.Prelude.{option_map, option_and_then}
use Rattle.texts.specs.declared.side.Side.TheVariants.{Left, Right}
use Rattle.doc_values.specs.Documents.{DocTree}
use Rattle.doc_values.specs.Types.{TyTree}
use Rattle.doc_values.specs.Typing.{has}
use Rattle.edit_module.specs.Action.{act, Why}
use Rattle.edit_module.specs.Words.{WordTree}
use Rattle.lens_core.specs.Complements.{CompTree}
use Rattle.lens_core.specs.Laws.{TogetherAreTyped}
use Rattle.lens_core.specs.Translation.{Translated}
use Rattle.lens_core.specs.declared.lens.EditLens as OfLens
use Rattle.view_hub.specs.Acting.{ViewsActTo, ActsTo, WordsAct}
use Rattle.view_hub.specs.Hubs.{ViewTree, HubTree, at_hub, at_view, CarriedTree, stepped, lowered, lower, lower_all, lower_others, after_hub, after_lift, after_view, step_view}
use Rattle.view_hub.specs.Laws.{AllInStep, IsHub}

abbrev Made : Type 0
Made = HubTree × CarriedTree

module _ {L : Type 0} (lens : OfLens.Ghosts L) (typed : (l : L) → TogetherAreTyped (lens.holds l) (lens.left_type l) (lens.right_type l)) where
  -- ---- the views

  abbrev views_of : List (ViewTree × WordTree) → List ViewTree
  views_of rs = map (λ r. r.0) rs

  abbrev words_of : List (ViewTree × WordTree) → List WordTree
  words_of rs = map (λ r. r.1) rs

  lowered_acts : (l : L) (v : ViewTree) (w : WordTree) (c : CompTree) (a : Result DocTree Why) (r : ViewTree × WordTree) → act (lens.right_type l) w v.doc ≡ a → lowered lens w c a ≡ Some r
      → act (lens.right_type l) r.1 v.doc ≡ Ok r.0.doc
  lowered_acts l v w c (Ok y) r acts is =
      let same : (record { comp = c; doc = y }, w) ≡ r = cc in
      subst (λ (x : ViewTree × WordTree). act (lens.right_type l) x.1 v.doc ≡ Ok x.0.doc) same acts
  lowered_acts l v w c (Err why) r acts is = cc

  carried_acts : (l : L) (v : ViewTree) (o : Option Translated) (r : ViewTree × WordTree)
      → option_and_then (λ t. lowered lens t.0 t.1 (act (lens.right_type l) t.0 v.doc)) o ≡ Some r → act (lens.right_type l) r.1 v.doc ≡ Ok r.0.doc
  carried_acts l v (Some t) r is = lowered_acts l v t.0 t.1 (act (lens.right_type l) t.0 v.doc) r refl is
  carried_acts l v None r is = cc

  lower_acts : (l : L) (w : WordTree) (v : ViewTree) (r : ViewTree × WordTree) → lower lens l w v ≡ Some r → act (lens.right_type l) r.1 v.doc ≡ Ok r.0.doc
  lower_acts l w v r is = carried_acts l v (lens.carried l Left v.comp w) r is

  -- one view and then the others
  both : (o : Option (ViewTree × WordTree)) (p : Option (List (ViewTree × WordTree))) (rs : List (ViewTree × WordTree))
      → option_and_then (λ r. option_map (λ more. r ∷ more) p) o ≡ Some rs
      → (r : ViewTree × WordTree) × (more : List (ViewTree × WordTree)) × (o ≡ Some r) × (p ≡ Some more) × (rs ≡ r ∷ more)
  both (Some r) (Some more) rs is = let same : r ∷ more ≡ rs = cc in (r, more, refl, refl, sym same)
  both (Some r) None rs is = cc
  both None p rs is = cc

  behind : (own : ViewTree × WordTree) (p : Option (List (ViewTree × WordTree))) (rs : List (ViewTree × WordTree)) → option_map (λ more. own ∷ more) p ≡ Some rs
      → (more : List (ViewTree × WordTree)) × (p ≡ Some more) × (rs ≡ own ∷ more)
  behind own (Some more) rs is = let same : own ∷ more ≡ rs = cc in (more, refl, sym same)
  behind own None rs is = cc

  right_has : (l : L) (x : DocTree) (v : ViewTree) → lens.holds l x v.comp v.doc → has (lens.right_type l) v.doc ≡ true
  right_has l x v h = (typed l x v.comp v.doc h).1

  all_act : (ty : TyTree) (ls : List L) (x : DocTree) (vs : List ViewTree) (w : WordTree) (rs : List (ViewTree × WordTree)) → AllInStep lens ty ls x vs → lower_all lens w ls vs ≡ Some rs
      → ViewsActTo lens ls vs (words_of rs) (views_of rs)
  all_act ty [] x [] w rs all is = let same : [] ≡ rs = cc in subst (λ (rs : List (ViewTree × WordTree)). ViewsActTo lens [] [] (words_of rs) (views_of rs)) same tt
  all_act ty [] x (v ∷ vs) w rs all is = absurd all
  all_act ty (l ∷ ls) x [] w rs all is = absurd all
  all_act ty (l ∷ ls) x (v ∷ vs) w rs all is =
      let b = both (lower lens l w v) (lower_all lens w ls vs) rs is in
      subst (λ (rs : List (ViewTree × WordTree)). ViewsActTo lens (l ∷ ls) (v ∷ vs) (words_of rs) (views_of rs)) (sym b.4)
      (right_has l x v all.1, lower_acts l w v b.0 b.2, all_act ty ls x vs w b.1 all.2 b.3)

  others_act : (ty : TyTree) (ls : List L) (x : DocTree) (vs : List ViewTree) (w : WordTree) (own : ViewTree × WordTree) (k : ℕ) (l : L) (v : ViewTree) (rs : List (ViewTree × WordTree))
      → AllInStep lens ty ls x vs → slice_get ls k ≡ Some l → slice_get vs k ≡ Some v → act (lens.right_type l) own.1 v.doc ≡ Ok own.0.doc
      → lower_others lens w own k ls vs ≡ Some rs → ViewsActTo lens ls vs (words_of rs) (views_of rs)
  others_act ty [] x [] w own k l v rs all lens_at view acts is = absurd cc
  others_act ty [] x (u ∷ vs) w own k l v rs all lens_at view acts is = absurd all
  others_act ty (m ∷ ls) x [] w own k l v rs all lens_at view acts is = absurd all
  others_act ty (m ∷ ls) x (u ∷ vs) w own zero l v rs all lens_at view acts is =
      let same_lens : m ≡ l = cc in
      let same_view : u ≡ v = cc in
      let b = behind own (lower_all lens w ls vs) rs is in
      let here : act (lens.right_type m) own.1 u.doc ≡ Ok own.0.doc =
      subst (λ (n : L). act (lens.right_type n) own.1 u.doc ≡ Ok own.0.doc) (sym same_lens) (subst (λ (z : ViewTree). act (lens.right_type l) own.1 z.doc ≡ Ok own.0.doc) (sym same_view) acts) in
      subst (λ (rs : List (ViewTree × WordTree)). ViewsActTo lens (m ∷ ls) (u ∷ vs) (words_of rs) (views_of rs)) (sym b.2)
      (right_has m x u all.1, here, all_act ty ls x vs w b.0 all.2 b.1)
  others_act ty (m ∷ ls) x (u ∷ vs) w own (suc k) l v rs all lens_at view acts is =
      let b = both (lower lens m w u) (lower_others lens w own k ls vs) rs is in
      subst (λ (rs : List (ViewTree × WordTree)). ViewsActTo lens (m ∷ ls) (u ∷ vs) (words_of rs) (views_of rs)) (sym b.4)
      (right_has m x u all.1, lower_acts m w u b.0 b.2, others_act ty ls x vs w own k l v b.1 all.2 lens_at view acts b.3)

  -- ---- a step

  abbrev Acts : List L → HubTree → Made → Type 0
  Acts ls h m = ActsTo lens ls h m.1 m.0

  -- the hub and the words of the views that were found
  made_of : (x : DocTree) (w : WordTree) (o : Option (List (ViewTree × WordTree))) (m : Made) → option_map (stepped x w) o ≡ Some (Ok m)
      → (rs : List (ViewTree × WordTree)) × (o ≡ Some rs) × (m ≡ (record { hub = x; views = views_of rs }, record { hub = w; views = words_of rs }))
  made_of x w (Some rs) m is =
      let same : (record { hub = x; views = views_of rs }, record { hub = w; views = words_of rs }) ≡ m = cc in
      (rs, refl, sym same)
  made_of x w None m is = cc

  first_has : (l : L) (ls : List L) (h : HubTree) → IsHub lens (l ∷ ls) h → has (lens.left_type l) h.hub ≡ true
  first_has l ls h all = by_views h.views all where
    by_views : (vs : List ViewTree) → AllInStep lens (lens.left_type l) (l ∷ ls) h.hub vs → has (lens.left_type l) h.hub ≡ true
    by_views [] a = absurd a
    by_views (v ∷ vs) a = (typed l h.hub v.comp v.doc a.1).0

  hub_step_acts : (l : L) (ls : List L) (h : HubTree) (w : WordTree) (a : Result DocTree Why) (m : Made) → IsHub lens (l ∷ ls) h → act (lens.left_type l) w h.hub ≡ a
      → after_hub lens (l ∷ ls) h.views w a ≡ Some (Ok m) → Acts (l ∷ ls) h m
  hub_step_acts l ls h w (Ok x) m all acts is =
      let o = made_of x w (lower_all lens w (l ∷ ls) h.views) m is in
      subst (Acts (l ∷ ls) h) (sym o.2) (record { hub = (first_has l ls h all, acts); views = all_act (lens.left_type l) (l ∷ ls) h.hub h.views w o.0 all o.1 })
  hub_step_acts l ls h w (Err why) m all acts is = cc

  lift_acts : (l : L) (ls : List L) (h : HubTree) (k : ℕ) (n : L) (v : ViewTree) (own : ViewTree × WordTree) (up : WordTree) (a : Result DocTree Why) (m : Made) → IsHub lens (l ∷ ls) h
      → slice_get (l ∷ ls) k ≡ Some n → slice_get h.views k ≡ Some v → lens.left_type n ≡ lens.left_type l → act (lens.right_type n) own.1 v.doc ≡ Ok own.0.doc → act (lens.left_type n) up h.hub ≡ a
      → after_lift lens (l ∷ ls) h.views k own up a ≡ Some (Ok m) → Acts (l ∷ ls) h m
  lift_acts l ls h k n v own up (Ok x) m all lens_at view same_left own_acts acts is =
      let o = made_of x up (lower_others lens up own k (l ∷ ls) h.views) m is in
      subst (Acts (l ∷ ls) h) (sym o.2) (record {
        hub = (first_has l ls h all, subst (λ t. act t up h.hub ≡ Ok x) same_left acts);
        views = others_act (lens.left_type l) (l ∷ ls) h.hub h.views up own k n v o.0 all lens_at view own_acts o.1;
      })
  lift_acts l ls h k n v own up (Err why) m all lens_at view same_left own_acts acts is = cc

  -- the lens at a place has the left type of all
  same_left_at : (ty : TyTree) (ls : List L) (x : DocTree) (vs : List ViewTree) (k : ℕ) (n : L) → AllInStep lens ty ls x vs → slice_get ls k ≡ Some n → lens.left_type n ≡ ty
  same_left_at ty [] x vs k n all is = cc
  same_left_at ty (m ∷ ls) x [] k n all is = absurd all
  same_left_at ty (m ∷ ls) x (v ∷ vs) zero n all is = let same : m ≡ n = cc in subst (λ (z : L). lens.left_type z ≡ ty) same all.0
  same_left_at ty (m ∷ ls) x (v ∷ vs) (suc k) n all is = same_left_at ty ls x vs k n all.2 is

  translated_acts : (l : L) (ls : List L) (h : HubTree) (k : ℕ) (n : L) (v : ViewTree) (w : WordTree) (y : DocTree) (o : Option Translated) (m : Made) → IsHub lens (l ∷ ls) h
      → slice_get (l ∷ ls) k ≡ Some n → slice_get h.views k ≡ Some v → act (lens.right_type n) w v.doc ≡ Ok y
      → option_and_then (λ r. after_lift lens (l ∷ ls) h.views k (record { comp = r.1; doc = y }, w) r.0 (act (lens.left_type n) r.0 h.hub)) o ≡ Some (Ok m) → Acts (l ∷ ls) h m
  translated_acts l ls h k n v w y (Some r) m all lens_at view acts is =
      lift_acts l ls h k n v (record { comp = r.1; doc = y }, w) r.0 (act (lens.left_type n) r.0 h.hub) m all lens_at view
      (same_left_at (lens.left_type l) (l ∷ ls) h.hub h.views k n all lens_at) acts refl is
  translated_acts l ls h k n v w y None m all lens_at view acts is = cc

  view_step_acts : (l : L) (ls : List L) (h : HubTree) (k : ℕ) (n : L) (v : ViewTree) (w : WordTree) (a : Result DocTree Why) (m : Made) → IsHub lens (l ∷ ls) h
      → slice_get (l ∷ ls) k ≡ Some n → slice_get h.views k ≡ Some v → act (lens.right_type n) w v.doc ≡ a
      → after_view lens (l ∷ ls) h k n v.comp w a ≡ Some (Ok m) → Acts (l ∷ ls) h m
  view_step_acts l ls h k n v w (Ok y) m all lens_at view acts is = translated_acts l ls h k n v w y (lens.carried n Right v.comp w) m all lens_at view acts is
  view_step_acts l ls h k n v w (Err why) m all lens_at view acts is = cc

  at_lens : (l : L) (ls : List L) (h : HubTree) (k : ℕ) (v : ViewTree) (w : WordTree) (o : Option L) (m : Made) → IsHub lens (l ∷ ls) h → slice_get (l ∷ ls) k ≡ o → slice_get h.views k ≡ Some v
      → option_and_then (λ n. after_view lens (l ∷ ls) h k n v.comp w (act (lens.right_type n) w v.doc)) o ≡ Some (Ok m) → Acts (l ∷ ls) h m
  at_lens l ls h k v w (Some n) m all lens_at view is = view_step_acts l ls h k n v w (act (lens.right_type n) w v.doc) m all lens_at view refl is
  at_lens l ls h k v w None m all lens_at view is = cc

  at_place : (l : L) (ls : List L) (h : HubTree) (k : ℕ) (w : WordTree) (o : Option ViewTree) (m : Made) → IsHub lens (l ∷ ls) h → slice_get h.views k ≡ o
      → step_view lens (l ∷ ls) h k w o ≡ Some (Ok m) → Acts (l ∷ ls) h m
  at_place l ls h k w (Some v) m all view is = at_lens l ls h k v w (slice_get (l ∷ ls) k) m all refl view is
  at_place l ls h k w None m all view is = cc

  pub words_act : WordsAct lens
  words_act [] h g e c all is = absurd all
  words_act (l ∷ ls) h g (at_hub, w) c all is = hub_step_acts l ls h w (act (lens.left_type l) w h.hub) (g, c) all refl is
  words_act (l ∷ ls) h g (at_view k, w) c all is = at_place l ls h k w (slice_get h.views k) (g, c) all refl is

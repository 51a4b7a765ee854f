-- The edits of a group as a loop goes over them, and the view that is added.
use Rattle.std.proofs.Common.{◌≡◌, ℕ, suc, true, ap₂, ◌+◌, ◌≤◌, ◌<◌, add-one, List, [], ◌∷◌, ◌++◌, append_assoc, length, length-append, drop, drop-cons, get_or, Option, Some, None, Ok, Err, refl, sym, ap, subst, ◌∙◌, arith}
use Rattle.std.specs.Prelude.{option_map}
use Rattle.std.proofs.lemmas.List.{drop_all, append-nil, map-append}
use Rattle.texts.specs.declared.side.Side.TheVariants.{Left, Right}
use Rattle.texts.proofs.Tests.{same_value}
use Rattle.doc_values.specs.Documents.{DocTree, doc_tree}
use Rattle.doc_values.specs.Types.{TyTree}
use Rattle.doc_values.specs.Initial.{initial}
use Rattle.doc_values.specs.Typing.{has}
use Rattle.edit_module.specs.Action.{act}
use Rattle.edit_module.specs.Words.{WordTree}
use Rattle.edit_module.specs.declared.word.Word.{Word}
use Rattle.lens_core.specs.Laws.{WordsCarry, StartTogether, TogetherAreTyped}
use Rattle.lens_core.specs.declared.lens.EditLens as OfLens
use Rattle.view_hub.specs.Groups.{GroupStepped, with_words, with_view, step_group, add_view}
use Rattle.view_hub.specs.Hubs.{ViewTree, HubTree, Place, CarriedTree, ViewRefusal, lower, hub_step, first_view}
use Rattle.view_hub.specs.Laws.{AllInStep, SameLeft, HaveOneLeftType, IsHub}
use Rattle.view_hub.specs.Lowering.{IsLowered}
use Rattle.view_hub.specs.Views.{edit_tree, edit_trees, hub_tree, view_tree, view_trees}
use Rattle.view_hub.specs.declared.side.HubSide.{HubSide}
use Rattle.view_hub.specs.declared.view.HubParts.{HubParts}
use Rattle.view_hub.specs.declared.view.View as a_view
use Rattle.view_hub.proofs.HubSteps.{lowers}

-- ---- a group

-- what the edits that are left make, behind the words that acted already; they are numbered from those words on
abbrev pub behind : List CarriedTree → GroupStepped → GroupStepped
behind cs (Ok s) = Ok (s.0, cs ++ s.1)
behind cs (Err why) = Err (length cs + why.0, why.1)

behind-none : (o : Option GroupStepped) → option_map (behind []) o ≡ o
behind-none None = refl
behind-none (Some (Ok s)) = refl
behind-none (Some (Err why)) = let e : 0 + why.0 ≡ why.0 = omega arith in ap (λ n. Some (Err (n, why.1))) e

behind-more : (cs : List CarriedTree) (c : CarriedTree) (o : Option GroupStepped) → option_map (behind cs) (option_map (with_words c) o) ≡ option_map (behind (cs ++ c ∷ [])) o
behind-more cs c None = refl
behind-more cs c (Some (Ok s)) = ap (λ l. Some (Ok (s.0, l))) (sym (append_assoc cs (c ∷ []) s.1))
behind-more cs c (Some (Err why)) =
    let e : length cs + (why.0 + 1) ≡ length (cs ++ c ∷ []) + why.0 = omega (arith, length-append cs (c ∷ [])) in
    ap (λ n. Some (Err (n, why.1))) e

module _ {L : Type 0} (lens : OfLens.Ghosts L) (ls : List L) where
  -- what the edits that are left make of a hub, behind the words that acted already
  abbrev pub remaining : List CarriedTree → HubTree → List (Place × WordTree) → Option GroupStepped
  remaining cs h es = option_map (behind cs) (step_group lens ls h es)

  pub remaining-first : (h : HubTree) (es : List (Place × WordTree)) → remaining [] h es ≡ step_group lens ls h es
  remaining-first h es = behind-none (step_group lens ls h es)

  -- an edit that is accepted leaves the others to do
  remaining-next : (cs : List CarriedTree) (h k : HubTree) (c : CarriedTree) (e : Place × WordTree) (es : List (Place × WordTree))
      → hub_step lens ls h e ≡ Some (Ok (k, c)) → remaining cs h (e ∷ es) ≡ remaining (cs ++ c ∷ []) k es
  remaining-next cs h k c e es is = rw is (behind-more cs c (step_group lens ls k es))

  -- an edit that is refused refuses all, with the number of those before it
  remaining-refused : (cs : List CarriedTree) (h : HubTree) (why : ViewRefusal) (e : Place × WordTree) (es : List (Place × WordTree))
      → hub_step lens ls h e ≡ Some (Err why) → remaining cs h (e ∷ es) ≡ Some (Err (length cs, why))
  remaining-refused cs h why e es is =
      let none : length cs + 0 ≡ length cs = omega arith in
      rw is (ap (λ n. Some (Err (n, why))) none)

  -- the same of the edit with a number in a list of them
  pub next_accepted : (es : List (HubSide × Word)) (i : ℕ) (e : HubSide × Word) (cs : List CarriedTree) (h k : HubTree) (c : CarriedTree) → i < length es → e ≡ get_or es i e
      → hub_step lens ls h (edit_tree e) ≡ Some (Ok (k, c))
      → remaining cs h (edit_trees (drop i es)) ≡ remaining (cs ++ c ∷ []) k (edit_trees (drop (i + 1) es))
  next_accepted es i e cs h k c within is accepted =
      let steps : hub_step lens ls h (edit_tree (get_or es i e)) ≡ Some (Ok (k, c)) = ap (λ x. hub_step lens ls h (edit_tree x)) (sym is) ∙ accepted in
      rw (drop-cons es i e, add-one i) (remaining-next cs h k c (edit_tree (get_or es i e)) (edit_trees (drop (suc i) es)) steps)

  pub next_refused : (es : List (HubSide × Word)) (i : ℕ) (e : HubSide × Word) (cs : List CarriedTree) (h : HubTree) (why : ViewRefusal) → i < length es → e ≡ get_or es i e
      → hub_step lens ls h (edit_tree e) ≡ Some (Err why)
      → remaining cs h (edit_trees (drop i es)) ≡ Some (Err (length cs, why))
  next_refused es i e cs h why within is refused =
      let steps : hub_step lens ls h (edit_tree (get_or es i e)) ≡ Some (Err why) = ap (λ x. hub_step lens ls h (edit_tree x)) (sym is) ∙ refused in
      rw (drop-cons es i e) (remaining-refused cs h why (edit_tree (get_or es i e)) (edit_trees (drop (suc i) es)) steps)

  -- no edits are left
  pub none_remain : (es : List (HubSide × Word)) (i : ℕ) (cs : List CarriedTree) (h : HubTree) → length es ≤ i → remaining cs h (edit_trees (drop i es)) ≡ Some (Ok (h, cs))
  none_remain es i cs h past = rw (drop_all i es past) (ap (λ l. Some (Ok (h, l))) (append-nil cs))

-- ---- a view more

module _ {L : Type 0} (lens : OfLens.Ghosts L)
    (from_left : (l : L) → WordsCarry (lens.holds l) (lens.left_type l) (lens.right_type l) Left (lens.carried l Left))
    (from_right : (l : L) → WordsCarry (lens.holds l) (lens.right_type l) (lens.left_type l) Right (lens.carried l Right))
    (together : (l : L) → StartTogether (lens.holds l) (lens.left_type l) (lens.right_type l) (lens.start l)) where
  -- a word that applies to the initial document is carried to the first view
  pub first_lowered : (l : L) (w : WordTree) (x : DocTree) → act (lens.left_type l) w (initial (lens.left_type l)) ≡ Ok x → IsLowered (lower lens l w (first_view lens l))
  first_lowered l w x acts =
      let one = lowers lens from_left from_right l w (first_view lens l) (initial (lens.left_type l)) x (together l) acts in
      record { result = one.result; is = one.lowers }

  -- the views of a hub with one more
  all_more : (ty : TyTree) (ls : List L) (l : L) (x : DocTree) (vs : List ViewTree) (v : ViewTree) → lens.left_type l ≡ ty → AllInStep lens ty ls x vs → lens.holds l x v.comp v.doc
      → AllInStep lens ty (ls ++ l ∷ []) x (vs ++ v ∷ [])
  all_more ty [] l x [] v left all holds = (left, holds, tt)
  all_more ty [] l x (u ∷ vs) v left all holds = absurd all
  all_more ty (m ∷ ls) l x [] v left all holds = absurd all
  all_more ty (m ∷ ls) l x (u ∷ vs) v left all holds = (all.0, all.1, all_more ty ls l x vs v left all.2 holds)

  last_left : (ty : TyTree) (ls : List L) (l : L) → SameLeft lens ty (ls ++ l ∷ []) → lens.left_type l ≡ ty
  last_left ty [] l same = same.0
  last_left ty (m ∷ ls) l same = last_left ty ls l same.1

  view_holds : (l : L) (w : WordTree) (x : DocTree) (v : ViewTree) (c : WordTree) → act (lens.left_type l) w (initial (lens.left_type l)) ≡ Ok x
      → lower lens l w (first_view lens l) ≡ Some (v, c) → lens.holds l x v.comp v.doc
  view_holds l w x v c acts is =
      let one = lowers lens from_left from_right l w (first_view lens l) (initial (lens.left_type l)) x (together l) acts in
      let same : one.result ≡ (v, c) = same_value one.lowers is in
      subst (λ (r : ViewTree × WordTree). lens.holds l x r.0.comp r.0.doc) same one.in_step

  added-at : (h k : HubTree) (o : Option (ViewTree × WordTree)) → option_map (λ r. with_view h r.0) o ≡ Some k → (r : ViewTree × WordTree) × (o ≡ Some r) × (with_view h r.0 ≡ k)
  added-at h k (Some r) is = (r, refl, cc)
  added-at h k None is = cc

  -- a hub with a view more is in step
  pub added_in_step : (ls : List L) (l : L) (w : WordTree) (h k : HubTree) → IsHub lens ls h → HaveOneLeftType lens (ls ++ l ∷ [])
      → act (lens.left_type l) w (initial (lens.left_type l)) ≡ Ok h.hub → add_view lens l w h ≡ Some k → IsHub lens (ls ++ l ∷ []) k
  added_in_step [] l w h k all one acts is = absurd all
  added_in_step (m ∷ ls) l w h k all one acts is =
      let a = added-at h k (lower lens l w (first_view lens l)) is in
      subst (λ (k : HubTree). IsHub lens (m ∷ ls ++ l ∷ []) k) a.2
      (all_more (lens.left_type m) (m ∷ ls) l h.hub h.views a.0.0 (last_left (lens.left_type m) ls l one) all
      (view_holds l w h.hub a.0.0 a.0.1 acts a.1))

-- ---- the parts with a view more

pub view_added : {L : Type 0} (lens : OfLens.Ghosts L) (l : L) (w c : WordTree) (h : HubTree) (before after : HubParts) (v : a_view.View) → lower lens l w (first_view lens l) ≡ Some (view_tree v, c)
    → hub_tree before ≡ h → doc_tree after.hub.value ≡ doc_tree before.hub.value → after.views.items ≡ before.views.items ++ v ∷ [] → add_view lens l w h ≡ Some (hub_tree after)
view_added lens l w c h before after v is copy same_hub longer =
    let views : view_trees after.views.items ≡ view_trees before.views.items ++ view_tree v ∷ [] = ap view_trees longer ∙ map-append view_tree before.views.items (v ∷ []) in
    let made : hub_tree after ≡ with_view (hub_tree before) (view_tree v) = ap₂ (λ (x : DocTree) (vs : List ViewTree). record { hub = x; views = vs }) same_hub views in
    ap (option_map (λ (r : ViewTree × WordTree). with_view h r.0)) is ∙ ap (λ (k : HubTree). Some (with_view k (view_tree v))) (sym copy) ∙ ap Some (sym made)

-- the first view has its lens's right type
pub first_has : {L : Type 0} (lens : OfLens.Ghosts L) (typed : (l : L) → TogetherAreTyped (lens.holds l) (lens.left_type l) (lens.right_type l))
    (together : (l : L) → StartTogether (lens.holds l) (lens.left_type l) (lens.right_type l) (lens.start l)) (l : L) (v : ViewTree) → v ≡ first_view lens l → has (lens.right_type l) v.doc ≡ true
first_has lens typed together l v is =
    ap (λ (u : ViewTree). has (lens.right_type l) u.doc) is
    ∙ (typed l (initial (lens.left_type l)) (lens.start l) (initial (lens.right_type l)) (together l)).1

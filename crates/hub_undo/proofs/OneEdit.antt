-- The words that take one edit back: they are the inverses of the words that acted.
use Rattle.std.proofs.Common.{◌≡◌, ℕ, zero, suc, ◌+◌, ◌<◌, ◌≤◌, add-one, true, List, [], ◌∷◌, ◌++◌, append_assoc, append-nil, length, drop, drop-cons, get_or, map, Option, Some, Result, Ok, Err, refl, sym, ap, ap₂, subst, ◌∙◌, arith}
use Rattle.std.proofs.lemmas.List.{drop_all, map-append, length-map}
use Rattle.doc_values.specs.Documents.{DocTree}
use Rattle.doc_values.specs.Types.{TyTree}
use Rattle.doc_values.specs.Typing.{has}
use Rattle.edit_inverse.specs.Inverse.{inverse}
use Rattle.edit_inverse.specs.Laws.{TakesBack}
use Rattle.edit_module.specs.Action.{Why, act}
use Rattle.edit_module.specs.Views.{word_tree, word_trees}
use Rattle.edit_module.specs.Words.{WordTree}
use Rattle.edit_module.specs.declared.fault.Cause.{Cause}
use Rattle.edit_module.specs.declared.word.Word.{Word}
use Rattle.lens_core.specs.declared.lens.EditLens as OfLens
use Rattle.view_hub.specs.Acting.{ActsTo, ViewsActTo, WordsAct}
use Rattle.view_hub.specs.Hubs.{ViewTree, HubTree, Place, CarriedTree, ViewRefusal, no_view, no_apply, hub_step}
use Rattle.view_hub.specs.Laws.{IsHub}
use Rattle.view_hub.specs.Views.{IsHubRefusal, view_tree, view_trees}
use Rattle.view_hub.specs.declared.fault.HubFault.{HubFault}
use Rattle.view_hub.specs.declared.fault.HubFault.TheVariants.{NoView, NoApply}
use Rattle.view_hub.specs.declared.view.View.{View}
use Rattle.hub_undo.specs.HubUndone.{HubBringsBack, BringViewsBack, undone_step, undone_views}
use Rattle.hub_undo.specs.UndoSteps.{UndoesEdit}

-- what takes a result back takes the document back that is the result
pub taken_back : (t : TyTree) (back : WordTree) (r : Result DocTree Why) (x y : DocTree) → TakesBack t back r x → r ≡ Ok y → act t back y ≡ Ok x
taken_back t back r x y takes is = subst (λ (o : Result DocTree Why). TakesBack t back o x) is takes

-- what is left of a list behind its first items
drop_next : {X : Type 0} (xs : List X) (n : ℕ) (x : X) (rest : List X) → drop n xs ≡ x ∷ rest → drop (suc n) xs ≡ rest
drop_next [] zero x rest h = cc
drop_next [] (suc n) x rest h = cc
drop_next (y ∷ xs) zero x rest h = let same : xs ≡ rest = cc in same
drop_next (y ∷ xs) (suc n) x rest h = drop_next xs n x rest h

module _ {L : Type 0} (lens : OfLens.Ghosts L) where
  -- there is a lens
  pub some_lens : (ls : List L) (h : HubTree) → IsHub lens ls h → 0 < length ls
  some_lens [] h all = absurd all
  some_lens (l ∷ ls) h all = omega arith

  -- as many words and views as lenses
  pub acts_count : (ls : List L) (vs : List ViewTree) (ws : List WordTree) (us : List ViewTree) → ViewsActTo lens ls vs ws us → (length ls ≡ length ws) × (length vs ≡ length ws)
  acts_count [] [] [] us all = (refl, refl)
  acts_count [] [] (w ∷ ws) us all = absurd all
  acts_count [] (v ∷ vs) ws us all = absurd all
  acts_count (l ∷ ls) [] ws us all = absurd all
  acts_count (l ∷ ls) (v ∷ vs) [] us all = absurd all
  acts_count (l ∷ ls) (v ∷ vs) (w ∷ ws) [] all = absurd all
  acts_count (l ∷ ls) (v ∷ vs) (w ∷ ws) (u ∷ us) all =
      let more = acts_count ls vs ws us all.2 in
      (ap suc more.0, ap suc more.1)

  -- ---- the loop over views

  -- these words take the first views back, whatever words take the others back
  pub record Going (ls : List L) (vs : List ViewTree) (ws : List WordTree) (us : List ViewTree) (n : ℕ) (built : List WordTree) : Type 0 where
    pub acts : ViewsActTo lens (drop n ls) (drop n vs) (drop n ws) (drop n us)
    pub back : (more : List WordTree) → BringViewsBack lens (drop n ls) more (drop n us) (drop n vs) → BringViewsBack lens ls (built ++ more) us vs

  pub going_first : (ls : List L) (vs : List ViewTree) (ws : List WordTree) (us : List ViewTree) → ViewsActTo lens ls vs ws us → Going ls vs ws us 0 []
  going_first ls vs ws us acts = record { acts = acts; back = λ more b. b }

  -- the view with a number, and its word
  pub record Here (l : L) (v : ViewTree) (w : WordTree) : Type 0 where
    pub typed : has (lens.right_type l) v.doc ≡ true
    pub after : DocTree
    pub acts : act (lens.right_type l) w v.doc ≡ Ok after

  module _ (ls : List L) (vs : List ViewTree) (ws : List WordTree) (us : List ViewTree) (n : ℕ) (l : L) (v : ViewTree) (w : WordTree)
      (at_lens : drop n ls ≡ l ∷ drop (suc n) ls) (at_view : drop n vs ≡ v ∷ drop (suc n) vs) (at_word : drop n ws ≡ w ∷ drop (suc n) ws) where
    acts_here : ViewsActTo lens (drop n ls) (drop n vs) (drop n ws) (drop n us) → ViewsActTo lens (l ∷ drop (suc n) ls) (v ∷ drop (suc n) vs) (w ∷ drop (suc n) ws) (drop n us)
    acts_here acts =
        subst (λ xs. ViewsActTo lens xs (v ∷ drop (suc n) vs) (w ∷ drop (suc n) ws) (drop n us)) at_lens
        (subst (λ xs. ViewsActTo lens (drop n ls) xs (w ∷ drop (suc n) ws) (drop n us)) at_view
        (subst (λ xs. ViewsActTo lens (drop n ls) (drop n vs) xs (drop n us)) at_word acts))

    here_of : (rest : List ViewTree) → ViewsActTo lens (l ∷ drop (suc n) ls) (v ∷ drop (suc n) vs) (w ∷ drop (suc n) ws) rest → Here l v w
    here_of [] acts = absurd acts
    here_of (u ∷ rest) acts = record { typed = acts.0; after = u.doc; acts = acts.1 }

    pub here : (built : List WordTree) → Going ls vs ws us n built → Here l v w
    here built g = here_of (drop n us) (acts_here g.acts)

    next_of : (built : List WordTree) (b : WordTree) (rest : List ViewTree) → TakesBack (lens.right_type l) b (act (lens.right_type l) w v.doc) v.doc → Going ls vs ws us n built → drop n us ≡ rest
        → ViewsActTo lens (l ∷ drop (suc n) ls) (v ∷ drop (suc n) vs) (w ∷ drop (suc n) ws) rest → Going ls vs ws us (suc n) (built ++ b ∷ [])
    next_of built b [] takes g is acts = absurd acts
    next_of built b (u ∷ rest) takes g is acts =
        let later = drop_next us n u rest is in
        let brings = taken_back (lens.right_type l) b (act (lens.right_type l) w v.doc) v.doc u.doc takes acts.1 in
        record {
          acts = subst (λ xs. ViewsActTo lens (drop (suc n) ls) (drop (suc n) vs) (drop (suc n) ws) xs) (sym later) acts.2;
          back = λ more bs.
              let behind = subst (λ xs. BringViewsBack lens (drop (suc n) ls) more xs (drop (suc n) vs)) later bs in
              let all : BringViewsBack lens (l ∷ drop (suc n) ls) (b ∷ more) (u ∷ rest) (v ∷ drop (suc n) vs) = (brings, behind) in
              let at_ls = subst (λ xs. BringViewsBack lens xs (b ∷ more) (u ∷ rest) (v ∷ drop (suc n) vs)) (sym at_lens) all in
              let at_us = subst (λ xs. BringViewsBack lens (drop n ls) (b ∷ more) xs (v ∷ drop (suc n) vs)) (sym is) at_ls in
              let at_vs = subst (λ xs. BringViewsBack lens (drop n ls) (b ∷ more) (drop n us) xs) (sym at_view) at_us in
              subst (λ xs. BringViewsBack lens ls xs us vs) (sym (append_assoc built (b ∷ []) more)) (g.back (b ∷ more) at_vs);
        }

    pub going_next : (built : List WordTree) (b : WordTree) → TakesBack (lens.right_type l) b (act (lens.right_type l) w v.doc) v.doc → Going ls vs ws us n built
        → Going ls vs ws us (suc n) (built ++ b ∷ [])
    going_next built b takes g = next_of built b (drop n us) takes g refl (acts_here g.acts)

    -- the words so far, and those of the views that are left
    pub undone_next : (built : List WordTree) (all : List WordTree) → built ++ undone_views lens (drop n ls) (drop n vs) (drop n ws) ≡ all
        → (built ++ inverse (lens.right_type l) w v.doc ∷ []) ++ undone_views lens (drop (suc n) ls) (drop (suc n) vs) (drop (suc n) ws) ≡ all
    undone_next built all is =
        append_assoc built (inverse (lens.right_type l) w v.doc ∷ []) (undone_views lens (drop (suc n) ls) (drop (suc n) vs) (drop (suc n) ws))
        ∙ ap (λ xs. built ++ undone_views lens (l ∷ drop (suc n) ls) (v ∷ drop (suc n) vs) xs) (sym at_word)
        ∙ ap (λ xs. built ++ undone_views lens (l ∷ drop (suc n) ls) xs (drop n ws)) (sym at_view)
        ∙ ap (λ xs. built ++ undone_views lens xs (drop n vs) (drop n ws)) (sym at_lens)
        ∙ is

  -- no view is left
  ends_of : (us : List ViewTree) → ViewsActTo lens [] [] [] us → BringViewsBack lens [] [] us []
  ends_of [] acts = tt
  ends_of (u ∷ us) acts = absurd acts

  pub going_end : (ls : List L) (vs : List ViewTree) (ws : List WordTree) (us : List ViewTree) (n : ℕ) (built : List WordTree) → drop n ls ≡ [] → drop n vs ≡ [] → drop n ws ≡ []
      → Going ls vs ws us n built → BringViewsBack lens ls built us vs
  going_end ls vs ws us n built past_lenses past_views past_words g =
      let acts = subst (λ xs. ViewsActTo lens xs [] [] (drop n us)) past_lenses
      (subst (λ xs. ViewsActTo lens (drop n ls) xs [] (drop n us)) past_views (subst (λ xs. ViewsActTo lens (drop n ls) (drop n vs) xs (drop n us)) past_words g.acts)) in
      let ends = ends_of (drop n us) acts in
      let at_ls = subst (λ xs. BringViewsBack lens xs [] (drop n us) []) (sym past_lenses) ends in
      let at_vs = subst (λ xs. BringViewsBack lens (drop n ls) [] (drop n us) xs) (sym past_views) at_ls in
      subst (λ xs. BringViewsBack lens ls xs us vs) (append-nil built) (g.back [] at_vs)

-- ---- an item of a list, and those behind it

pub item_at : {X : Type 0} (xs : List X) (n : ℕ) (x : X) → n < length xs → x ≡ get_or xs n x → drop n xs ≡ x ∷ drop (suc n) xs
item_at xs n x within is = drop-cons xs n x within ∙ ap (λ y. y ∷ drop (suc n) xs) (sym is)

pub mapped_at : {X Y : Type 0} (f : X → Y) (xs : List X) (n : ℕ) (x : X) → n < length xs → x ≡ get_or xs n x → drop n (map f xs) ≡ f x ∷ drop (suc n) (map f xs)
mapped_at f [] n x within is = absurd (omega (arith, within))
mapped_at f (y ∷ xs) zero x within is = ap (λ z. f z ∷ map f xs) (sym is)
mapped_at f (y ∷ xs) (suc n) x within is = mapped_at f xs n x (omega (arith, within)) is

none_mapped : {X Y : Type 0} (f : X → Y) (xs : List X) (n : ℕ) → length xs ≤ n → drop n (map f xs) ≡ []
none_mapped f xs n past = drop_all n (map f xs) (omega (arith, length-map xs f, past))

-- ---- the same of the values of the code

module _ {L : Type 0} (lens : OfLens.Ghosts L) (ls : List L) (vs : List View) (ws : List Word) where
  -- what is known before the view with this number
  pub record ViewsSoFar (n : ℕ) (built : List Word) : Type 0 where
    pub is : word_trees built ++ undone_views lens (drop n ls) (drop n (view_trees vs)) (drop n (word_trees ws)) ≡ undone_views lens ls (view_trees vs) (word_trees ws)
    pub back : (us : List ViewTree) → ViewsActTo lens ls (view_trees vs) (word_trees ws) us → Going lens ls (view_trees vs) (word_trees ws) us n (word_trees built)

  pub so_far_first : (built : List Word) → built ≡ [] → ViewsSoFar 0 built
  so_far_first built none =
      subst (λ (x : List Word). ViewsSoFar 0 x) (sym none) (record { is = refl; back = λ us acts. going_first lens ls (view_trees vs) (word_trees ws) us acts })

  module _ (n : ℕ) (l : L) (v : View) (w : Word) (lenses : length ls ≡ length ws) (views : length vs ≡ length ws) (within : n < length ws)
      (is_lens : l ≡ get_or ls n l) (is_view : v ≡ get_or vs n v) (is_word : w ≡ get_or ws n w) where
    abbrev at_lens : drop n ls ≡ l ∷ drop (suc n) ls
    at_lens = item_at ls n l (omega (arith, within, lenses)) is_lens

    abbrev at_view : drop n (view_trees vs) ≡ view_tree v ∷ drop (suc n) (view_trees vs)
    at_view = mapped_at view_tree vs n v (omega (arith, within, views)) is_view

    abbrev at_word : drop n (word_trees ws) ≡ word_tree w ∷ drop (suc n) (word_trees ws)
    at_word = mapped_at word_tree ws n w within is_word

    -- the word acts on the view's document, which has its type
    pub acts_at : (built : List Word) (us : List ViewTree) → ViewsActTo lens ls (view_trees vs) (word_trees ws) us → ViewsSoFar n built → Here lens l (view_tree v) (word_tree w)
    acts_at built us acts so_far =
        here lens ls (view_trees vs) (word_trees ws) us n l (view_tree v) (word_tree w) at_lens at_view at_word (word_trees built) (so_far.back us acts)

    pub so_far_next : (built more : List Word) (b : Word) → word_tree b ≡ inverse (lens.right_type l) (word_tree w) (view_tree v).doc
        → TakesBack (lens.right_type l) (word_tree b) (act (lens.right_type l) (word_tree w) (view_tree v).doc) (view_tree v).doc → more ≡ built ++ b ∷ [] → ViewsSoFar n built → ViewsSoFar (n + 1) more
    so_far_next built more b inverse_is takes made so_far =
        let trees : word_trees more ≡ word_trees built ++ word_tree b ∷ [] = ap word_trees made ∙ map-append word_tree built (b ∷ []) in
        let to_inverse : word_trees more ≡ word_trees built ++ inverse (lens.right_type l) (word_tree w) (view_tree v).doc ∷ [] = trees ∙ ap (λ x. word_trees built ++ x ∷ []) inverse_is in
        rw (add-one n) (record {
          is =
              ap (λ xs. xs ++ undone_views lens (drop (suc n) ls) (drop (suc n) (view_trees vs)) (drop (suc n) (word_trees ws))) to_inverse
              ∙ undone_next lens ls (view_trees vs) (word_trees ws) [] n l (view_tree v) (word_tree w) at_lens at_view at_word (word_trees built) (undone_views lens ls (view_trees vs) (word_trees ws)) so_far.is;
          back = λ us acts.
              subst (λ xs. Going lens ls (view_trees vs) (word_trees ws) us (suc n) xs) (sym trees)
              (going_next lens ls (view_trees vs) (word_trees ws) us n l (view_tree v) (word_tree w) at_lens at_view at_word (word_trees built) (word_tree b) takes (so_far.back us acts));
        })

  module _ (n : ℕ) (built : List Word) (lenses : length ls ≡ length ws) (views : length vs ≡ length ws) (past : length ws ≤ n) (so_far : ViewsSoFar n built) where
    no_lens : drop n ls ≡ []
    no_lens = drop_all n ls (omega (arith, past, lenses))

    pub words_end : word_trees built ≡ undone_views lens ls (view_trees vs) (word_trees ws)
    words_end =
        sym (append-nil (word_trees built))
        ∙ ap (λ xs. word_trees built ++ undone_views lens xs (drop n (view_trees vs)) (drop n (word_trees ws))) (sym no_lens)
        ∙ so_far.is

    pub back_end : (us : List ViewTree) → ViewsActTo lens ls (view_trees vs) (word_trees ws) us → BringViewsBack lens ls (word_trees built) us (view_trees vs)
    back_end us acts =
        going_end lens ls (view_trees vs) (word_trees ws) us n (word_trees built) no_lens (none_mapped view_tree vs n (omega (arith, past, views))) (none_mapped word_tree ws n past)
        (so_far.back us acts)

-- ---- an edit

pub acts_or_not : (r : Result DocTree Why) (y : DocTree) (why : Why) → r ≡ Ok y → r ≡ Err why → ⊥
acts_or_not r y why e f = let never : Ok y ≡ Err why = sym e ∙ f in cc

module _ {L : Type 0} (lens : OfLens.Ghosts L) where
  -- the hub's document has the left type of the first lens, and its word acts on it
  pub hub_here : (ls : List L) (l : L) (h : HubTree) (c : CarriedTree) (g : HubTree) → 0 < length ls → l ≡ get_or ls 0 l → ActsTo lens ls h c g
      → (has (lens.left_type l) h.hub ≡ true) × (act (lens.left_type l) c.hub h.hub ≡ Ok g.hub)
  hub_here [] l h c g some is acts = absurd (omega (arith, some))
  hub_here (m ∷ ls) l h c g some is acts = subst (λ (n : L). (has (lens.left_type n) h.hub ≡ true) × (act (lens.left_type n) c.hub h.hub ≡ Ok g.hub)) (sym is) acts.hub

  pub step_words : (ls : List L) (l : L) (h : HubTree) (c words : CarriedTree) → 0 < length ls → l ≡ get_or ls 0 l → words.hub ≡ inverse (lens.left_type l) c.hub h.hub
      → words.views ≡ undone_views lens ls h.views c.views → words ≡ undone_step lens ls h c
  step_words [] l h c words some is hub views = absurd (omega (arith, some))
  step_words (m ∷ ls) l h c words some is hub views =
      ap₂ (λ (w : WordTree) (ws : List WordTree). record { hub = w; views = ws }) (hub ∙ ap (λ (n : L). inverse (lens.left_type n) c.hub h.hub) is) views

  pub step_back : (ls : List L) (l : L) (h : HubTree) (c words : CarriedTree) (g : HubTree) → 0 < length ls → l ≡ get_or ls 0 l
      → TakesBack (lens.left_type l) words.hub (act (lens.left_type l) c.hub h.hub) h.hub → BringViewsBack lens ls words.views g.views h.views → ActsTo lens ls h c g → HubBringsBack lens ls words g h
  step_back [] l h c words g some is takes views acts = absurd (omega (arith, some))
  step_back (m ∷ ls) l h c words g some is takes views acts =
      let at_first = subst (λ (n : L). TakesBack (lens.left_type n) words.hub (act (lens.left_type n) c.hub h.hub) h.hub) is takes in
      record { hub_back = taken_back (lens.left_type m) words.hub (act (lens.left_type m) c.hub h.hub) h.hub g.hub at_first acts.hub.1; views_back = views }

  module _ (old ls : List L) (h0 h g : HubTree) (e : Place × WordTree) (c : CarriedTree) (lenses : ls ≡ old) (copy : h ≡ h0) (steps : hub_step lens old h0 e ≡ Some (Ok (g, c))) where
    -- the words of the step act on the copy
    pub edit_acts : WordsAct lens → IsHub lens old h → ActsTo lens ls h c g
    edit_acts act_so there =
        subst (λ (xs : List L). ActsTo lens xs h c g) (sym lenses) (act_so old h g e c there (ap (λ (x : HubTree). hub_step lens old x e) copy ∙ steps))

    -- the inverses of them take the edit back
    pub edit_undone : (words : CarriedTree) → words ≡ undone_step lens ls h c → HubBringsBack lens ls words g h → UndoesEdit lens old h0 e g (Some words)
    edit_undone words is back = (
      c,
      steps,
      is ∙ ap (λ (xs : List L). undone_step lens xs h c) lenses ∙ ap (λ (x : HubTree). undone_step lens old x c) copy,
      subst (λ (x : HubTree). HubBringsBack lens old words g x) copy (subst (λ (xs : List L). HubBringsBack lens xs words g h) lenses back),
    )

-- an edit that is refused
abbrev pub IsRefused : Option (Result (HubTree × CarriedTree) ViewRefusal) → Type 0
IsRefused o = (why : ViewRefusal) × (o ≡ Some (Err why))

pub refused_view : (o : Option (Result (HubTree × CarriedTree) ViewRefusal)) (fault : HubFault) (views : ℕ) → fault ≡ NoView views → IsHubRefusal o fault → IsRefused o
refused_view o fault views same is = (no_view views, subst (IsHubRefusal o) same is)

pub refused_word : (o : Option (Result (HubTree × CarriedTree) ViewRefusal)) (fault : HubFault) (at : ℕ) (cause : Cause) → fault ≡ NoApply at cause → IsHubRefusal o fault → IsRefused o
refused_word o fault at cause same is = (no_apply at cause, subst (IsHubRefusal o) same is)

-- ---- as many trees as values

mapped_count : {X Y : Type 0} (f : X → Y) (xs : List X) → length (map f xs) ≡ length xs
mapped_count f xs = length-map xs f

pub lengths_of_trees : {X Y : Type 0} (f : X → Y) (xs ys : List X) → xs ≡ ys → length (map f xs) ≡ length ys
lengths_of_trees f xs ys same = mapped_count f xs ∙ ap length same

pub words_of_views : (vs : List View) (ws : List WordTree) → length (view_trees vs) ≡ length ws → length vs ≡ length ws
words_of_views vs ws same = sym (mapped_count view_tree vs) ∙ same

-- Words of all documents, joined, and what they do.
use Rattle.std.proofs.Common.{◌≡◌, ℕ, zero, suc, ap₂, List, [], ◌∷◌, ◌++◌, length, map, refl, sym, ap, subst, ◌∙◌, arith}
use Rattle.std.proofs.lemmas.List.{map-append}
use Rattle.doc_values.specs.Documents.{DocTree}
use Rattle.doc_values.specs.Types.{TyTree}
use Rattle.edit_module.specs.Views.{word_tree}
use Rattle.edit_module.specs.Words.{WordTree, no_primitives, joined}
use Rattle.edit_module.proofs.JoinedWords.{acts_joined, joined_nothing}
use Rattle.edit_module.proofs.Words.{joined_assoc}
use Rattle.lens_core.specs.declared.lens.EditLens as OfLens
use Rattle.view_hub.specs.Hubs.{ViewTree, HubTree, CarriedTree}
use Rattle.view_hub.specs.Laws.{AllInStep, IsHub}
use Rattle.view_hub.specs.declared.side.HubCarried.{HubCarried}
use Rattle.view_hub.specs.Views.{hub_carried_tree}
use Rattle.hub_undo.specs.HubUndone.{HubBringsBack, BringHubBack, BringViewsBack, joined_carried, joined_views, no_view_words, no_hub_words}
use Rattle.hub_undo.specs.UndoSteps.{HasViews, in_front, joined_all}
use Rattle.hub_undo.specs.UndoViews.{carried_trees}

abbrev carried_of : WordTree → List WordTree → CarriedTree
carried_of w ws = record { hub = w; views = ws }

same_carried : (w x : WordTree) (ws xs : List WordTree) → w ≡ x → ws ≡ xs → carried_of w ws ≡ carried_of x xs
same_carried w x ws xs e f = ap₂ carried_of e f

-- ---- lists of words

views_assoc : (us vs ws : List WordTree) → joined_views (joined_views us vs) ws ≡ joined_views us (joined_views vs ws)
views_assoc [] vs ws = refl
views_assoc (u ∷ us) [] ws = refl
views_assoc (u ∷ us) (v ∷ vs) [] = refl
views_assoc (u ∷ us) (v ∷ vs) (w ∷ ws) = ap₂ (λ (x : WordTree) (xs : List WordTree). x ∷ xs) (joined_assoc u v w) (views_assoc us vs ws)

views_none : (n : ℕ) (ws : List WordTree) → length ws ≡ n → joined_views ws (no_view_words n) ≡ ws
views_none n [] is = refl
views_none zero (w ∷ ws) is = absurd (omega (arith, is))
views_none (suc n) (w ∷ ws) is = ap₂ (λ (x : WordTree) (xs : List WordTree). x ∷ xs) (joined_nothing w) (views_none n ws (omega (arith, is)))

none_views : (n : ℕ) (ws : List WordTree) → length ws ≡ n → joined_views (no_view_words n) ws ≡ ws
none_views zero [] is = refl
none_views zero (w ∷ ws) is = absurd (omega (arith, is))
none_views (suc n) [] is = absurd (omega (arith, is))
none_views (suc n) (w ∷ ws) is = ap (λ (xs : List WordTree). w ∷ xs) (none_views n ws (omega (arith, is)))

views_count : (n : ℕ) (vs ws : List WordTree) → length vs ≡ n → length ws ≡ n → length (joined_views vs ws) ≡ n
views_count n [] ws e f = e
views_count n (v ∷ vs) [] e f = f
views_count zero (v ∷ vs) (w ∷ ws) e f = absurd (omega (arith, e))
views_count (suc n) (v ∷ vs) (w ∷ ws) e f =
    let more = views_count n vs ws (omega (arith, e)) (omega (arith, f)) in
    omega (arith, more)

no_views_count : (n : ℕ) → length (no_view_words n) ≡ n
no_views_count zero = refl
no_views_count (suc n) = let more = no_views_count n in omega (arith, more)

-- ---- words of all documents

carried_assoc : (a b c : CarriedTree) → joined_carried (joined_carried a b) c ≡ joined_carried a (joined_carried b c)
carried_assoc a b c =
    same_carried (joined (joined a.hub b.hub) c.hub) (joined a.hub (joined b.hub c.hub)) (joined_views (joined_views a.views b.views) c.views) (joined_views a.views (joined_views b.views c.views))
    (joined_assoc a.hub b.hub c.hub) (views_assoc a.views b.views c.views)

carried_none : (n : ℕ) (c : CarriedTree) → length c.views ≡ n → joined_carried c (no_hub_words n) ≡ c
carried_none n c is = same_carried (joined c.hub no_primitives) c.hub (joined_views c.views (no_view_words n)) c.views (joined_nothing c.hub) (views_none n c.views is)

none_carried : (n : ℕ) (c : CarriedTree) → length c.views ≡ n → joined_carried (no_hub_words n) c ≡ c
none_carried n c is = same_carried (joined no_primitives c.hub) c.hub (joined_views (no_view_words n) c.views) c.views refl (none_views n c.views is)

all_count : (n : ℕ) (cs : List CarriedTree) → HasViews n cs → length (joined_all n cs).views ≡ n
all_count n [] has = no_views_count n
all_count n (c ∷ cs) has = views_count n (joined_all n cs).views c.views (all_count n cs has.1) has.0

-- all words as one, in front of others
front_joined : (n : ℕ) (cs : List CarriedTree) (words : CarriedTree) → HasViews n cs → length words.views ≡ n → in_front cs words ≡ joined_carried (joined_all n cs) words
front_joined n [] words has is = sym (none_carried n words is)
front_joined n (c ∷ cs) words has is =
    front_joined n cs (joined_carried c words) has.1 (views_count n c.views words.views has.0 is)
    ∙ sym (carried_assoc (joined_all n cs) c words)

pub all_in_front : (n : ℕ) (cs : List CarriedTree) → HasViews n cs → in_front cs (no_hub_words n) ≡ joined_all n cs
all_in_front n cs has = front_joined n cs (no_hub_words n) has (no_views_count n) ∙ carried_none n (joined_all n cs) (all_count n cs has)

pub front_append : (cs ds : List CarriedTree) (words : CarriedTree) → in_front (cs ++ ds) words ≡ in_front ds (in_front cs words)
front_append [] ds words = refl
front_append (c ∷ cs) ds words = front_append cs ds (joined_carried c words)

pub views_append : (n : ℕ) (cs ds : List CarriedTree) → HasViews n cs → HasViews n ds → HasViews n (cs ++ ds)
views_append n [] ds has more = more
views_append n (c ∷ cs) ds has more = (has.0, views_append n cs ds has.1 more)

-- ---- the loop that joins them, from the last to the first

all_append : (n : ℕ) (cs ds : List CarriedTree) → HasViews n ds → joined_all n (cs ++ ds) ≡ joined_carried (joined_all n ds) (joined_all n cs)
all_append n [] ds has = sym (carried_none n (joined_all n ds) (all_count n ds has))
all_append n (c ∷ cs) ds has = ap (λ x. joined_carried x c) (all_append n cs ds has) ∙ carried_assoc (joined_all n ds) (joined_all n cs) c

trees_more : (parts more : List HubCarried) (part : HubCarried) → more ≡ parts ++ part ∷ [] → carried_trees more ≡ carried_trees parts ++ hub_carried_tree part ∷ []
trees_more parts more part e = ap carried_trees e ∙ map-append hub_carried_tree parts (part ∷ [])

views_front : (n : ℕ) (cs ds : List CarriedTree) → HasViews n (cs ++ ds) → HasViews n cs × HasViews n ds
views_front n [] ds has = (tt, has)
views_front n (c ∷ cs) ds has = let rest = views_front n cs ds has.1 in ((has.0, rest.0), rest.1)

-- what is joined so far, in front of what is left
abbrev pub Joining : ℕ → CarriedTree → List CarriedTree → CarriedTree → Type 0
Joining n so_far left all = (length so_far.views ≡ n) × HasViews n left × (joined_carried so_far (joined_all n left) ≡ all)

pub joining_none : (n : ℕ) (c : CarriedTree) (cs : List CarriedTree) → c ≡ no_hub_words n → HasViews n cs → Joining n c cs (joined_all n cs)
joining_none n c cs is has =
    subst (λ (x : CarriedTree). Joining n x cs (joined_all n cs)) (sym is) (no_views_count n, has, none_carried n (joined_all n cs) (all_count n cs has))

pub joining_last : (n : ℕ) (so_far joined_now all : CarriedTree) (parts more : List HubCarried) (part : HubCarried) → more ≡ parts ++ part ∷ [] → joined_now ≡ joined_carried so_far (hub_carried_tree part)
    → Joining n so_far (carried_trees more) all → Joining n joined_now (carried_trees parts) all
joining_last n so_far joined_now all parts more part e made j =
    let trees = trees_more parts more part e in
    let has = views_front n (carried_trees parts) (hub_carried_tree part ∷ []) (subst (HasViews n) trees j.1) in
    let last : joined_all n (hub_carried_tree part ∷ []) ≡ hub_carried_tree part = none_carried n (hub_carried_tree part) has.1.0 in
    let all_trees : joined_all n (carried_trees more) ≡ joined_carried (hub_carried_tree part) (joined_all n (carried_trees parts)) =
    ap (joined_all n) trees ∙ all_append n (carried_trees parts) (hub_carried_tree part ∷ []) has.1 ∙ ap (λ x. joined_carried x (joined_all n (carried_trees parts))) last in
    subst (λ (x : CarriedTree). Joining n x (carried_trees parts) all) (sym made) (
      views_count n so_far.views (hub_carried_tree part).views j.0 has.1.0,
      has.0,
      carried_assoc so_far (hub_carried_tree part) (joined_all n (carried_trees parts)) ∙ ap (joined_carried so_far) (sym all_trees) ∙ j.2,
    )

pub joining_end : (n : ℕ) (so_far all : CarriedTree) (parts : List HubCarried) → length parts ≡ 0 → Joining n so_far (carried_trees parts) all → so_far ≡ all
joining_end n so_far all [] none j = sym (carried_none n so_far j.0) ∙ j.2
joining_end n so_far all (part ∷ parts) none j = absurd (omega (arith, none))

-- ---- taking back

module _ {L : Type 0} (lens : OfLens.Ghosts L) where
  views_then : (ls : List L) (ws xs : List WordTree) (now mid was : List ViewTree) → BringViewsBack lens ls ws now mid → BringViewsBack lens ls xs mid was
      → BringViewsBack lens ls (joined_views ws xs) now was
  views_then [] [] [] [] [] [] a b = tt
  views_then [] [] [] [] [] (t ∷ ts) a b = absurd b
  views_then [] [] (x ∷ xs) [] [] was a b = absurd b
  views_then [] [] xs [] (u ∷ us) was a b = absurd a
  views_then [] [] xs (v ∷ vs) mid was a b = absurd a
  views_then [] (w ∷ ws) xs now mid was a b = absurd a
  views_then (l ∷ ls) [] xs now mid was a b = absurd a
  views_then (l ∷ ls) (w ∷ ws) xs [] mid was a b = absurd a
  views_then (l ∷ ls) (w ∷ ws) xs (v ∷ vs) [] was a b = absurd a
  views_then (l ∷ ls) (w ∷ ws) [] (v ∷ vs) (u ∷ us) was a b = absurd b
  views_then (l ∷ ls) (w ∷ ws) (x ∷ xs) (v ∷ vs) (u ∷ us) [] a b = absurd b
  views_then (l ∷ ls) (w ∷ ws) (x ∷ xs) (v ∷ vs) (u ∷ us) (t ∷ ts) a b =
      (acts_joined (lens.right_type l) w x v.doc u.doc t.doc a.0 b.0, views_then ls ws xs vs us ts a.1 b.1)

  hub_then : (ls : List L) (w x : WordTree) (now mid was : DocTree) → BringHubBack lens ls w now mid → BringHubBack lens ls x mid was → BringHubBack lens ls (joined w x) now was
  hub_then [] w x now mid was a b = tt
  hub_then (l ∷ ls) w x now mid was a b = acts_joined (lens.left_type l) w x now mid was a b

  pub back_then : (ls : List L) (w x : CarriedTree) (now mid was : HubTree) → HubBringsBack lens ls w now mid → HubBringsBack lens ls x mid was → HubBringsBack lens ls (joined_carried w x) now was
  back_then ls w x now mid was a b = record {
    hub_back = hub_then ls w.hub x.hub now.hub mid.hub was.hub a.hub_back b.hub_back;
    views_back = views_then ls w.views x.views now.views mid.views was.views a.views_back b.views_back;
  }

  -- words that do nothing
  views_still : (ty : TyTree) (ls : List L) (x : DocTree) (vs : List ViewTree) → AllInStep lens ty ls x vs → BringViewsBack lens ls (no_view_words (length ls)) vs vs
  views_still ty [] x [] all = tt
  views_still ty [] x (v ∷ vs) all = absurd all
  views_still ty (l ∷ ls) x [] all = absurd all
  views_still ty (l ∷ ls) x (v ∷ vs) all = (refl, views_still ty ls x vs all.2)

  pub back_none : (ls : List L) (h : HubTree) → IsHub lens ls h → HubBringsBack lens ls (no_hub_words (length ls)) h h
  back_none [] h all = absurd all
  back_none (l ∷ ls) h all = record { hub_back = refl; views_back = views_still (lens.left_type l) (l ∷ ls) h.hub h.views all }

  -- there is a word for each lens
  back_count : (ls : List L) (ws : List WordTree) (now was : List ViewTree) → BringViewsBack lens ls ws now was → length ws ≡ length ls
  back_count [] [] now was all = refl
  back_count [] (w ∷ ws) now was all = absurd all
  back_count (l ∷ ls) [] now was all = absurd all
  back_count (l ∷ ls) (w ∷ ws) [] was all = absurd all
  back_count (l ∷ ls) (w ∷ ws) (v ∷ vs) [] all = absurd all
  back_count (l ∷ ls) (w ∷ ws) (v ∷ vs) (u ∷ us) all = let more = back_count ls ws vs us all.1 in omega (arith, more)

  pub words_count : (ls : List L) (words : CarriedTree) (now was : HubTree) → HubBringsBack lens ls words now was → length words.views ≡ length ls
  words_count ls words now was back = back_count ls words.views now.views was.views back.views_back

-- ---- the last part has as many views as what is joined

trees_count : {X Y : Type 0} (f : X → Y) (xs : List X) → length (map f xs) ≡ length xs
trees_count f [] = refl
trees_count f (x ∷ xs) = ap suc (trees_count f xs)

pub last_views : (n : ℕ) (so_far part : HubCarried) (parts more : List HubCarried) (all : CarriedTree) → more ≡ parts ++ part ∷ [] → Joining n (hub_carried_tree so_far) (carried_trees more) all
    → length so_far.views ≡ length part.views
last_views n so_far part parts more all e j =
    let has = views_front n (carried_trees parts) (hub_carried_tree part ∷ []) (subst (HasViews n) (trees_more parts more part e) j.1) in
    sym (trees_count word_tree so_far.views) ∙ j.0 ∙ sym has.1.0 ∙ trees_count word_tree part.views

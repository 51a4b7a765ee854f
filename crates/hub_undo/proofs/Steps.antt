-- Edits that are stepped over, one after another, as loops go over them.
use Rattle.std.proofs.Common.{◌≡◌, ℕ, ◌+◌, ◌<◌, ◌≤◌, List, [], ◌∷◌, ◌++◌, length, take, drop, get_or, true, Option, Some, None, Result, Ok, Err, refl, sym, ap, subst, ◌∙◌, append_assoc, append-nil}
use Rattle.std.specs.Prelude.{option_and_then}
use Rattle.std.proofs.lemmas.List.{map_more, map-append, take-append-drop, take_all}
use Rattle.edit_module.specs.Words.{WordTree}
use Rattle.edit_module.specs.declared.word.Word.{Word}
use Rattle.lens_core.specs.declared.lens.EditLens as OfLens
use Rattle.view_hub.specs.Hubs.{HubTree, Place, CarriedTree, ViewRefusal, hub_step}
use Rattle.view_hub.specs.Laws.{IsHub}
use Rattle.view_hub.specs.Views.{hub_carried_tree, edit_tree, edit_trees}
use Rattle.view_hub.specs.declared.side.HubCarried.{HubCarried}
use Rattle.view_hub.specs.declared.side.HubSide.{HubSide}
use Rattle.hub_records.specs.HubChanges.{HubChangeTree, edits_of}
use Rattle.hub_records.specs.Views.{hub_change_tree}
use Rattle.hub_records.specs.declared.change.HubChange.{HubChange}
use Rattle.hub_undo.specs.HubUndone.{HubBringsBack, joined_carried, no_hub_words, hub_undone, hub_undone_behind, hub_undone_first, undone_step}
use Rattle.hub_undo.specs.HubUndoing.{edits_of_all}
use Rattle.hub_undo.specs.UndoMaking.{change_trees}
use Rattle.hub_undo.specs.UndoSteps.{Fails, Stepping, StepsOver, UndoesEdit, in_front, joined_all}
use Rattle.hub_undo.specs.UndoViews.{carried_trees}
use Rattle.hub_undo.proofs.Joins.{all_in_front, back_none, back_then, front_append, views_append, words_count}

abbrev Edits : Type 0
Edits = List (Place × WordTree)

module _ {L : Type 0} (lens : OfLens.Ghosts L) (ls : List L) where
  -- ---- one edit

  first_edit : (behind : CarriedTree) (h : HubTree) (e : Place × WordTree) (es : Edits) (o : Option (Result (HubTree × CarriedTree) ViewRefusal)) → hub_step lens ls h e ≡ o
      → hub_undone_behind lens ls behind h (e ∷ es)
      ≡ option_and_then (hub_undone_first lens (λ c. joined_carried (undone_step lens ls h c) behind) (λ more next. hub_undone_behind lens ls more next es)) o
  first_edit behind h e es o is =
      ap (option_and_then (hub_undone_first lens (λ c. joined_carried (undone_step lens ls h c) behind) (λ more next. hub_undone_behind lens ls more next es))) is

  over_one : (h : HubTree) (e : Place × WordTree) (g : HubTree) (words : CarriedTree) → UndoesEdit lens ls h e g (Some words) → StepsOver lens ls h (e ∷ []) (words ∷ []) g
  over_one h e g words u = record {
    goes = λ behind more. first_edit behind h e more (Some (Ok (g, u.0))) u.1
        ∙ ap (λ (x : CarriedTree). hub_undone_behind lens ls (joined_carried x behind) g more) (sym u.2);
    back = λ behind was b. back_then lens ls words behind g h was u.3 b;
    views = (words_count lens ls words g h u.3, tt);
  }

  fail_one : (h : HubTree) (e : Place × WordTree) (why : ViewRefusal) → hub_step lens ls h e ≡ Some (Err why) → Fails lens ls h (e ∷ [])
  fail_one h e why is behind more = first_edit behind h e more (Some (Err why)) is

  -- ---- one after another

  over_none : (h : HubTree) → StepsOver lens ls h [] [] h
  over_none h = record { goes = λ behind more. refl; back = λ behind was b. b; views = tt }

  over_then : (h g k : HubTree) (es fs : Edits) (ws xs : List CarriedTree) → StepsOver lens ls h es ws g → StepsOver lens ls g fs xs k → StepsOver lens ls h (es ++ fs) (ws ++ xs) k
  over_then h g k es fs ws xs a b = record {
    goes = λ behind more.
        ap (hub_undone_behind lens ls behind h) (append_assoc es fs more)
        ∙ a.goes behind (fs ++ more)
        ∙ b.goes (in_front ws behind) more
        ∙ ap (λ (x : CarriedTree). hub_undone_behind lens ls x k more) (sym (front_append ws xs behind));
    back = λ behind was c. subst (λ (x : CarriedTree). HubBringsBack lens ls x k was) (sym (front_append ws xs behind)) (b.back (in_front ws behind) was (a.back behind was c));
    views = views_append (length ls) ws xs a.views b.views;
  }

  fails_behind : (h g : HubTree) (es fs : Edits) (ws : List CarriedTree) → StepsOver lens ls h es ws g → Fails lens ls g fs → Fails lens ls h (es ++ fs)
  fails_behind h g es fs ws a b behind more =
      ap (hub_undone_behind lens ls behind h) (append_assoc es fs more) ∙ a.goes behind (fs ++ more) ∙ b (in_front ws behind) more

  fails_before : (h : HubTree) (es fs : Edits) → Fails lens ls h es → Fails lens ls h (es ++ fs)
  fails_before h es fs f behind more = ap (hub_undone_behind lens ls behind h) (append_assoc es fs more) ∙ f behind (fs ++ more)

  -- ---- all of them

  pub all_over : (h : HubTree) (es : Edits) (ws : List CarriedTree) (g : HubTree) → StepsOver lens ls h es ws g → Some (g, joined_all (length ls) ws) ≡ hub_undone lens ls h es
  all_over h es ws g s =
      sym (ap (hub_undone lens ls h) (sym (append-nil es)) ∙ s.goes (no_hub_words (length ls)) [] ∙ ap (λ (x : CarriedTree). Some (g, x)) (all_in_front (length ls) ws s.views))

  pub all_back : (h : HubTree) (es : Edits) (ws : List CarriedTree) (g : HubTree) → IsHub lens ls h → StepsOver lens ls h es ws g → HubBringsBack lens ls (joined_all (length ls) ws) g h
  all_back h es ws g there s =
      subst (λ (x : CarriedTree). HubBringsBack lens ls x g h) (all_in_front (length ls) ws s.views) (s.back (no_hub_words (length ls)) h (back_none lens ls h there))

  pub all_fail : (h : HubTree) (es : Edits) → Fails lens ls h es → None ≡ hub_undone lens ls h es
  all_fail h es f = sym (ap (hub_undone lens ls h) (sym (append-nil es)) ∙ f (no_hub_words (length ls)) [])

-- ---- the lists

edits_more : (es : List (HubSide × Word)) (i : ℕ) (e : HubSide × Word) → i < length es → e ≡ get_or es i e → edit_trees (take (i + 1) es) ≡ edit_trees (take i es) ++ edit_tree e ∷ []
edits_more es i e h is = map_more edit_tree es i e h ∙ ap (λ (x : HubSide × Word). edit_trees (take i es) ++ edit_tree x ∷ []) (sym is)

edits_parted : (es : List (HubSide × Word)) (n : ℕ) → edit_trees (take n es) ++ edit_trees (drop n es) ≡ edit_trees es
edits_parted es n = sym (map-append edit_tree (take n es) (drop n es)) ∙ ap edit_trees (take-append-drop n es)

of_all_append : (cs ds : List HubChangeTree) → edits_of_all (cs ++ ds) ≡ edits_of_all cs ++ edits_of_all ds
of_all_append [] ds = refl
of_all_append (c ∷ cs) ds = ap (λ (x : Edits). edits_of c ++ x) (of_all_append cs ds) ∙ sym (append_assoc (edits_of c) (edits_of_all cs) (edits_of_all ds))

changes_more : (cs : List HubChange) (i : ℕ) (c : HubChange) → i < length cs → c ≡ get_or cs i c
    → edits_of_all (change_trees (take (i + 1) cs)) ≡ edits_of_all (change_trees (take i cs)) ++ edits_of (hub_change_tree c)
changes_more cs i c h is =
    let first = change_trees (take i cs) in
    ap edits_of_all (map_more hub_change_tree cs i c h ∙ ap (λ (x : HubChange). first ++ hub_change_tree x ∷ []) (sym is))
    ∙ (of_all_append first (hub_change_tree c ∷ [])
    ∙ ap (λ (x : Edits). edits_of_all first ++ x) (append-nil (edits_of (hub_change_tree c))))

changes_parted : (cs : List HubChange) (n : ℕ) → edits_of_all (change_trees (take n cs)) ++ edits_of_all (change_trees (drop n cs)) ≡ edits_of_all (change_trees cs)
changes_parted cs n =
    sym (of_all_append (change_trees (take n cs)) (change_trees (drop n cs)))
    ∙ ap edits_of_all (sym (map-append hub_change_tree (take n cs) (drop n cs)) ∙ ap change_trees (take-append-drop n cs))

pushed : (parts more : List HubCarried) (b : HubCarried) → more ≡ parts ++ b ∷ [] → carried_trees more ≡ carried_trees parts ++ hub_carried_tree b ∷ []
pushed parts more b e = ap carried_trees e ∙ map-append hub_carried_tree parts (b ∷ [])

module _ {L : Type 0} (lens : OfLens.Ghosts L) (ls : List L) where
  abbrev Steps : HubTree → Edits → List CarriedTree → List CarriedTree → HubTree → Type 0
  Steps h es a b g = Stepping lens ls true h es a b g

  pub stepping_none : (h : HubTree) (parts : List CarriedTree) → Steps h [] parts parts h
  stepping_none h parts = ([], sym (append-nil parts), over_none lens ls h)

  stepping_then : (h g k : HubTree) (es fs all : Edits) (a b c : List CarriedTree) → all ≡ es ++ fs → Steps h es a b g → Steps g fs b c k → Steps h all a c k
  stepping_then h g k es fs all a b c parts s n = (
    s.0 ++ n.0,
    n.1 ∙ (ap (λ (x : List CarriedTree). x ++ n.0) s.1 ∙ append_assoc a s.0 n.0),
    subst (λ (x : Edits). StepsOver lens ls h x (s.0 ++ n.0) k) (sym parts) (over_then lens ls h g k es fs s.0 n.0 s.2 n.2),
  )

  fails_then : (h g : HubTree) (es fs rest first all : Edits) (a b : List CarriedTree) → first ≡ es ++ fs → first ++ rest ≡ all → Steps h es a b g → Fails lens ls g fs → Fails lens ls h all
  fails_then h g es fs rest first all a b here whole s n =
      let to_here = subst (λ (x : Edits). Fails lens ls h x) (sym here) (fails_behind lens ls h g es fs s.0 s.2 n) in
      subst (λ (x : Edits). Fails lens ls h x) whole (fails_before lens ls h first rest to_here)

  -- ---- the loop over edits

  pub edit_over : (es : List (HubSide × Word)) (i : ℕ) (e : HubSide × Word) (h g k : HubTree) (a : List CarriedTree) (parts more : List HubCarried) (b : HubCarried) → i < length es → e ≡ get_or es i e
      → Steps h (edit_trees (take i es)) a (carried_trees parts) g → UndoesEdit lens ls g (edit_tree e) k (Some (hub_carried_tree b)) → more ≡ parts ++ b ∷ []
      → Steps h (edit_trees (take (i + 1) es)) a (carried_trees more) k
  edit_over es i e h g k a parts more b within is s n made =
      stepping_then h g k (edit_trees (take i es)) (edit_tree e ∷ []) (edit_trees (take (i + 1) es)) a (carried_trees parts) (carried_trees more) (edits_more es i e within is) s
      (hub_carried_tree b ∷ [], pushed parts more b made, over_one lens ls g (edit_tree e) k (hub_carried_tree b) n)

  pub edit_fails : (es : List (HubSide × Word)) (i : ℕ) (e : HubSide × Word) (h g : HubTree) (a b : List CarriedTree) (why : ViewRefusal) → i < length es → e ≡ get_or es i e
      → Steps h (edit_trees (take i es)) a b g → hub_step lens ls g (edit_tree e) ≡ Some (Err why) → Fails lens ls h (edit_trees es)
  edit_fails es i e h g a b why within is s n =
      fails_then h g (edit_trees (take i es)) (edit_tree e ∷ []) (edit_trees (drop (i + 1) es)) (edit_trees (take (i + 1) es)) (edit_trees es) a b
      (edits_more es i e within is) (edits_parted es (i + 1)) s (fail_one lens ls g (edit_tree e) why n)

  pub edits_end : (es : List (HubSide × Word)) (i : ℕ) (h g : HubTree) (a b : List CarriedTree) → length es ≤ i → Steps h (edit_trees (take i es)) a b g → Steps h (edit_trees es) a b g
  edits_end es i h g a b past s = subst (λ (x : List (HubSide × Word)). Steps h (edit_trees x) a b g) (take_all i es past) s

  -- ---- the loop over changes

  pub change_over : (cs : List HubChange) (i : ℕ) (c : HubChange) (es : List (HubSide × Word)) (h g k : HubTree) (a b d : List CarriedTree) → i < length cs → c ≡ get_or cs i c
      → edit_trees es ≡ edits_of (hub_change_tree c) → Steps h (edits_of_all (change_trees (take i cs))) a b g → Steps g (edit_trees es) b d k
      → Steps h (edits_of_all (change_trees (take (i + 1) cs))) a d k
  change_over cs i c es h g k a b d within is of s n =
      stepping_then h g k (edits_of_all (change_trees (take i cs))) (edits_of (hub_change_tree c)) (edits_of_all (change_trees (take (i + 1) cs))) a b d (changes_more cs i c within is) s
      (subst (λ (x : Edits). Steps g x b d k) of n)

  pub change_fails : (cs : List HubChange) (i : ℕ) (c : HubChange) (es : List (HubSide × Word)) (h g : HubTree) (a b : List CarriedTree) → i < length cs → c ≡ get_or cs i c
      → edit_trees es ≡ edits_of (hub_change_tree c) → Steps h (edits_of_all (change_trees (take i cs))) a b g → Fails lens ls g (edit_trees es) → Fails lens ls h (edits_of_all (change_trees cs))
  change_fails cs i c es h g a b within is of s n =
      fails_then h g (edits_of_all (change_trees (take i cs))) (edits_of (hub_change_tree c)) (edits_of_all (change_trees (drop (i + 1) cs)))
      (edits_of_all (change_trees (take (i + 1) cs))) (edits_of_all (change_trees cs)) a b
      (changes_more cs i c within is) (changes_parted cs (i + 1)) s (subst (λ (x : Edits). Fails lens ls g x) of n)

  pub changes_end : (cs : List HubChange) (i : ℕ) (h g : HubTree) (a b : List CarriedTree) → length cs ≤ i → Steps h (edits_of_all (change_trees (take i cs))) a b g
      → Steps h (edits_of_all (change_trees cs)) a b g
  changes_end cs i h g a b past s = subst (λ (x : List HubChange). Steps h (edits_of_all (change_trees x)) a b g) (take_all i cs past) s

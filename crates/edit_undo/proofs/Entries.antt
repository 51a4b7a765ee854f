-- The first entries of a list, and those of the first changes, as the loops go over them.
use Rattle.std.proofs.Common.{◌≡◌, ℕ, ◌+◌, ◌<◌, ◌≤◌, List, [], ◌∷◌, ◌++◌, length, take, drop, get_or, true, Option, Some, Err, refl, sym, ap, subst, ◌∙◌, append_assoc, append-nil}
use Rattle.std.proofs.lemmas.List.{map_more, map-append, take-append-drop, take_all}
use Rattle.texts.specs.declared.side.Side.{Side}
use Rattle.doc_values.specs.Types.{TyTree}
use Rattle.edit_module.specs.Action.{Why}
use Rattle.edit_module.specs.Changes.{ChangeTree, entries_of}
use Rattle.edit_module.specs.Views.{entry_tree, entry_trees, change_tree}
use Rattle.edit_module.specs.Words.{WordTree}
use Rattle.edit_module.specs.declared.change.Change.{Change}
use Rattle.edit_module.specs.declared.entry.Entry.{Entry}
use Rattle.lens_core.specs.Complements.{CompTree}
use Rattle.lens_core.specs.Translation.{Translated}
use Rattle.edit_session.specs.Step.{TripleTree, step}
use Rattle.edit_undo.specs.Undone.{BothTrees, entries_of_all}
use Rattle.edit_undo.specs.Stepping.{UndoesEntry, StepsOver, Fails, Stepping}
use Rattle.edit_undo.specs.UndoneViews.{both_tree, both_trees, change_trees}
use Rattle.edit_undo.specs.declared.both.BothWords.{BothWords}
use Rattle.edit_undo.proofs.Steps.{over_one, over_then, over_none, fail_one, fails_behind, fails_before}

abbrev Entries : Type 0
Entries = List (Side × WordTree)

-- ---- the lists

entries_more : (es : List Entry) (i : ℕ) (e : Entry) → i < length es → e ≡ get_or es i e → entry_trees (take (i + 1) es) ≡ entry_trees (take i es) ++ entry_tree e ∷ []
entries_more es i e h is = map_more entry_tree es i e h ∙ ap (λ (x : Entry). entry_trees (take i es) ++ entry_tree x ∷ []) (sym is)

entries_parted : (es : List Entry) (n : ℕ) → entry_trees (take n es) ++ entry_trees (drop n es) ≡ entry_trees es
entries_parted es n = sym (map-append entry_tree (take n es) (drop n es)) ∙ ap entry_trees (take-append-drop n es)

pub of_all_append : (cs ds : List ChangeTree) → entries_of_all (cs ++ ds) ≡ entries_of_all cs ++ entries_of_all ds
of_all_append [] ds = refl
of_all_append (c ∷ cs) ds =
    ap (λ (x : Entries). entries_of c ++ x) (of_all_append cs ds) ∙ sym (append_assoc (entries_of c) (entries_of_all cs) (entries_of_all ds))

changes_more : (cs : List Change) (i : ℕ) (c : Change) → i < length cs → c ≡ get_or cs i c
    → entries_of_all (change_trees (take (i + 1) cs)) ≡ entries_of_all (change_trees (take i cs)) ++ entries_of (change_tree c)
changes_more cs i c h is =
    let first = change_trees (take i cs) in
    ap entries_of_all (map_more change_tree cs i c h ∙ ap (λ (x : Change). first ++ change_tree x ∷ []) (sym is))
    ∙ (of_all_append first (change_tree c ∷ [])
    ∙ ap (λ (x : Entries). entries_of_all first ++ x) (append-nil (entries_of (change_tree c))))

changes_parted : (cs : List Change) (n : ℕ) → entries_of_all (change_trees (take n cs)) ++ entries_of_all (change_trees (drop n cs)) ≡ entries_of_all (change_trees cs)
changes_parted cs n =
    sym (of_all_append (change_trees (take n cs)) (change_trees (drop n cs)))
    ∙ ap entries_of_all (sym (map-append change_tree (take n cs) (drop n cs)) ∙ ap change_trees (take-append-drop n cs))

-- one more pair of words
pushed : (parts more : List BothWords) (b : BothWords) → more ≡ parts ++ b ∷ [] → both_trees more ≡ both_trees parts ++ both_tree b ∷ []
pushed parts more b e = ap both_trees e ∙ map-append both_tree parts (b ∷ [])

module _ (left right : TyTree) (carried : Side → CompTree → WordTree → Option Translated) where
  pub stepping_none : (t : TripleTree) (parts : List BothTrees) → Stepping left right carried true t [] parts parts t
  stepping_none t parts = ([], sym (append-nil parts), over_none left right carried t)

  stepping_then : (t u v : TripleTree) (es fs all : Entries) (a b c : List BothTrees) → all ≡ es ++ fs → Stepping left right carried true t es a b u → Stepping left right carried true u fs b c v
      → Stepping left right carried true t all a c v
  stepping_then t u v es fs all a b c parts s n = (
    s.0 ++ n.0,
    n.1 ∙ (ap (λ (x : List BothTrees). x ++ n.0) s.1 ∙ append_assoc a s.0 n.0),
    subst (λ (x : Entries). StepsOver left right carried t x (s.0 ++ n.0) v) (sym parts) (over_then left right carried t u v es fs s.0 n.0 s.2 n.2),
  )

  fails_then : (t u : TripleTree) (es fs rest first all : Entries) (a b : List BothTrees) → first ≡ es ++ fs → first ++ rest ≡ all → Stepping left right carried true t es a b u → Fails left right carried u fs
      → Fails left right carried t all
  fails_then t u es fs rest first all a b here whole s n =
      let to_here = subst (λ (x : Entries). Fails left right carried t x) (sym here) (fails_behind left right carried t u es fs s.0 s.2 n) in
      subst (λ (x : Entries). Fails left right carried t x) whole (fails_before left right carried t first rest to_here)

  -- ---- the loop over entries

  pub entry_over : (es : List Entry) (i : ℕ) (e : Entry) (t u v : TripleTree) (a : List BothTrees) (parts more : List BothWords) (b : BothWords) → i < length es → e ≡ get_or es i e
      → Stepping left right carried true t (entry_trees (take i es)) a (both_trees parts) u → UndoesEntry left right carried u (entry_tree e) v (Some (both_tree b)) → more ≡ parts ++ b ∷ []
      → Stepping left right carried true t (entry_trees (take (i + 1) es)) a (both_trees more) v
  entry_over es i e t u v a parts more b h is s n made =
      stepping_then t u v (entry_trees (take i es)) (entry_tree e ∷ []) (entry_trees (take (i + 1) es)) a (both_trees parts) (both_trees more) (entries_more es i e h is) s
      (both_tree b ∷ [], pushed parts more b made, over_one left right carried u (entry_tree e) v (both_tree b) n)

  pub entry_fails : (es : List Entry) (i : ℕ) (e : Entry) (t u : TripleTree) (a b : List BothTrees) (why : Why) → i < length es → e ≡ get_or es i e
      → Stepping left right carried true t (entry_trees (take i es)) a b u → step left right carried u (entry_tree e) ≡ Some (Err why) → Fails left right carried t (entry_trees es)
  entry_fails es i e t u a b why h is s n =
      fails_then t u (entry_trees (take i es)) (entry_tree e ∷ []) (entry_trees (drop (i + 1) es)) (entry_trees (take (i + 1) es)) (entry_trees es) a b
      (entries_more es i e h is) (entries_parted es (i + 1)) s (fail_one left right carried u (entry_tree e) why n)

  pub entries_end : (es : List Entry) (i : ℕ) (t u : TripleTree) (a b : List BothTrees) → length es ≤ i → Stepping left right carried true t (entry_trees (take i es)) a b u
      → Stepping left right carried true t (entry_trees es) a b u
  entries_end es i t u a b h s = subst (λ (x : List Entry). Stepping left right carried true t (entry_trees x) a b u) (take_all i es h) s

  -- ---- the loop over changes

  pub change_over : (cs : List Change) (i : ℕ) (c : Change) (es : List Entry) (t u v : TripleTree) (a b d : List BothTrees) → i < length cs → c ≡ get_or cs i c → entry_trees es ≡ entries_of (change_tree c)
      → Stepping left right carried true t (entries_of_all (change_trees (take i cs))) a b u → Stepping left right carried true u (entry_trees es) b d v
      → Stepping left right carried true t (entries_of_all (change_trees (take (i + 1) cs))) a d v
  change_over cs i c es t u v a b d h is of s n =
      stepping_then t u v (entries_of_all (change_trees (take i cs))) (entries_of (change_tree c)) (entries_of_all (change_trees (take (i + 1) cs))) a b d (changes_more cs i c h is) s
      (subst (λ (x : Entries). Stepping left right carried true u x b d v) of n)

  pub change_fails : (cs : List Change) (i : ℕ) (c : Change) (es : List Entry) (t u : TripleTree) (a b : List BothTrees) → i < length cs → c ≡ get_or cs i c → entry_trees es ≡ entries_of (change_tree c)
      → Stepping left right carried true t (entries_of_all (change_trees (take i cs))) a b u → Fails left right carried u (entry_trees es) → Fails left right carried t (entries_of_all (change_trees cs))
  change_fails cs i c es t u a b h is of s n =
      fails_then t u (entries_of_all (change_trees (take i cs))) (entries_of (change_tree c)) (entries_of_all (change_trees (drop (i + 1) cs)))
      (entries_of_all (change_trees (take (i + 1) cs))) (entries_of_all (change_trees cs)) a b
      (changes_more cs i c h is) (changes_parted cs (i + 1)) s (subst (λ (x : Entries). Fails left right carried u x) of n)

  pub changes_end : (cs : List Change) (i : ℕ) (t u : TripleTree) (a b : List BothTrees) → length cs ≤ i → Stepping left right carried true t (entries_of_all (change_trees (take i cs))) a b u
      → Stepping left right carried true t (entries_of_all (change_trees cs)) a b u
  changes_end cs i t u a b h s = subst (λ (x : List Change). Stepping left right carried true t (entries_of_all (change_trees x)) a b u) (take_all i cs h) s

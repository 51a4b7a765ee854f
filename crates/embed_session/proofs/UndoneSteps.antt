-- A change that is accepted is undone.
use Rattle.std.proofs.Common.{◌≡◌, List, [], ◌∷◌, Option, Some, None, option_map, option_and_then, Result, Ok, Err, sym, ap, subst, ◌∙◌}
use Rattle.std.proofs.lemmas.List.{append-nil}
use Rattle.std.specs.Prelude.{IfOk, IfSome, MatchOption}
use Rattle.texts.specs.declared.side.Side.{Side}
use Rattle.doc_values.specs.Types.{TyTree}
use Rattle.edit_module.specs.Changes.{ChangeTree, one, group}
use Rattle.edit_module.specs.Words.{WordTree}
use Rattle.lens_core.specs.Complements.{CompTree}
use Rattle.lens_core.specs.Translation.{Translated, translate}
use Rattle.lens_forms.specs.Forms.{FormTree, left_type, right_type}
use Rattle.edit_session.specs.Step.{TripleTree, Stepped, AllStepped, step, step_each, alone, with_first, after_first}
use Rattle.store_session.specs.Stands.{step_of}
use Rattle.edit_undo.specs.Undone.{BothTrees, BringsBack, no_words, undone_entry, undone_behind, undone_first, undone_each, undone}
use Rattle.edit_undo.specs.UndoneViews.{both_tree}
use Rattle.edit_undo.specs.declared.both.BothWords.{BothWords}
use Rattle.embed_session.specs.Changes.{HasWayBack}

module _ (left right : TyTree) (carried : Side → CompTree → WordTree → Option Translated) where
  -- entries that are accepted are undone, and lead to the same triple
  abbrev Undone : TripleTree → List (Side × WordTree) → TripleTree → Type 0
  Undone t es u = (words : BothTrees) × (undone_each left right carried t es ≡ Some (u, words))

  behind_first : (first : BothTrees) (o : Option (TripleTree × BothTrees)) (u : TripleTree) (words : BothTrees) → o ≡ Some (u, words)
      → (all : BothTrees) × (option_map (undone_behind first) o ≡ Some (u, all))
  behind_first first o u words h = (((undone_behind first (u, words)).1), ap (option_map (undone_behind first)) h)

  abbrev made_with : List WordTree → TripleTree → Option AllStepped
  made_with words u = Some (Ok (u, words))

  others_made : (o : Option AllStepped) (w : WordTree) (u : TripleTree) (words : List WordTree) → option_map (with_first w) o ≡ Some (Ok (u, words))
      → (more : List WordTree) × (o ≡ Some (Ok (u, more)))
  others_made (Some (Ok n)) w u words h =
      let pair : (n.0, w ∷ n.1) ≡ (u, words) = cc in
      let same : n.0 ≡ u = ap (λ (p : TripleTree × List WordTree). p.0) pair in
      (n.1, ap (made_with n.1) same)
  others_made (Some (Err why)) w u words h = cc
  others_made None w u words h = cc

  after_step : (t : TripleTree) (e : Side × WordTree) (es : List (Side × WordTree)) (o : Option Stepped) (u : TripleTree) (words : List WordTree)
      → ((next : TripleTree) (more : List WordTree) → step_each left right carried next es ≡ Some (Ok (u, more)) → Undone next es u)
      → option_and_then (after_first (λ next. step_each left right carried next es)) o ≡ Some (Ok (u, words))
      → (all : BothTrees) × (option_and_then (undone_first (λ word. undone_entry left right t e word) (λ next. undone_each left right carried next es)) o ≡ Some (u, all))
  after_step t e es (Some (Ok s)) u words others h =
      let made = others_made (step_each left right carried s.0 es) s.1 u words h in
      let rest = others s.0 made.0 made.1 in
      behind_first (undone_entry left right t e s.1) (undone_each left right carried s.0 es) u rest.0 rest.1
  after_step t e es (Some (Err why)) u words others h = cc
  after_step t e es None u words others h = cc

  pub each_undone : (t : TripleTree) (es : List (Side × WordTree)) (u : TripleTree) (words : List WordTree) → step_each left right carried t es ≡ Some (Ok (u, words)) → Undone t es u
  each_undone t [] u words h =
      let pair : (t, []) ≡ (u, words) = cc in
      let same : t ≡ u = ap (λ (p : TripleTree × List WordTree). p.0) pair in
      (no_words, ap (λ v. Some (v, no_words)) same)
  each_undone t (e ∷ es) u words h =
      after_step t e es (step left right carried t e) u words (λ next more k. each_undone next es u more k) h

  alone_each : (t : TripleTree) (e : Side × WordTree) (o : Option Stepped) (u : TripleTree) (words : List WordTree) → option_map alone o ≡ Some (Ok (u, words))
      → option_and_then (after_first (λ next. step_each left right carried next [])) o ≡ Some (Ok (u, words))
  alone_each t e (Some (Ok s)) u words h = h
  alone_each t e (Some (Err why)) u words h = cc
  alone_each t e None u words h = cc

-- the change of a triple has words that take it back
pub change_undone : (form : FormTree) (t u : TripleTree) (change : ChangeTree) (words : List WordTree) → step_of form t change ≡ Some (Ok (u, words))
    → (back : BothTrees) × (undone (left_type form) (right_type form) (translate form) t (change ∷ []) ≡ Some (u, back))
change_undone form t u (one e) words h =
    each_undone (left_type form) (right_type form) (translate form) t (e ∷ []) u words
    (alone_each (left_type form) (right_type form) (translate form) t e (step (left_type form) (right_type form) (translate form) t e) u words h)
change_undone form t u (group es) words h =
    let k = each_undone (left_type form) (right_type form) (translate form) t es u words h in
    (k.0, ap (λ rest. undone_each (left_type form) (right_type form) (translate form) t rest) (append-nil es) ∙ k.1)

-- what is found of some changes, and what its words do
abbrev pub Finds : {E : Type 0} → Result (Option BothWords) E → FormTree → TripleTree → TripleTree → List ChangeTree → Type 0
Finds r form before after changes = IfOk r (λ found. option_map (λ (w : BothWords). (after, both_tree w)) found ≡ undone (left_type form) (right_type form) (translate form) before changes)

abbrev pub FindsBack : {E : Type 0} → Result (Option BothWords) E → FormTree → TripleTree → TripleTree → Type 0
FindsBack r form before after = IfOk r (λ found. IfSome found (λ (w : BothWords). BringsBack (left_type form) (right_type form) (both_tree w) after before))

found_here : {E : Type 0} (r : Result (Option BothWords) E) (form : FormTree) (before after : TripleTree) (change : ChangeTree)
    → Finds r form before after (change ∷ []) → FindsBack r form before after → HasWayBack r form before change
found_here (Ok (Some w)) form before after change h k = record { after = after; undoes = sym h; back = k }
found_here (Ok None) form before after change h k = sym h
found_here (Err fault) form before after change h k = tt

-- what is found of one change: its words take it back, or it is refused
pub found_back : {E : Type 0} (r : Result (Option BothWords) E) (l form : FormTree) (t before after : TripleTree) (changes : List ChangeTree) (change : ChangeTree)
    → l ≡ form → t ≡ before → changes ≡ change ∷ [] → Finds r l t after changes → FindsBack r l t after → HasWayBack r form before change
found_back r l form t before after changes change lens triple alone_is h k =
    found_here r form before after change
    (subst (λ cs. Finds r form before after cs) alone_is (subst (λ x. Finds r form x after changes) triple (subst (λ (f : FormTree). Finds r f t after changes) lens h)))
    (subst (λ x. FindsBack r form x after) triple (subst (λ (f : FormTree). FindsBack r f t after) lens k))

-- Where a change is accepted, there are words that take it back.
use Rattle.std.proofs.Common.{◌≡◌, List, [], ◌∷◌, ◌++◌, Option, Some, None, Ok, Err, refl, sym, ap, ◌∙◌}
use Rattle.std.specs.Prelude.{option_map, option_and_then}
use Rattle.texts.specs.declared.side.Side.{Side}
use Rattle.doc_values.specs.Types.{TyTree}
use Rattle.edit_module.specs.Changes.{ChangeTree, entries_of}
use Rattle.edit_module.specs.Words.{WordTree}
use Rattle.lens_core.specs.Complements.{CompTree}
use Rattle.lens_core.specs.Translation.{Translated}
use Rattle.edit_session.specs.Step.{TripleTree, Stepped, AllStepped, with_first, after_first, step, step_each, step_all}
use Rattle.edit_session.proofs.Groups.{all_is_each}
use Rattle.edit_undo.specs.Undone.{BothTrees, no_words, joined_both, undone_entry, undone_behind, undone_each}
use Rattle.edit_undo.proofs.Parts.{behind_behind}
use Rattle.edit_undo.proofs.Steps.{behind_none, each_first}

-- no carried words
abbrev no_carried : List WordTree
no_carried = []

behind_first : (w : WordTree) (o : Option AllStepped) (u : TripleTree) (ws : List WordTree) → option_map (with_first w) o ≡ Some (Ok (u, ws))
    → (rest : List WordTree) × (o ≡ Some (Ok (u, rest)))
behind_first w (Some (Ok s)) u ws h =
    let pair : (s.0, w ∷ s.1) ≡ (u, ws) = cc in
    let same = ap (λ (p : TripleTree × List WordTree). p.0) pair in
    (s.1, ap (λ (x : TripleTree). Some (Ok (x, s.1))) same)
behind_first w (Some (Err why)) u ws h = cc
behind_first w None u ws h = cc

stepped_first : (others : TripleTree → Option AllStepped) (o : Option Stepped) (u : TripleTree) (ws : List WordTree) → option_and_then (after_first others) o ≡ Some (Ok (u, ws))
    → (s : TripleTree × WordTree) × (rest : List WordTree) × (o ≡ Some (Ok s)) × (others s.0 ≡ Some (Ok (u, rest)))
stepped_first others (Some (Ok s)) u ws h =
    let rest = behind_first s.1 (others s.0) u ws h in
    (s, rest.0, refl, rest.1)
stepped_first others (Some (Err why)) u ws h = cc
stepped_first others None u ws h = cc

module _ (left right : TyTree) (carried : Side → CompTree → WordTree → Option Translated) where
  -- the entries go from the one triple to the other, whatever entries follow
  abbrev pub GoesOn : TripleTree → List (Side × WordTree) → TripleTree → Type 0
  GoesOn t es u = (b : BothTrees) × ((more : List (Side × WordTree))
      → undone_each left right carried t (es ++ more) ≡ option_map (undone_behind b) (undone_each left right carried u more))

  each_goes : (es : List (Side × WordTree)) (t u : TripleTree) (ws : List WordTree) → step_each left right carried t es ≡ Some (Ok (u, ws)) → GoesOn t es u
  each_goes [] t u ws h =
      let pair : (t, no_carried) ≡ (u, ws) = cc in
      let same = ap (λ (p : TripleTree × List WordTree). p.0) pair in
      (no_words, λ more. sym (behind_none (undone_each left right carried t more)) ∙ ap (λ (x : TripleTree). option_map (undone_behind no_words) (undone_each left right carried x more)) same)
  each_goes (e ∷ es) t u ws h =
      let first = stepped_first (λ next. step_each left right carried next es) (step left right carried t e) u ws h in
      let s = first.0 in
      let here = undone_entry left right t e s.1 in
      let rest = each_goes es s.0 u first.1 first.3 in (
        joined_both rest.0 here,
        λ more.
            each_first left right carried t e (es ++ more) (Some (Ok s)) first.2
            ∙ (ap (option_map (undone_behind here)) (rest.1 more)
            ∙ behind_behind here rest.0 (undone_each left right carried u more)),
      )

  pub change_goes : (t u : TripleTree) (change : ChangeTree) (ws : List WordTree) → step_all left right carried t change ≡ Some (Ok (u, ws)) → GoesOn t (entries_of change) u
  change_goes t u change ws h = each_goes (entries_of change) t u ws (sym (all_is_each left right carried t change) ∙ h)

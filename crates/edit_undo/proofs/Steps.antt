-- Entries that are stepped over, one after another.
use Rattle.std.proofs.Common.{◌≡◌, List, [], ◌∷◌, ◌++◌, Option, Some, None, Ok, Err, refl, sym, ap, subst, ◌∙◌, append_assoc, append-nil}
use Rattle.std.specs.Prelude.{option_map, option_and_then}
use Rattle.texts.specs.declared.side.Side.{Side}
use Rattle.doc_values.specs.Types.{TyTree}
use Rattle.edit_module.specs.Action.{Why}
use Rattle.edit_module.specs.Words.{WordTree}
use Rattle.lens_core.specs.Complements.{CompTree}
use Rattle.lens_core.specs.Translation.{Translated}
use Rattle.edit_session.specs.Step.{TripleTree, Stepped, step}
use Rattle.edit_undo.specs.Undone.{BothTrees, no_words, undone_entry, undone_behind, undone_first, undone_each, BringsBack}
use Rattle.edit_undo.specs.Stepping.{joined_all, UndoesEntry, StepsOver, Fails}
use Rattle.edit_undo.proofs.Parts.{both_none, all_append, behind_behind, back_none, back_then}

abbrev Entries : Type 0
Entries = List (Side × WordTree)

map_behind : (o o' : Option (TripleTree × BothTrees)) (b : BothTrees) → o ≡ o' → option_map (undone_behind b) o ≡ option_map (undone_behind b) o'
map_behind o o' b e = ap (option_map (undone_behind b)) e

pub behind_none : (o : Option (TripleTree × BothTrees)) → option_map (undone_behind no_words) o ≡ o
behind_none None = refl
behind_none (Some r) = ap (λ (x : BothTrees). Some (r.0, x)) (both_none r.1)

behind_nothing : (o : Option (TripleTree × BothTrees)) → o ≡ None → (b : BothTrees) → option_map (undone_behind b) o ≡ None
behind_nothing o e b = ap (option_map (undone_behind b)) e

module _ (left right : TyTree) (carried : Side → CompTree → WordTree → Option Translated) where
  -- ---- one entry

  pub each_first : (t : TripleTree) (e : Side × WordTree) (es : Entries) (o : Option Stepped) → step left right carried t e ≡ o
      → undone_each left right carried t (e ∷ es) ≡ option_and_then (undone_first (λ word. undone_entry left right t e word) (λ next. undone_each left right carried next es)) o
  each_first t e es o is =
      ap (option_and_then (undone_first (λ word. undone_entry left right t e word) (λ next. undone_each left right carried next es))) is

  pub over_one : (t : TripleTree) (e : Side × WordTree) (u : TripleTree) (words : BothTrees) → UndoesEntry left right carried t e u (Some words)
      → StepsOver left right carried t (e ∷ []) (words ∷ []) u
  over_one t e u words h = record {
    goes = λ more. each_first t e more (Some (Ok (u, h.0))) h.1
        ∙ ap (λ (x : BothTrees). option_map (undone_behind x) (undone_each left right carried u more)) (sym h.2);
    back = h.3;
  }

  pub fail_one : (t : TripleTree) (e : Side × WordTree) (why : Why) → step left right carried t e ≡ Some (Err why) → Fails left right carried t (e ∷ [])
  fail_one t e why is more = each_first t e more (Some (Err why)) is

  -- ---- one after another

  pub over_none : (t : TripleTree) → StepsOver left right carried t [] [] t
  over_none t = record { goes = λ more. sym (behind_none (undone_each left right carried t more)); back = back_none left right t }

  pub over_then : (t u v : TripleTree) (es fs : Entries) (ws xs : List BothTrees) → StepsOver left right carried t es ws u → StepsOver left right carried u fs xs v
      → StepsOver left right carried t (es ++ fs) (ws ++ xs) v
  over_then t u v es fs ws xs a b = record {
    goes = λ more.
        let last = undone_each left right carried v more in
        ap (undone_each left right carried t) (append_assoc es fs more)
        ∙ (a.goes (fs ++ more)
        ∙ (map_behind (undone_each left right carried u (fs ++ more)) (option_map (undone_behind (joined_all xs)) last) (joined_all ws) (b.goes more)
        ∙ (behind_behind (joined_all ws) (joined_all xs) last
        ∙ ap (λ (x : BothTrees). option_map (undone_behind x) last) (sym (all_append ws xs)))));
    back = subst (λ (x : BothTrees). BringsBack left right x v t) (sym (all_append ws xs)) (back_then left right (joined_all ws) (joined_all xs) v u t b.back a.back);
  }

  pub fails_behind : (t u : TripleTree) (es fs : Entries) (ws : List BothTrees) → StepsOver left right carried t es ws u → Fails left right carried u fs → Fails left right carried t (es ++ fs)
  fails_behind t u es fs ws a b more =
      ap (undone_each left right carried t) (append_assoc es fs more)
      ∙ (a.goes (fs ++ more) ∙ behind_nothing (undone_each left right carried u (fs ++ more)) (b more) (joined_all ws))

  pub fails_before : (t : TripleTree) (es fs : Entries) → Fails left right carried t es → Fails left right carried t (es ++ fs)
  fails_before t es fs h more = ap (undone_each left right carried t) (append_assoc es fs more) ∙ h (fs ++ more)

  -- ---- all of them

  pub all_over : (t : TripleTree) (es : Entries) (ws : List BothTrees) (u : TripleTree) → StepsOver left right carried t es ws u
      → Some (u, joined_all ws) ≡ undone_each left right carried t es
  all_over t es ws u h = sym (ap (undone_each left right carried t) (sym (append-nil es)) ∙ h.goes [])

  pub all_fail : (t : TripleTree) (es : Entries) → Fails left right carried t es → None ≡ undone_each left right carried t es
  all_fail t es h = sym (ap (undone_each left right carried t) (sym (append-nil es)) ∙ h [])

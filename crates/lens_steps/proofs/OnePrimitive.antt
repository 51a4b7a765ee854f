-- A word of one primitive: its translation is that of the primitive.
use Rattle.std.proofs.Common.{◌≡◌, Option, None, Some, option_map, List, [], ◌∷◌, length, map, get_or, Result, refl, sym, ap, subst, ◌∙◌, arith}
use Rattle.std.specs.Prelude.{option_and_then, MatchResult}
use Rattle.texts.specs.declared.side.Side.{Side}
use Rattle.edit_module.specs.Words.{WordTree, no_primitives, word_of}
use Rattle.edit_module.specs.Views.{primitive_tree}
use Rattle.edit_module.specs.declared.word.Primitive.{Primitive}
use Rattle.lens_forms.specs.Forms.{FormTree}
use Rattle.lens_core.specs.Complements.{CompTree}
use Rattle.lens_core.specs.Emitted.{behind}
use Rattle.lens_core.specs.Translation.{Translated, translate_one, translate, carried_tree, IsCarryFault}
use Rattle.lens_core.specs.declared.carry.Carried.{Carried}
use Rattle.lens_core.specs.declared.carry.CarryFault.{CarryFault}
use Rattle.edit_module.proofs.JoinedWords.{joined_nothing}

nothing_behind : (o : Option Translated) → o ≡ option_and_then (λ r. option_map (behind r.0) (Some (no_primitives, r.1))) o
nothing_behind None = refl
nothing_behind (Some r) = ap (λ w. Some (w, r.1)) (sym (joined_nothing r.0))

one_translated : (l : FormTree) (side : Side) (c : CompTree) (ps : List Primitive) (p : Primitive) → length ps ≡ 1 → p ≡ get_or ps 0 p
    → translate_one l side c (primitive_tree p) ≡ translate l side c (word_of (map primitive_tree ps))
one_translated l side c [] p one is = absurd (omega (arith, one))
one_translated l side c (q ∷ []) p one is = ap (λ (x : Primitive). translate_one l side c (primitive_tree x)) is ∙ nothing_behind (translate_one l side c (primitive_tree q))
one_translated l side c (q ∷ r ∷ ps) p one is = absurd (omega (arith, one))

-- what a call returned for the primitive it may return for the word
abbrev pub IsOf : Result Carried CarryFault → Option Translated → Type 0
IsOf r translated = MatchResult r (λ x. translated ≡ Some (carried_tree x)) (IsCarryFault translated)

pub one_carried : (r : Result Carried CarryFault) (l : FormTree) (side : Side) (c : CompTree) (w : WordTree) (ps : List Primitive) (p : Primitive) → length ps ≡ 1 → p ≡ get_or ps 0 p → word_of (map primitive_tree ps) ≡ w
    → IsOf r (translate_one l side c (primitive_tree p)) → IsOf r (translate l side c w)
one_carried r l side c w ps p one is word h = subst (IsOf r) (one_translated l side c ps p one is ∙ ap (translate l side c) word) h

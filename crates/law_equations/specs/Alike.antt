-- Words that are equal by the equations, which have the same normal form, are translated alike.
-- In order: `AreAlike`, then `KeepsEquations`, which each constructor keeps.
use Rattle.std.specs.Prelude.{◌≡◌, Option, Some, None}
use Rattle.texts.specs.declared.side.Side.{Side}
use Rattle.edit_module.specs.Words.{WordTree}
use Rattle.edit_module.specs.Normal.{normal}
use Rattle.lens_forms.specs.Forms.{FormTree, RowTrees, no_rows, both, only_left, only_right, ArmTrees, no_arms}
use Rattle.lens_forms.specs.Forms.{more_arms}
use Rattle.lens_core.specs.Complements.{CompTree}
use Rattle.lens_core.specs.Translation.{Translated, translate}

-- two translations are alike: both have no value, or their words have the same normal form and their complements are
-- the same
abbrev pub AreAlike : Option Translated → Option Translated → Type 0
AreAlike None None = Unit {0}
AreAlike None (Some r) = ⊥
AreAlike (Some q) None = ⊥
AreAlike (Some q) (Some r) = (normal q.0 ≡ normal r.0) × (q.1 ≡ r.1)

-- a lens keeps the equations: from each side and at each complement, fitting or not, words with the same normal form
-- are translated alike
abbrev pub KeepsEquations : FormTree → Type 0
KeepsEquations form = (side : Side) (c : CompTree) (u w : WordTree) → normal u ≡ normal w
    → AreAlike (translate form side c u) (translate form side c w)

-- the lenses of all paired rows keep the equations
abbrev pub RowsKeepEquations : RowTrees → Type 0
RowsKeepEquations no_rows = Unit {0}
RowsKeepEquations (both a b l rows) = KeepsEquations l × RowsKeepEquations rows
RowsKeepEquations (only_left a t rows) = RowsKeepEquations rows
RowsKeepEquations (only_right b t rows) = RowsKeepEquations rows

-- the lenses of all arms keep the equations
abbrev pub ArmsKeepEquations : ArmTrees → Type 0
ArmsKeepEquations no_arms = Unit {0}
ArmsKeepEquations (more_arms a b l arms) = KeepsEquations l × ArmsKeepEquations arms

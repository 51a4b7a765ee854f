-- How a form with lenses inside translates one primitive: it begins, a lens inside translates a word, and it finishes.
-- In order: `Beginning`, `carried_on`, then what the code knows of a beginning.
use Rattle.std.specs.Prelude.{◌≡◌, ℕ, Option, None, Some, option_map}
use Rattle.edit_module.specs.Words.{WordTree}
use Rattle.edit_module.specs.Views.{word_tree}
use Rattle.lens_core.specs.Complements.{CompTree, comp_tree}
use Rattle.lens_core.specs.Translation.{Translated, carried_tree}
use Rattle.lens_core.specs.declared.carry.Begun.{Begun}
use Rattle.lens_core.specs.declared.carry.Begun.TheVariants.{Done, Inner}
use Rattle.lens_core.specs.declared.carry.CarryFault.{CarryFault}
use Rattle.lens_core.specs.declared.carry.CarryFault.TheVariants.{Unfit, NoMemory}

-- the result, where no lens inside is needed; else the number of the lens inside, its complement, and the word to
-- translate
pub data Beginning : Type 0 where
  finished : Translated → Beginning
  inside : ℕ → CompTree → WordTree → Beginning

-- the whole translation: the lens inside of a number translates, and its result is put in its place
abbrev pub carried_on : (ℕ → CompTree → WordTree → Option Translated) → (Translated → Translated) → Beginning
    → Option Translated
carried_on inner finish (finished r) = Some r
carried_on inner finish (inside i c w) = option_map finish (inner i c w)

-- a lens inside is needed
abbrev pub IsInside : Option Beginning → Type 0
IsInside (Some (inside i c w)) = Unit {0}
IsInside (Some (finished r)) = ⊥
IsInside None = ⊥

-- how contracts see a `Begun`
abbrev pub begun_tree : Begun → Beginning
begun_tree (Done r) = finished (carried_tree r)
begun_tree (Inner i c w) = inside i (comp_tree c) (word_tree w)

-- why there is no beginning: Unfit where the definition has none; running out of memory says nothing
abbrev pub IsBeginFault : Option Beginning → CarryFault → Type 0
IsBeginFault begun Unfit = begun ≡ None
IsBeginFault begun NoMemory = Unit {0}

-- Which texts are accepted, in the words of the grammar, of typing and of the limits. Nothing here speaks of failures
-- or of their order. Read it from the end: `IsAcceptedAs`, `IsAcceptable`, then `IsAcceptableLens` and
-- `IsAcceptableType`.
use Rattle.std.specs.Prelude.{◌≡◌, ◌≤◌, IsTrue, ℕ, List, [], length}
use Rattle.std.specs.List.{All}
use Rattle.doc_values.specs.Types.{TyTree, height, highest, is_well_formed}
use Rattle.program_terms.specs.Terms.{ProgramTree}
use Rattle.lens_syntax.specs.Programs.{IsProgramOf}
use Rattle.lens_syntax.specs.declared.reading.TheConstants.{MOST_PROGRAM_BYTES}
use Rattle.lens_forms.specs.Forms.{FormTree, form_id, form_bij, form_disc, form_then, form_rec, form_alt, form_each}
use Rattle.lens_forms.specs.Forms.{form_keyed, form_ordered, form_part, form_inv, RowTrees, no_rows, both, only_left}
use Rattle.lens_forms.specs.Forms.{only_right, ArmTrees, no_arms, more_arms, left_type, right_type}
use Rattle.lens_forms.specs.Measures.{type_parts, form_parts, form_height}
use Rattle.lens_forms.specs.Typing.{IsTyped}
use Rattle.lens_forms.specs.declared.limits.TheConstants.{GREATEST_HEIGHT, MOST_PARTS}
use Rattle.lens_types.specs.Earlier.{KnownTree, known_type, known_lens, all_known, main_form}

-- ---- the heights of the types in a lens

-- the height of a type is at most 32
abbrev pub IsLow : TyTree → Type 0
IsLow t = height t ≤ GREATEST_HEIGHT

-- the types of both sides of a form are low
abbrev pub HasLowSides : FormTree → Type 0
HasLowSides f = IsLow (left_type f) × IsLow (right_type f)

-- all types in a form are low: those of both sides of it and of each form inside it, and those that are written in it
abbrev mutual
  pub HasLowTypes : FormTree → Type 0
  HasLowTypes (form_id t) = HasLowSides (form_id t) × IsLow t
  HasLowTypes (form_bij ps n) = HasLowSides (form_bij ps n)
  HasLowTypes (form_disc t u) = HasLowSides (form_disc t u) × IsLow t × IsLow u
  HasLowTypes (form_then l k) = HasLowSides (form_then l k) × HasLowTypes l × HasLowTypes k
  HasLowTypes (form_rec rows) = HasLowSides (form_rec rows) × RowsHaveLowTypes rows
  HasLowTypes (form_alt arms) = HasLowSides (form_alt arms) × ArmsHaveLowTypes arms
  HasLowTypes (form_each l) = HasLowSides (form_each l) × HasLowTypes l
  HasLowTypes (form_keyed l) = HasLowSides (form_keyed l) × HasLowTypes l
  HasLowTypes (form_ordered l) = HasLowSides (form_ordered l) × HasLowTypes l
  HasLowTypes (form_part fs) = HasLowSides (form_part fs) × (highest fs ≤ GREATEST_HEIGHT)
  HasLowTypes (form_inv l) = HasLowSides (form_inv l) × HasLowTypes l

  pub RowsHaveLowTypes : RowTrees → Type 0
  RowsHaveLowTypes no_rows = Unit {0}
  RowsHaveLowTypes (both a b l rows) = HasLowTypes l × RowsHaveLowTypes rows
  RowsHaveLowTypes (only_left a t rows) = IsLow t × RowsHaveLowTypes rows
  RowsHaveLowTypes (only_right b t rows) = IsLow t × RowsHaveLowTypes rows

  pub ArmsHaveLowTypes : ArmTrees → Type 0
  ArmsHaveLowTypes no_arms = Unit {0}
  ArmsHaveLowTypes (more_arms a b l arms) = HasLowTypes l × ArmsHaveLowTypes arms

-- ---- what a definition stands for, names expanded

-- A type is acceptable: it has at most 4,096 parts, its height is at most 32, and it is well formed.
pub record IsAcceptableType (t : TyTree) : Type 0 where
  pub small : type_parts t ≤ MOST_PARTS
  pub low : IsLow t
  pub well_formed : IsTrue (is_well_formed t)

-- A lens is acceptable. Its form has at most 4,096 parts, and the heights of the form and of all types in it are at
-- most 32. The form is typed, from its left type to its right type.
pub record IsAcceptableLens (f : FormTree) : Type 0 where
  pub small : form_parts f ≤ MOST_PARTS
  pub low : form_height f ≤ GREATEST_HEIGHT
  pub low_types : HasLowTypes f
  pub typed : IsTyped f (left_type f) (right_type f)

-- what a definition stands for is acceptable
abbrev pub IsAcceptableMeaning : KnownTree → Type 0
IsAcceptableMeaning (known_type t) = IsAcceptableType t
IsAcceptableMeaning (known_lens f) = IsAcceptableLens f

-- ---- programs and texts

-- A program is acceptable: what each of its definitions stands for is acceptable, used or not, and so is its main lens.
-- All names are expanded.
pub record IsAcceptable (program : ProgramTree) : Type 0 where
  pub definitions : All (λ definition. IsAcceptableMeaning definition.1) (all_known [] program.definitions)
  pub main : IsAcceptableLens (main_form program)

-- The text is accepted as this form. It has at most `MOST_PROGRAM_BYTES` bytes, the grammar has it as a program, and
-- its names have no fault. The program is acceptable, and the form is that of its main lens, all names expanded.
pub record IsAcceptedAs (text : List ℕ) (form : FormTree) : Type 0 where
  pub program : ProgramTree
  pub short : length text ≤ MOST_PROGRAM_BYTES
  pub is_program : IsProgramOf text program
  pub acceptable : IsAcceptable program
  pub is_main : form ≡ main_form program

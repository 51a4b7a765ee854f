-- What is asked of a record and of alternatives, so that they keep the laws: their lenses keep them, the names of each
-- side are distinct, and both types are well formed. A typed form has the last two. Read it from the end:
-- `AreLawfulAlternatives`, then `IsLawfulRecord`.
use Rattle.std.specs.Prelude.{IsTrue}
use Rattle.doc_values.specs.Types.{ty_rec, ty_alt, is_well_formed, are_distinct}
use Rattle.lens_forms.specs.Forms.{RowTrees, no_rows, both, only_left, only_right, ArmTrees, no_arms, more_arms}
use Rattle.lens_forms.specs.Forms.{left_fields, right_fields, left_tags, right_tags}
use Rattle.lens_forms.specs.Typing.{left_names, right_names, left_arms, right_arms}
use Rattle.lens_core.specs.Laws.{Laws}

-- the lens of each paired row keeps the laws
abbrev pub RowLaws : RowTrees → Type 0
RowLaws no_rows = Unit {0}
RowLaws (both a b l rows) = Laws l × RowLaws rows
RowLaws (only_left a t rows) = RowLaws rows
RowLaws (only_right b t rows) = RowLaws rows

pub record IsLawfulRecord (rows : RowTrees) : Type 0 where
  pub laws : RowLaws rows
  pub left_apart : IsTrue (are_distinct (left_names rows))
  pub right_apart : IsTrue (are_distinct (right_names rows))
  pub left_sound : IsTrue (is_well_formed (ty_rec (left_fields rows)))
  pub right_sound : IsTrue (is_well_formed (ty_rec (right_fields rows)))

-- the lens of each arm keeps the laws
abbrev pub ArmLaws : ArmTrees → Type 0
ArmLaws no_arms = Unit {0}
ArmLaws (more_arms a b l arms) = Laws l × ArmLaws arms

pub record AreLawfulAlternatives (arms : ArmTrees) : Type 0 where
  pub laws : ArmLaws arms
  pub left_apart : IsTrue (are_distinct (left_arms arms))
  pub right_apart : IsTrue (are_distinct (right_arms arms))
  pub left_sound : IsTrue (is_well_formed (ty_alt (left_tags arms)))
  pub right_sound : IsTrue (is_well_formed (ty_alt (right_tags arms)))

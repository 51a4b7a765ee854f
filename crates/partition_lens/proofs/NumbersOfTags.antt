-- A partition at the numbers of its tags is translated by its rows; where a number is that of no tag it is not translated.
use Rattle.std.proofs.Common.{◌≡◌, ℕ, ◌≤◌, Bool, true, false, List, length, Option, None, Some, option_map, refl, ap, ◌∙◌, subst, arith}
use Rattle.std.specs.Prelude.{if◌then◌else◌}
use Rattle.tag_seq.specs.Tags.{are_below}
use Rattle.texts.specs.declared.side.Side.{Side}
use Rattle.texts.specs.declared.side.Side.TheVariants.{Left, Right}
use Rattle.doc_values.specs.Types.{FieldTrees, field_list}
use Rattle.edit_module.specs.Words.{PrimitiveTree}
use Rattle.lens_forms.specs.Forms.{form_part}
use Rattle.lens_forms.specs.declared.limits.TheConstants.{MOST_PARTS}
use Rattle.lens_core.specs.Complements.{tags_comp}
use Rattle.lens_core.specs.Partition.{Parted, part_left, part_right}
use Rattle.lens_core.specs.Tags.{tag_count}
use Rattle.lens_core.specs.Translation.{Translated, translate_one, part_one, tagged, IsCarryFault}
use Rattle.lens_core.specs.declared.carry.CarryFault.{CarryFault}
use Rattle.lens_core.specs.declared.carry.CarryFault.TheVariants.{Unfit, NoMemory}
use Rattle.lens_core.proofs.Tags.{field_list-tag_count}
use Rattle.partition_lens.specs.Rows.{IsRowFault}

-- ---- how many tags there are

pub few_fields : (fs : FieldTrees) → tag_count fs ≤ MOST_PARTS → length (field_list fs) ≤ MOST_PARTS
few_fields fs h = omega (arith, field_list-tag_count fs)

pub fields_count : (fs : FieldTrees) (n : ℕ) (ts : List ℕ) → n ≡ length (field_list fs) → are_below n ts ≡ are_below (tag_count fs) ts
fields_count fs n ts e = ap (λ (k : ℕ). are_below k ts) (e ∙ field_list-tag_count fs)

pub ruleset count_rules = (few_fields, fields_count)

-- ---- the translation

row_if : (b : Bool) (row : Option Translated) → b ≡ true → (if b then row else None) ≡ row
row_if true row e = refl
row_if false row e = cc

none_if : (b : Bool) (row : Option Translated) → b ≡ false → (if b then row else None) ≡ None
none_if true row e = cc
none_if false row e = refl

-- numbers of tags
part_row : (fs : FieldTrees) (ts : List ℕ) (side : Side) (p : PrimitiveTree) → are_below (tag_count fs) ts ≡ true
    → translate_one (form_part fs) side (tags_comp ts) p ≡ option_map tagged (part_one side fs ts p)
part_row fs ts side p below = row_if (are_below (tag_count fs) ts) (option_map tagged (part_one side fs ts p)) below

-- a number that is too large
pub part_none : (fs : FieldTrees) (ts : List ℕ) (side : Side) (p : PrimitiveTree) → are_below (tag_count fs) ts ≡ false
    → translate_one (form_part fs) side (tags_comp ts) p ≡ None
part_none fs ts side p above = none_if (are_below (tag_count fs) ts) (option_map tagged (part_one side fs ts p)) above

-- a row, from each side
pub left_row : (fs : FieldTrees) (ts : List ℕ) (p : PrimitiveTree) (r : Parted) → are_below (tag_count fs) ts ≡ true → part_left fs ts p ≡ Some r
    → translate_one (form_part fs) Left (tags_comp ts) p ≡ Some (tagged r)
left_row fs ts p r below e = part_row fs ts Left p below ∙ ap (option_map tagged) e

pub right_row : (fs : FieldTrees) (ts : List ℕ) (p : PrimitiveTree) (r : Parted) → are_below (tag_count fs) ts ≡ true → part_right fs ts p ≡ Some r
    → translate_one (form_part fs) Right (tags_comp ts) p ≡ Some (tagged r)
right_row fs ts p r below e = part_row fs ts Right p below ∙ ap (option_map tagged) e

-- no row, from each side
pub left_fault : (fs : FieldTrees) (ts : List ℕ) (p : PrimitiveTree) (fault : CarryFault) → are_below (tag_count fs) ts ≡ true → IsRowFault (part_left fs ts p) fault
    → IsCarryFault (translate_one (form_part fs) Left (tags_comp ts) p) fault
left_fault fs ts p Unfit below e = part_row fs ts Left p below ∙ ap (option_map tagged) e
left_fault fs ts p NoMemory below e = tt

pub right_fault : (fs : FieldTrees) (ts : List ℕ) (p : PrimitiveTree) (fault : CarryFault) → are_below (tag_count fs) ts ≡ true → IsRowFault (part_right fs ts p) fault
    → IsCarryFault (translate_one (form_part fs) Right (tags_comp ts) p) fault
right_fault fs ts p Unfit below e = part_row fs ts Right p below ∙ ap (option_map tagged) e
right_fault fs ts p NoMemory below e = tt

pub ruleset left_rules = (part_none, left_row, left_fault)

pub ruleset right_rules = (part_none, right_row, right_fault)

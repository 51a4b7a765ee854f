-- For the helpers of the checker: the type of a side of a form, for both sides at once, its fields sorted at the end.
use Rattle.std.specs.Prelude.{ℕ, List, Option, Some, None}
use Rattle.doc_values.specs.Types.{TyTree, ty_enum, ty_rec, ty_alt, ty_list, ty_keyed, ty_ordered, FieldTrees}
use Rattle.doc_values.specs.Types.{no_fields, more_fields}
use Rattle.lens_forms.specs.Forms.{FormTree, form_id, form_bij, form_disc, form_then, form_rec, form_alt, form_each}
use Rattle.lens_forms.specs.Forms.{form_keyed, form_ordered, form_part, form_inv, RowTrees, no_rows, both, only_left}
use Rattle.lens_forms.specs.Forms.{only_right, ArmTrees, no_arms, more_arms, lefts, rights, partner_of, sorted}
use Rattle.lens_forms.specs.Forms.{lists_of}
use Rattle.program_terms.specs.Terms as Term
use Rattle.lens_types.specs.Earlier.{Definitions, expanded_type, expanded_form}
use Rattle.texts.specs.Sides.{other}
use Rattle.texts.specs.declared.side.Side.{Side}
use Rattle.texts.specs.declared.side.Side.TheVariants.{Left, Right}

-- of two things of the two sides, that of a side
abbrev pub pick : {A : Type 0} → Side → A → A → A
pick Left x y = x
pick Right x y = y

abbrev mutual
  pub type_on : Side → FormTree → TyTree
  type_on side (form_id t) = t
  type_on side (form_bij ps v) = ty_enum (pick side (lefts ps) (rights ps)) (pick side v (partner_of ps v))
  type_on side (form_disc t u) = pick side t u
  type_on side (form_then l k) = pick side (type_on side l) (type_on side k)
  type_on side (form_rec rows) = ty_rec (sorted (fields_on side rows))
  type_on side (form_alt arms) = ty_alt (tags_on side arms)
  type_on side (form_each l) = ty_list (type_on side l)
  type_on side (form_keyed l) = ty_keyed (type_on side l)
  type_on side (form_ordered l) = ty_ordered (type_on side l)
  type_on side (form_part fs) = pick side (ty_list (ty_alt fs)) (ty_rec (sorted (lists_of fs)))
  type_on side (form_inv l) = type_on (other side) l

  -- the fields of a side of a record, in written order
  pub fields_on : Side → RowTrees → FieldTrees
  fields_on side no_rows = no_fields
  fields_on side (both a b l rows) = more_fields (pick side a b) (type_on side l) (fields_on side rows)
  fields_on side (only_left a t rows) = pick side (more_fields a t (fields_on side rows)) (fields_on side rows)
  fields_on side (only_right b t rows) = pick side (fields_on side rows) (more_fields b t (fields_on side rows))

  -- the tags of a side of alternatives, in written order
  pub tags_on : Side → ArmTrees → FieldTrees
  tags_on side no_arms = no_fields
  tags_on side (more_arms a b l arms) = more_fields (pick side a b) (type_on side l) (tags_on side arms)

-- the members of a side of a bijection, and its initial value on a side
abbrev pub members_on : Side → List (List ℕ × List ℕ) → List (List ℕ)
members_on side ps = pick side (lefts ps) (rights ps)

abbrev pub value_on : Side → List (List ℕ × List ℕ) → List ℕ → List ℕ
value_on side ps v = pick side v (partner_of ps v)

-- the field that one row has on a side, names expanded
abbrev pub field_on : Side → Definitions → Term.RowTree → Option (List ℕ × TyTree)
field_on side ds (Term.row_both a b l) = Some (pick side a b, type_on side (expanded_form ds l))
field_on side ds (Term.row_left a t) = pick side (Some (a, expanded_type ds t)) None
field_on side ds (Term.row_right b t) = pick side None (Some (b, expanded_type ds t))

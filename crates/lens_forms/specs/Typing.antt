-- Typing: which forms are lenses, and from which type to which.
-- Read it from the end: `is_typed` computes `IsTyped`, which has a line for each form.
use Rattle.std.specs.Prelude.{◌≡◌, IsTrue, ℕ, Bool, true, ◌&&◌, List, [], ◌∷◌}
use Rattle.texts.specs.Keys.{has_name}
use Rattle.doc_values.specs.Types.{TyTree, ty_enum, ty_rec, ty_alt, ty_list, ty_keyed, ty_ordered, FieldTrees}
use Rattle.doc_values.specs.Types.{no_fields, more_fields, names_of, are_distinct, are_choices, is_well_formed}
use Rattle.doc_values.specs.Types.{are_well_formed, is_same_ty}
use Rattle.lens_forms.specs.Forms.{FormTree, form_id, form_bij, form_disc, form_then, form_rec, form_alt, form_each}
use Rattle.lens_forms.specs.Forms.{form_keyed, form_ordered, form_part, form_inv, RowTrees, no_rows, both, only_left}
use Rattle.lens_forms.specs.Forms.{only_right, ArmTrees, no_arms, more_arms, lefts, rights, partner_of, insert_field}
use Rattle.lens_forms.specs.Forms.{sorted, lists_of, left_type, right_type}

-- the names of the left and of the right fields of a record, in written order
abbrev pub left_names : RowTrees → List (List ℕ)
left_names no_rows = []
left_names (both a b l rows) = a ∷ left_names rows
left_names (only_left a t rows) = a ∷ left_names rows
left_names (only_right b t rows) = left_names rows

abbrev pub right_names : RowTrees → List (List ℕ)
right_names no_rows = []
right_names (both a b l rows) = b ∷ right_names rows
right_names (only_left a t rows) = right_names rows
right_names (only_right b t rows) = b ∷ right_names rows

-- the left and the right tags of alternatives, in written order
abbrev pub left_arms : ArmTrees → List (List ℕ)
left_arms no_arms = []
left_arms (more_arms a b l arms) = a ∷ left_arms arms

abbrev pub right_arms : ArmTrees → List (List ℕ)
right_arms no_arms = []
right_arms (more_arms a b l arms) = b ∷ right_arms arms

-- The form is a lens from the left type to the right type. A line each:
-- the identity of a type goes from it to itself; a bijection from the enum of its left members to that of its right
-- members, distinct on each side and at least one, with an initial value that is a left member, and its partner; disc
-- between any two types; a composition from the left type of its first form to the right type of its second, whose
-- middle types are the same; a record from the record of its left fields to that of its right fields, distinct on each
-- side; alternatives from the alternatives of their left tags to those of their right tags, distinct on each side and
-- at least one; a container from the container of the left type to that of the right type; a partition from the list of
-- its alternatives, of distinct tags and at least one, to the record of a list for each tag; an inverse from the right
-- type to the left type. The types in a form are well formed.
abbrev mutual
  pub IsTyped : FormTree → TyTree → TyTree → Type 0
  IsTyped (form_id t) left right = IsTrue (is_well_formed t) × (left ≡ t) × (right ≡ t)
  IsTyped (form_bij ps n) left right =
      IsTrue (are_choices (lefts ps)) × IsTrue (are_choices (rights ps)) × IsTrue (has_name n (lefts ps))
      × (left ≡ ty_enum (lefts ps) n) × (right ≡ ty_enum (rights ps) (partner_of ps n))
  IsTyped (form_disc t u) left right = IsTrue (is_well_formed t) × IsTrue (is_well_formed u) × (left ≡ t) × (right ≡ u)
  IsTyped (form_then l k) left right = (middle : TyTree) × IsTyped l left middle × IsTyped k middle right
  IsTyped (form_rec rows) left right =
      (ls : FieldTrees) × (rs : FieldTrees) × AreTypedRows rows ls rs
      × IsTrue (are_distinct (left_names rows)) × IsTrue (are_distinct (right_names rows)) × (left ≡ ty_rec ls)
      × (right ≡ ty_rec rs)
  IsTyped (form_alt arms) left right =
      (ls : FieldTrees) × (rs : FieldTrees) × AreTypedArms arms ls rs
      × IsTrue (are_choices (left_arms arms)) × IsTrue (are_choices (right_arms arms)) × (left ≡ ty_alt ls)
      × (right ≡ ty_alt rs)
  IsTyped (form_each l) left right = (t : TyTree) × (u : TyTree) × IsTyped l t u × (left ≡ ty_list t)
      × (right ≡ ty_list u)
  IsTyped (form_keyed l) left right = (t : TyTree) × (u : TyTree) × IsTyped l t u × (left ≡ ty_keyed t)
      × (right ≡ ty_keyed u)
  IsTyped (form_ordered l) left right = (t : TyTree) × (u : TyTree) × IsTyped l t u × (left ≡ ty_ordered t)
      × (right ≡ ty_ordered u)
  IsTyped (form_part fs) left right =
      IsTrue (are_choices (names_of fs)) × IsTrue (are_well_formed fs) × (left ≡ ty_list (ty_alt fs))
      × (right ≡ ty_rec (sorted (lists_of fs)))
  IsTyped (form_inv l) left right = IsTyped l right left

  -- rows from left fields to right fields, both sorted by bytes
  pub AreTypedRows : RowTrees → FieldTrees → FieldTrees → Type 0
  AreTypedRows no_rows ls rs = (ls ≡ no_fields) × (rs ≡ no_fields)
  AreTypedRows (both a b l rows) ls rs =
      (t : TyTree) × (u : TyTree) × (ls' : FieldTrees) × (rs' : FieldTrees) × IsTyped l t u × AreTypedRows rows ls' rs'
      × (ls ≡ insert_field a t ls') × (rs ≡ insert_field b u rs')
  AreTypedRows (only_left a t rows) ls rs =
      (ls' : FieldTrees) × IsTrue (is_well_formed t) × AreTypedRows rows ls' rs × (ls ≡ insert_field a t ls')
  AreTypedRows (only_right b t rows) ls rs =
      (rs' : FieldTrees) × IsTrue (is_well_formed t) × AreTypedRows rows ls rs' × (rs ≡ insert_field b t rs')

  -- arms from left tags to right tags, both in written order
  pub AreTypedArms : ArmTrees → FieldTrees → FieldTrees → Type 0
  AreTypedArms no_arms ls rs = (ls ≡ no_fields) × (rs ≡ no_fields)
  AreTypedArms (more_arms a b l arms) ls rs =
      (t : TyTree) × (u : TyTree) × (ls' : FieldTrees) × (rs' : FieldTrees) × IsTyped l t u × AreTypedArms arms ls' rs'
      × (ls ≡ more_fields a t ls') × (rs ≡ more_fields b u rs')

-- the same as a test: a form is typed, with its two types, exactly where this is true
abbrev mutual
  pub is_typed : FormTree → Bool
  is_typed (form_id t) = is_well_formed t
  is_typed (form_bij ps n) = are_choices (lefts ps) && (are_choices (rights ps) && has_name n (lefts ps))
  is_typed (form_disc t u) = is_well_formed t && is_well_formed u
  is_typed (form_then l k) = (is_typed l && is_typed k) && is_same_ty (right_type l) (left_type k)
  is_typed (form_rec rows) = are_typed_rows rows && (are_distinct (left_names rows) && are_distinct (right_names rows))
  is_typed (form_alt arms) = are_typed_arms arms && (are_choices (left_arms arms) && are_choices (right_arms arms))
  is_typed (form_each l) = is_typed l
  is_typed (form_keyed l) = is_typed l
  is_typed (form_ordered l) = is_typed l
  is_typed (form_part fs) = are_choices (names_of fs) && are_well_formed fs
  is_typed (form_inv l) = is_typed l

  pub are_typed_rows : RowTrees → Bool
  are_typed_rows no_rows = true
  are_typed_rows (both a b l rows) = is_typed l && are_typed_rows rows
  are_typed_rows (only_left a t rows) = is_well_formed t && are_typed_rows rows
  are_typed_rows (only_right b t rows) = is_well_formed t && are_typed_rows rows

  pub are_typed_arms : ArmTrees → Bool
  are_typed_arms no_arms = true
  are_typed_arms (more_arms a b l arms) = is_typed l && are_typed_arms arms

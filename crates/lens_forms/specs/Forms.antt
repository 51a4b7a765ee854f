-- Forms of lenses as plain trees, and the two types of a form.
-- In order: `FormTree`, `left_type` and `right_type`, and `form_tree`, the tree that contracts see a form as.
use Rattle.std.specs.Prelude.{ℕ, ◌+◌, bytes_eq, if◌then◌else◌, List, [], ◌∷◌}
use Rattle.texts.specs.Keys.{is_before}
use Rattle.doc_values.specs.Types.{TyTree, ty_enum, ty_rec, ty_alt, ty_list, ty_keyed, ty_ordered, FieldTrees}
use Rattle.doc_values.specs.Types.{no_fields, more_fields, ty_tree, fields_tree}
use Rattle.lens_forms.specs.declared.form.Form.{Form, fold-Form}
use Rattle.lens_forms.specs.declared.form.FormRow.{FormRow, fold-FormRow}
use Rattle.lens_forms.specs.declared.form.FormRows.{FormRows, fold-FormRows}
use Rattle.lens_forms.specs.declared.form.FormArms.{FormArms, fold-FormArms}
use Rattle.lens_forms.specs.declared.form.Form.TheOpen.{Form-F, FormRow-F, FormRows-F, FormArms-F}

-- the forms in the order of the grammar; a bijection has its pairs and its initial value on the left, a partition its
-- tags with their types; a row of a record is paired, or stands on one side alone; an arm of alternatives has its left
-- tag, its right tag and its form
mutual
  pub data FormTree : Type 0 where
    form_id : TyTree → FormTree
    form_bij : List (List ℕ × List ℕ) → List ℕ → FormTree
    form_disc : TyTree → TyTree → FormTree
    form_then : FormTree → FormTree → FormTree
    form_rec : RowTrees → FormTree
    form_alt : ArmTrees → FormTree
    form_each : FormTree → FormTree
    form_keyed : FormTree → FormTree
    form_ordered : FormTree → FormTree
    form_part : FieldTrees → FormTree
    form_inv : FormTree → FormTree

  pub data RowTrees : Type 0 where
    no_rows : RowTrees
    both : List ℕ → List ℕ → FormTree → RowTrees → RowTrees
    only_left : List ℕ → TyTree → RowTrees → RowTrees
    only_right : List ℕ → TyTree → RowTrees → RowTrees

  pub data ArmTrees : Type 0 where
    no_arms : ArmTrees
    more_arms : List ℕ → List ℕ → FormTree → ArmTrees → ArmTrees

-- how many paired rows there are
abbrev pub paired_rows : RowTrees → ℕ
paired_rows no_rows = 0
paired_rows (both a b l rows) = paired_rows rows + 1
paired_rows (only_left a t rows) = paired_rows rows
paired_rows (only_right b t rows) = paired_rows rows

-- the left and the right members of a bijection, in written order
abbrev pub lefts : List (List ℕ × List ℕ) → List (List ℕ)
lefts [] = []
lefts (p ∷ ps) = p.0 ∷ lefts ps

abbrev pub rights : List (List ℕ × List ℕ) → List (List ℕ)
rights [] = []
rights (p ∷ ps) = p.1 ∷ rights ps

-- the partner of a left member: the right member of the first pair that has it; of what is no left member, the empty
-- name
abbrev pub partner_of : List (List ℕ × List ℕ) → List ℕ → List ℕ
partner_of [] n = []
partner_of (p ∷ ps) n = if bytes_eq p.0 n then p.1 else partner_of ps n

-- a field put at its place among fields that are sorted by bytes
abbrev pub insert_field : List ℕ → TyTree → FieldTrees → FieldTrees
insert_field n t no_fields = more_fields n t no_fields
insert_field n t (more_fields m u fs) = if is_before m n then more_fields m u (insert_field n t fs)
    else more_fields n t (more_fields m u fs)

-- fields in written order, sorted by bytes
abbrev pub sorted : FieldTrees → FieldTrees
sorted no_fields = no_fields
sorted (more_fields n t fs) = insert_field n t (sorted fs)

-- the same names, each with a list of its type
abbrev pub lists_of : FieldTrees → FieldTrees
lists_of no_fields = no_fields
lists_of (more_fields n t fs) = more_fields n (ty_list t) (lists_of fs)

-- the two types of a form, a line each for the left and for the right; the fields of a record are sorted by bytes, tags
-- stand in written order; the initial value of a bijection on the right is the partner of that on the left
abbrev mutual
  pub left_type : FormTree → TyTree
  left_type (form_id t) = t
  left_type (form_bij ps n) = ty_enum (lefts ps) n
  left_type (form_disc t u) = t
  left_type (form_then l k) = left_type l
  left_type (form_rec rows) = ty_rec (left_fields rows)
  left_type (form_alt arms) = ty_alt (left_tags arms)
  left_type (form_each l) = ty_list (left_type l)
  left_type (form_keyed l) = ty_keyed (left_type l)
  left_type (form_ordered l) = ty_ordered (left_type l)
  left_type (form_part fs) = ty_list (ty_alt fs)
  left_type (form_inv l) = right_type l

  pub right_type : FormTree → TyTree
  right_type (form_id t) = t
  right_type (form_bij ps n) = ty_enum (rights ps) (partner_of ps n)
  right_type (form_disc t u) = u
  right_type (form_then l k) = right_type k
  right_type (form_rec rows) = ty_rec (right_fields rows)
  right_type (form_alt arms) = ty_alt (right_tags arms)
  right_type (form_each l) = ty_list (right_type l)
  right_type (form_keyed l) = ty_keyed (right_type l)
  right_type (form_ordered l) = ty_ordered (right_type l)
  right_type (form_part fs) = ty_rec (sorted (lists_of fs))
  right_type (form_inv l) = left_type l

  -- the fields of each side of a record
  pub left_fields : RowTrees → FieldTrees
  left_fields no_rows = no_fields
  left_fields (both a b l rows) = insert_field a (left_type l) (left_fields rows)
  left_fields (only_left a t rows) = insert_field a t (left_fields rows)
  left_fields (only_right b t rows) = left_fields rows

  pub right_fields : RowTrees → FieldTrees
  right_fields no_rows = no_fields
  right_fields (both a b l rows) = insert_field b (right_type l) (right_fields rows)
  right_fields (only_left a t rows) = right_fields rows
  right_fields (only_right b t rows) = insert_field b t (right_fields rows)

  -- the tags of each side of alternatives
  pub left_tags : ArmTrees → FieldTrees
  left_tags no_arms = no_fields
  left_tags (more_arms a b l arms) = more_fields a (left_type l) (left_tags arms)

  pub right_tags : ArmTrees → FieldTrees
  right_tags no_arms = no_fields
  right_tags (more_arms a b l arms) = more_fields b (right_type l) (right_tags arms)

-- ---- how contracts see a `Form`

-- one row, its form already seen as its tree
pub data FormRowTree : Type 0 where
  row_both : List ℕ → List ℕ → FormTree → FormRowTree
  row_left : List ℕ → TyTree → FormRowTree
  row_right : List ℕ → TyTree → FormRowTree

-- a row before others
abbrev pub with_form_row : FormRowTree → RowTrees → RowTrees
with_form_row (row_both a b l) rows = both a b l rows
with_form_row (row_left a t) rows = only_left a t rows
with_form_row (row_right b t) rows = only_right b t rows

-- a list of rows as rows, and back
abbrev pub form_rows_of : List FormRowTree → RowTrees
form_rows_of [] = no_rows
form_rows_of (r ∷ rows) = with_form_row r (form_rows_of rows)

abbrev pub form_row_list : RowTrees → List FormRowTree
form_row_list no_rows = []
form_row_list (both a b l rows) = row_both a b l ∷ form_row_list rows
form_row_list (only_left a t rows) = row_left a t ∷ form_row_list rows
form_row_list (only_right b t rows) = row_right b t ∷ form_row_list rows

-- a list of two tags with a form as arms, and back
abbrev pub form_arms_of : List (List ℕ × List ℕ × FormTree) → ArmTrees
form_arms_of [] = no_arms
form_arms_of (a ∷ arms) = more_arms a.0 a.1 a.2 (form_arms_of arms)

abbrev pub form_arm_list : ArmTrees → List (List ℕ × List ℕ × FormTree)
form_arm_list no_arms = []
form_arm_list (more_arms a b l arms) = (a, b, l) ∷ form_arm_list arms

-- one level of a `Form`, a `FormRow`, a `FormRows` and a `FormArms`, each form inside already seen as its tree
abbrev pub form_step : Form-F FormTree FormRowTree ArmTrees RowTrees → FormTree
form_step (Form-F.Id t) = form_id (ty_tree t)
form_step (Form-F.Bij ps n) = form_bij ps n
form_step (Form-F.Disc t u) = form_disc (ty_tree t) (ty_tree u)
form_step (Form-F.Then l k) = form_then l.value k.value
form_step (Form-F.Rec rows) = form_rec rows
form_step (Form-F.Alt arms) = form_alt arms
form_step (Form-F.Each l) = form_each l.value
form_step (Form-F.Keyed l) = form_keyed l.value
form_step (Form-F.Tree l) = form_ordered l.value
form_step (Form-F.Part fs) = form_part (fields_tree fs)
form_step (Form-F.Inv l) = form_inv l.value

abbrev pub row_step : FormRow-F FormTree FormRowTree ArmTrees RowTrees → FormRowTree
row_step (FormRow-F.Both a b l) = row_both a b l
row_step (FormRow-F.OnlyLeft a t) = row_left a (ty_tree t)
row_step (FormRow-F.OnlyRight b t) = row_right b (ty_tree t)

abbrev pub rows_step : FormRows-F FormTree FormRowTree ArmTrees RowTrees → RowTrees
rows_step rows = form_rows_of rows.items.items

abbrev pub arms_step : FormArms-F FormTree FormRowTree ArmTrees RowTrees → ArmTrees
arms_step arms = form_arms_of arms.items.items

-- the tree of a `Form`, the tree of a `FormRow`, the trees of a `FormRows` and of a `FormArms`
abbrev pub form_tree : Form → FormTree
form_tree = fold-Form FormTree FormRowTree ArmTrees RowTrees form_step row_step arms_step rows_step

abbrev pub row_tree : FormRow → FormRowTree
row_tree = fold-FormRow FormTree FormRowTree ArmTrees RowTrees form_step row_step arms_step rows_step

abbrev pub rows_tree : FormRows → RowTrees
rows_tree = fold-FormRows FormTree FormRowTree ArmTrees RowTrees form_step row_step arms_step rows_step

abbrev pub arms_tree : FormArms → ArmTrees
arms_tree = fold-FormArms FormTree FormRowTree ArmTrees RowTrees form_step row_step arms_step rows_step

-- the two tags of an arm with the tree of its form
abbrev pub arm_tree : List ℕ × List ℕ × Form → List ℕ × List ℕ × FormTree
arm_tree a = (a.0, a.1, form_tree a.2)

-- Forms as plain trees. `FileFormTree` comes first; then the type that a form is of, and `file_form_tree`, the tree
-- that contracts see a form as.
use Rattle.std.specs.Prelude.{ℕ, ℤ, List, [], ◌∷◌, map}
use Rattle.doc_values.specs.Types.{TyTree, ty_unit, ty_bool, ty_int, ty_text, ty_enum, ty_rec, ty_alt, ty_list}
use Rattle.doc_values.specs.Types.{ty_keyed, FieldTrees, no_fields, more_fields}
use Rattle.file_forms.specs.declared.literal.Literal.{Literal}
use Rattle.file_forms.specs.declared.form.FileForm.{FileForm, fold-FileForm}
use Rattle.file_forms.specs.declared.form.FileForm.TheOpen.{FileForm-F}

-- the names of members, each of which has a literal
abbrev pub word_names : List (List ℕ × Literal) → List (List ℕ)
word_names [] = []
word_names (w ∷ ws) = w.0 ∷ word_names ws

-- the literals of members
abbrev pub word_literals : List (List ℕ × Literal) → List Literal
word_literals [] = []
word_literals (w ∷ ws) = w.1 ∷ word_literals ws

-- how a file has a document: null, or another literal in its place; a bool, or a literal for each truth value, that of
-- false first; a number; a string; a member of an enum as a string, or as the literal of that member; a text as a
-- number with these letters; a record as an object with a member for each field that is there; alternatives as an
-- object with the tag as its one member, or as the content alone; a list as an array; a keyed map as an object
mutual
  pub data FileFormTree : Type 0 where
    as_literal : Literal → FileFormTree
    as_bool : FileFormTree
    as_truths : Literal → Literal → FileFormTree
    as_int : ℤ → FileFormTree
    as_text : List ℕ → FileFormTree
    as_enum : List (List ℕ) → List ℕ → FileFormTree
    as_words : List (List ℕ × Literal) → List ℕ → FileFormTree
    as_number : List ℕ → FileFormTree
    as_object : FormFields → FileFormTree
    as_tagged : FormFields → FileFormTree
    as_bare : FormFields → FileFormTree
    as_items : FileFormTree → FileFormTree
    as_map : FileFormTree → FileFormTree

  pub data FormFields : Type 0 where
    no_forms : FormFields
    more_forms : List ℕ → FileFormTree → FormFields → FormFields

-- a list of names with forms as fields
abbrev pub form_fields_of : List (List ℕ × FileFormTree) → FormFields
form_fields_of [] = no_forms
form_fields_of (f ∷ fs) = more_forms f.0 f.1 (form_fields_of fs)

-- the names of the fields, or the tags, in order
abbrev pub form_names : FormFields → List (List ℕ)
form_names no_forms = []
form_names (more_forms n f fs) = n ∷ form_names fs

-- the type whose documents a form shows
abbrev mutual
  pub type_of : FileFormTree → TyTree
  type_of (as_literal l) = ty_unit
  type_of as_bool = ty_bool
  type_of (as_truths f t) = ty_bool
  type_of (as_int z) = ty_int z
  type_of (as_text s) = ty_text s
  type_of (as_enum ms n) = ty_enum ms n
  type_of (as_words ws n) = ty_enum (word_names ws) n
  type_of (as_number s) = ty_text s
  type_of (as_object fs) = ty_rec (types_of fs)
  type_of (as_tagged fs) = ty_alt (types_of fs)
  type_of (as_bare fs) = ty_alt (types_of fs)
  type_of (as_items f) = ty_list (type_of f)
  type_of (as_map f) = ty_keyed (type_of f)

  pub types_of : FormFields → FieldTrees
  types_of no_forms = no_fields
  types_of (more_forms n f fs) = more_fields n (type_of f) (types_of fs)

-- one level of a `FileForm`, each form inside already seen as its tree
abbrev pub file_form_step : FileForm-F FileFormTree → FileFormTree
file_form_step (FileForm-F.Literal l) = as_literal l
file_form_step FileForm-F.Bool = as_bool
file_form_step (FileForm-F.Truths f t) = as_truths f t
file_form_step (FileForm-F.Int z) = as_int z
file_form_step (FileForm-F.Text s) = as_text s
file_form_step (FileForm-F.Enum ms n) = as_enum ms n
file_form_step (FileForm-F.Words ws n) = as_words ws.items n
file_form_step (FileForm-F.Number s) = as_number s
file_form_step (FileForm-F.Object fs) = as_object (form_fields_of fs.items)
file_form_step (FileForm-F.Tagged fs) = as_tagged (form_fields_of fs.items)
file_form_step (FileForm-F.Bare fs) = as_bare (form_fields_of fs.items)
file_form_step (FileForm-F.Items f) = as_items f.value
file_form_step (FileForm-F.Map f) = as_map f.value

abbrev pub file_form_tree : FileForm → FileFormTree
file_form_tree = fold-FileForm FileFormTree file_form_step

-- a name with the tree of its form
abbrev pub form_field : List ℕ × FileForm → List ℕ × FileFormTree
form_field f = (f.0, file_form_tree f.1)

abbrev pub forms_view : List (List ℕ × FileForm) → FormFields
forms_view fs = form_fields_of (map form_field fs)

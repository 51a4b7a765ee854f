-- A slot is what may stand in the place of a member: nothing, or a tree. `takes` says which slots begin as a form
-- writes them; no slot does so for two tags of a form that `are_told_apart`.
use Rattle.std.specs.Prelude.{ℕ, Bool, true, false, ◌&&◌, ◌||◌, not, bytes_eq, nat_eq, List, [], ◌∷◌, Option, Some}
use Rattle.std.specs.Prelude.{None}
use Rattle.json.specs.Json.{Json, null, boolean, number, string, array, object}
use Rattle.file_forms.specs.declared.literal.Literal.{Literal}
use Rattle.file_forms.specs.declared.literal.Literal.TheVariants.{Gone, Null, Bool as Truth, Number, Text}
use Rattle.file_forms.specs.Forms.{FileFormTree, as_literal, as_bool, as_truths, as_int, as_text, as_enum, as_words}
use Rattle.file_forms.specs.Forms.{as_number, as_object, as_tagged, as_bare, as_items, as_map, FormFields, no_forms}
use Rattle.file_forms.specs.Forms.{more_forms, word_literals}

-- what a literal stands for
abbrev pub literal_slot : Literal → Option Json
literal_slot Gone = None
literal_slot Null = Some null
literal_slot (Truth b) = Some (boolean b)
literal_slot (Number s) = Some (number s)
literal_slot (Text s) = Some (string s)

-- two truth values are one
abbrev pub same_truth : Bool → Bool → Bool
same_truth true b = b
same_truth false b = not b

-- a slot is what a literal stands for, to the letter
abbrev pub is_literal : Literal → Option Json → Bool
is_literal Gone None = true
is_literal Null (Some null) = true
is_literal (Truth a) (Some (boolean b)) = same_truth a b
is_literal (Number r) (Some (number s)) = bytes_eq r s
is_literal (Text r) (Some (string s)) = bytes_eq r s
is_literal _ _ = false

-- a slot is what one of the literals stands for
abbrev pub is_any : List Literal → Option Json → Bool
is_any [] s = false
is_any (l ∷ ls) s = is_literal l s || is_any ls s

-- the sorts of slots: truth values, numbers, strings, arrays, objects, and the others, which only a literal takes
pub data Sort : Type 0 where
  truths : Sort
  numbers : Sort
  strings : Sort
  arrays : Sort
  objects : Sort
  others : Sort

abbrev pub sort_of : Option Json → Sort
sort_of None = others
sort_of (Some null) = others
sort_of (Some (boolean b)) = truths
sort_of (Some (number s)) = numbers
sort_of (Some (string s)) = strings
sort_of (Some (array js)) = arrays
sort_of (Some (object ms)) = objects

-- sorts differ where their numbers do
abbrev pub sort_number : Sort → ℕ
sort_number truths = 0
sort_number numbers = 1
sort_number strings = 2
sort_number arrays = 3
sort_number objects = 4
sort_number others = 5

abbrev pub same_sort : Sort → Sort → Bool
same_sort t u = nat_eq (sort_number t) (sort_number u)

-- how the slots of a form are told from others: they are one literal, or they have one sort
pub data Sign : Type 0 where
  exactly : Literal → Sign
  any_of : Sort → Sign

abbrev pub has_sign : Sign → Option Json → Bool
has_sign (exactly l) s = is_literal l s
has_sign (any_of t) s = same_sort t (sort_of s)

-- the sign of a form that has one alone: `as_bare`, `as_truths` and `as_words` have others
abbrev pub sign : FileFormTree → Sign
sign (as_literal l) = exactly l
sign as_bool = any_of truths
sign (as_truths f t) = any_of others
sign (as_int z) = any_of numbers
sign (as_text s) = any_of strings
sign (as_enum ms n) = any_of strings
sign (as_words ws n) = any_of others
sign (as_number s) = any_of numbers
sign (as_object fs) = any_of objects
sign (as_tagged fs) = any_of objects
sign (as_bare fs) = any_of others
sign (as_items f) = any_of arrays
sign (as_map f) = any_of objects

-- the slot begins as the form writes it: contents that are written alone have the signs of all their tags, and what has
-- several literals is one of them
abbrev mutual
  pub takes : FileFormTree → Option Json → Bool
  takes (as_truths f t) s = is_any (f ∷ t ∷ []) s
  takes (as_words ws n) s = is_any (word_literals ws) s
  takes (as_bare fs) s = any_takes fs s
  takes f s = has_sign (sign f) s

  pub any_takes : FormFields → Option Json → Bool
  any_takes no_forms s = false
  any_takes (more_forms n f fs) s = takes f s || any_takes fs s

-- some slot may show both signs
abbrev pub clash : Sign → Sign → Bool
clash (exactly l) (exactly m) = is_literal l (literal_slot m)
clash (exactly l) (any_of t) = same_sort t (sort_of (literal_slot l))
clash (any_of t) (exactly m) = same_sort t (sort_of (literal_slot m))
clash (any_of t) (any_of u) = same_sort t u

-- some slot with the sign may be one of the literals
abbrev pub sign_meets_literals : Sign → List Literal → Bool
sign_meets_literals g [] = false
sign_meets_literals g (l ∷ ls) = clash g (exactly l) || sign_meets_literals g ls

-- some slot with the sign may be taken by the form, or by one of the forms
abbrev mutual
  pub sign_meets : Sign → FileFormTree → Bool
  sign_meets g (as_truths f t) = sign_meets_literals g (f ∷ t ∷ [])
  sign_meets g (as_words ws n) = sign_meets_literals g (word_literals ws)
  sign_meets g (as_bare fs) = sign_meets_any g fs
  sign_meets g f = clash g (sign f)

  pub sign_meets_any : Sign → FormFields → Bool
  sign_meets_any g no_forms = false
  sign_meets_any g (more_forms n f fs) = sign_meets g f || sign_meets_any g fs

-- one of the literals may be taken by one of the fields
abbrev pub some_literal_meets : List Literal → FormFields → Bool
some_literal_meets [] fs = false
some_literal_meets (l ∷ ls) fs = sign_meets_any (exactly l) fs || some_literal_meets ls fs

-- some slot may be taken by the form and by one of the fields
abbrev mutual
  pub meets_any : FileFormTree → FormFields → Bool
  meets_any (as_truths f t) fs = some_literal_meets (f ∷ t ∷ []) fs
  meets_any (as_words ws n) fs = some_literal_meets (word_literals ws) fs
  meets_any (as_bare gs) fs = some_meets_any gs fs
  meets_any f fs = sign_meets_any (sign f) fs

  pub some_meets_any : FormFields → FormFields → Bool
  some_meets_any no_forms fs = false
  some_meets_any (more_forms n g gs) fs = meets_any g fs || some_meets_any gs fs

-- no slot is taken by two of the forms
abbrev pub are_told_apart : FormFields → Bool
are_told_apart no_forms = true
are_told_apart (more_forms n f fs) = not (meets_any f fs) && are_told_apart fs

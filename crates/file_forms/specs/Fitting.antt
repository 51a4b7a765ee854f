-- The condition on forms.
use Rattle.std.specs.Prelude.{Bool, true, ◌&&◌, not, List, [], ◌∷◌}
use Rattle.texts.specs.Keys.{is_rising}
use Rattle.doc_values.specs.Types.{are_distinct}
use Rattle.file_forms.specs.declared.literal.Literal.{Literal}
use Rattle.file_forms.specs.declared.literal.Literal.TheVariants.{Number}
use Rattle.file_forms.specs.Forms.{FileFormTree, as_literal, as_truths, as_words, as_object, as_tagged, as_bare}
use Rattle.file_forms.specs.Forms.{as_items, as_map, FormFields, no_forms, more_forms, form_names, word_names}
use Rattle.file_forms.specs.Forms.{word_literals}
use Rattle.file_forms.specs.Numbers.{is_number}
use Rattle.file_forms.specs.Slots.{literal_slot, is_any, are_told_apart}

-- a literal that is a number has the letters of one
abbrev pub is_writable : Literal → Bool
is_writable (Number s) = is_number s
is_writable _ = true

abbrev pub are_writable : List Literal → Bool
are_writable [] = true
are_writable (l ∷ ls) = is_writable l && are_writable ls

-- no literal comes again, to the letter
abbrev pub are_unlike : List Literal → Bool
are_unlike [] = true
are_unlike (l ∷ ls) = not (is_any ls (literal_slot l)) && are_unlike ls

-- the condition on a form, in all its parts: the fields of a record are strictly rising by bytes, the tags of
-- alternatives and the members of an enum are distinct, so are the literals of members and of truth values, no slot
-- could be that of two tags whose contents are written alone, and a literal that is a number has the letters of one
abbrev mutual
  pub is_fit : FileFormTree → Bool
  is_fit (as_literal l) = is_writable l
  is_fit (as_truths f t) = are_unlike (f ∷ t ∷ []) && are_writable (f ∷ t ∷ [])
  is_fit (as_words ws n) =
      are_distinct (word_names ws) && (are_unlike (word_literals ws) && are_writable (word_literals ws))
  is_fit (as_object fs) = is_rising (form_names fs) && are_fit fs
  is_fit (as_tagged fs) = are_distinct (form_names fs) && are_fit fs
  is_fit (as_bare fs) = (are_distinct (form_names fs) && are_told_apart fs) && are_fit fs
  is_fit (as_items f) = is_fit f
  is_fit (as_map f) = is_fit f
  is_fit _ = true

  pub are_fit : FormFields → Bool
  are_fit no_forms = true
  are_fit (more_forms n f fs) = is_fit f && are_fit fs

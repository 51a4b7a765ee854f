-- Where and why a form is not fit. From the end: `first_misfit`, and `own_misfit` of a form without its parts.
use Rattle.std.specs.Prelude.{ℕ, Bool, ◌&&◌, if◌then◌else◌, List, [], ◌∷◌, Option, Some, None, option_map}
use Rattle.texts.specs.Keys.{is_before, has_name}
use Rattle.file_forms.specs.declared.misfit.FormFault.{FormFault}
use Rattle.file_forms.specs.declared.misfit.FormFault.TheVariants.{FieldOrder, TagTwice, SameSlot, NotANumber}
use Rattle.file_forms.specs.declared.misfit.FormFault.TheVariants.{MemberTwice, SameLiteral}
use Rattle.file_forms.specs.declared.misfit.FormStep.{FormStep}
use Rattle.file_forms.specs.declared.misfit.FormStep.TheVariants.{Named, Inside}
use Rattle.file_forms.specs.declared.misfit.FormMisfit.{FormMisfit}
use Rattle.file_forms.specs.declared.literal.Literal.{Literal}
use Rattle.file_forms.specs.Forms.{FileFormTree, as_literal, as_truths, as_words, as_object, as_tagged, as_bare}
use Rattle.file_forms.specs.Forms.{as_items, as_map, FormFields, no_forms, more_forms, form_names, word_names}
use Rattle.file_forms.specs.Forms.{word_literals}
use Rattle.file_forms.specs.Slots.{literal_slot, is_literal, is_any, meets_any}
use Rattle.file_forms.specs.Fitting.{is_writable}

-- the steps to a part, and what is wrong there
abbrev pub Misfit : Type 0
Misfit = List FormStep × FormFault

abbrev pub misfit_view : FormMisfit → Misfit
misfit_view m = (m.place.items, m.fault)

-- the misfit of a part, from one step further out
abbrev pub inside : FormStep → Misfit → Misfit
inside s m = (s ∷ m.0, m.1)

abbrev pub at_field : FormFault → List ℕ → Misfit
at_field fault n = (Named n ∷ [], fault)

abbrev pub first_of : {A : Type 0} → Option A → Option A → Option A
first_of (Some a) other = Some a
first_of None other = other

-- the first field that is not after the field before it, and before the first field stands m
abbrev pub not_after : List ℕ → FormFields → Option (List ℕ)
not_after m no_forms = None
not_after m (more_forms n f fs) = if is_before m n then not_after n fs else Some n

-- the first field that is not after the field before it
abbrev pub out_of_order : FormFields → Option (List ℕ)
out_of_order no_forms = None
out_of_order (more_forms n f fs) = not_after n fs

-- the first tag that comes again
abbrev pub tag_twice : FormFields → Option (List ℕ)
tag_twice no_forms = None
tag_twice (more_forms n f fs) = if has_name n (form_names fs) then Some n else tag_twice fs

-- the first tag with a slot that is also one of a later tag
abbrev pub same_slot : FormFields → Option (List ℕ)
same_slot no_forms = None
same_slot (more_forms n f fs) = if meets_any f fs then Some n else same_slot fs

-- the first member of an enum that comes again
abbrev pub member_twice : List (List ℕ × Literal) → Option (List ℕ)
member_twice [] = None
member_twice (w ∷ ws) = if has_name w.0 (word_names ws) then Some w.0 else member_twice ws

-- the first member with the literal of a later one
abbrev pub same_literal : List (List ℕ × Literal) → Option (List ℕ)
same_literal [] = None
same_literal (w ∷ ws) = if is_any (word_literals ws) (literal_slot w.1) then Some w.0 else same_literal ws

-- the first member whose literal is no number, though it is to be one
abbrev pub not_writable : List (List ℕ × Literal) → Option (List ℕ)
not_writable [] = None
not_writable (w ∷ ws) = if is_writable w.1 then not_writable ws else Some w.0

abbrev pub literal_misfit : Bool → Option Misfit
literal_misfit b = if b then None else Some ([], NotANumber)

-- what is wrong with the literals of false and true
abbrev pub truths_misfit : Literal → Literal → Option Misfit
truths_misfit f t =
    if is_literal t (literal_slot f) then Some ([], SameLiteral) else literal_misfit (is_writable f && is_writable t)

-- what is wrong with members and their literals
abbrev pub words_misfit : List (List ℕ × Literal) → Option Misfit
words_misfit ws =
    first_of (option_map (at_field MemberTwice) (member_twice ws))
    (first_of (option_map (at_field SameLiteral) (same_literal ws))
    (option_map (at_field NotANumber) (not_writable ws)))

-- what is wrong with a form, whatever its parts are
abbrev pub own_misfit : FileFormTree → Option Misfit
own_misfit (as_literal l) = literal_misfit (is_writable l)
own_misfit (as_truths f t) = truths_misfit f t
own_misfit (as_words ws n) = words_misfit ws
own_misfit (as_object fs) = option_map (at_field FieldOrder) (out_of_order fs)
own_misfit (as_tagged fs) = option_map (at_field TagTwice) (tag_twice fs)
own_misfit (as_bare fs) =
    first_of (option_map (at_field TagTwice) (tag_twice fs)) (option_map (at_field SameSlot) (same_slot fs))
own_misfit _ = None

-- what is wrong first: a form comes before its parts, and parts come in their order
abbrev mutual
  pub first_misfit : FileFormTree → Option Misfit
  first_misfit (as_object fs) = first_of (own_misfit (as_object fs)) (part_misfit fs)
  first_misfit (as_tagged fs) = first_of (own_misfit (as_tagged fs)) (part_misfit fs)
  first_misfit (as_bare fs) = first_of (own_misfit (as_bare fs)) (part_misfit fs)
  first_misfit (as_items f) = option_map (inside Inside) (first_misfit f)
  first_misfit (as_map f) = option_map (inside Inside) (first_misfit f)
  first_misfit f = own_misfit f

  pub part_misfit : FormFields → Option Misfit
  part_misfit no_forms = None
  part_misfit (more_forms n f fs) = first_of (option_map (inside (Named n)) (first_misfit f)) (part_misfit fs)

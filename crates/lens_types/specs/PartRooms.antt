-- For the helpers of the checker: counting parts, with the room that is left for them.
use Rattle.std.specs.Prelude.{◌≡◌, ℕ, ◌-◌, nat_le, if◌then◌else◌, length, Option, Some, None, option_and_then}
use Rattle.program_terms.specs.Terms as Term
use Rattle.lens_forms.specs.Measures.{type_parts, form_parts}
use Rattle.lens_types.specs.Checking.{too_large, size_failure}
use Rattle.lens_types.specs.Earlier.{Definitions, type_named, form_named}

-- the room that is left after a number of parts; none where there are more parts than room
abbrev pub room_after : ℕ → ℕ → Option ℕ
room_after parts room = if nat_le parts room then Some (room - parts) else None

-- what a count gives: the number of parts, or that there are too many
abbrev pub IsCountOf : ℕ → Option ℕ → Type 0
IsCountOf parts None = size_failure parts ≡ Some too_large
IsCountOf parts (Some n) = (size_failure parts ≡ None) × (n ≡ parts)

-- the room that is left after the parts of a type, and of fields
abbrev mutual
  pub type_room : Definitions → Term.TypeTree → ℕ → Option ℕ
  type_room ds Term.unit room = room_after 1 room
  type_room ds Term.bool room = room_after 1 room
  type_room ds (Term.int z) room = room_after 1 room
  type_room ds (Term.text s) room = room_after 1 room
  type_room ds (Term.enum_of ms v) room = option_and_then (room_after (length ms)) (room_after 1 room)
  type_room ds (Term.record_of fs) room = option_and_then (λ left. fields_room ds fs left) (room_after 1 room)
  type_room ds (Term.one_of fs) room = option_and_then (λ left. fields_room ds fs left) (room_after 1 room)
  type_room ds (Term.list t) room = option_and_then (λ left. type_room ds t left) (room_after 1 room)
  type_room ds (Term.keyed t) room = option_and_then (λ left. type_room ds t left) (room_after 1 room)
  type_room ds (Term.tree t) room = option_and_then (λ left. type_room ds t left) (room_after 1 room)
  type_room ds (Term.named n) room = room_after (type_parts (type_named ds n)) room

  pub fields_room : Definitions → Term.TermFields → ℕ → Option ℕ
  fields_room ds Term.no_fields room = Some room
  fields_room ds (Term.more_fields n t fs) room =
      option_and_then (λ left. fields_room ds fs left)
      (option_and_then (λ left. type_room ds t left) (room_after 1 room))

-- the room that is left after the parts of a lens, of rows and of arms
abbrev mutual
  pub lens_room : Definitions → Term.LensTree → ℕ → Option ℕ
  lens_room ds (Term.id_of t) room = option_and_then (type_room ds t) (room_after 1 room)
  lens_room ds (Term.bij_of ps v) room = option_and_then (room_after (length ps)) (room_after 1 room)
  lens_room ds (Term.disc_of t u) room =
      option_and_then (type_room ds u) (option_and_then (type_room ds t) (room_after 1 room))
  lens_room ds (Term.then_of l k) room =
      option_and_then (λ left. lens_room ds k left) (option_and_then (λ left. lens_room ds l left) (room_after 1 room))
  lens_room ds (Term.rec_lens rows) room = option_and_then (λ left. rows_room ds rows left) (room_after 1 room)
  lens_room ds (Term.alt_lens arms) room = option_and_then (λ left. arms_room ds arms left) (room_after 1 room)
  lens_room ds (Term.each_of l) room = option_and_then (λ left. lens_room ds l left) (room_after 1 room)
  lens_room ds (Term.keyed_each l) room = option_and_then (λ left. lens_room ds l left) (room_after 1 room)
  lens_room ds (Term.tree_each l) room = option_and_then (λ left. lens_room ds l left) (room_after 1 room)
  lens_room ds (Term.part_of fs) room = option_and_then (fields_room ds fs) (room_after 1 room)
  lens_room ds (Term.inv_of l) room = option_and_then (λ left. lens_room ds l left) (room_after 1 room)
  lens_room ds (Term.named_lens n) room = room_after (form_parts (form_named ds n)) room

  pub rows_room : Definitions → Term.TermRows → ℕ → Option ℕ
  rows_room ds Term.no_rows room = Some room
  rows_room ds (Term.both a b l rows) room =
      option_and_then (λ left. rows_room ds rows left)
      (option_and_then (λ left. lens_room ds l left) (room_after 1 room))
  rows_room ds (Term.only_left a t rows) room =
      option_and_then (λ left. rows_room ds rows left) (option_and_then (type_room ds t) (room_after 1 room))
  rows_room ds (Term.only_right b t rows) room =
      option_and_then (λ left. rows_room ds rows left) (option_and_then (type_room ds t) (room_after 1 room))

  pub arms_room : Definitions → Term.TermArms → ℕ → Option ℕ
  arms_room ds Term.no_arms room = Some room
  arms_room ds (Term.more_arms a b l arms) room =
      option_and_then (λ left. arms_room ds arms left)
      (option_and_then (λ left. lens_room ds l left) (room_after 1 room))

-- one row
abbrev pub row_room : Definitions → Term.RowTree → ℕ → Option ℕ
row_room ds (Term.row_both a b l) room = lens_room ds l room
row_room ds (Term.row_left a t) room = type_room ds t room
row_room ds (Term.row_right b t) room = type_room ds t room

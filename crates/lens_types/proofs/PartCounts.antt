-- Counting with a room gives what is left after all counted parts, names put in.
use Rattle.std.proofs.Common.{◌≡◌, ℕ, ◌+◌, ◌-◌, ◌≤◌, true, false, List, length, Option, Some, None, refl, ap, sym, ◌∙◌, arith}
use Rattle.std.specs.Prelude.{Bool, nat_le, unwrap_or, if◌then◌else◌, option_and_then}
use Rattle.std.proofs.lemmas.Bool.Decides.{nat_tests}
use Rattle.texts.specs.Keys.{is_before}
use Rattle.doc_values.specs.Types.{TyTree, FieldTrees, no_fields, more_fields}
use Rattle.program_terms.specs.Terms as Term
use Rattle.lens_forms.specs.Forms.{ArmTrees, no_arms, more_arms, insert_field, sorted}
use Rattle.lens_forms.specs.Measures.{type_parts, fields_parts, form_parts, rows_parts, arms_parts}
use Rattle.lens_forms.specs.declared.limits.TheConstants.{MOST_PARTS}
use Rattle.lens_types.specs.Checking.{too_large}
use Rattle.lens_types.specs.Earlier.{Definitions, expanded_type, expanded_fields, expanded_form, expanded_rows, expanded_arms, alternatives_type, alternatives_form, partition}
use Rattle.lens_types.specs.PartRooms.{IsCountOf, room_after, type_room, fields_room, lens_room, rows_room, arms_room}

-- ---- room after two counts

room_after-add : (a b n : ℕ) → option_and_then (room_after b) (room_after a n) ≡ room_after (a + b) n
room_after-add a b n = grind (arith, nat_tests)

-- ---- parts do not count the order of fields, and what stands for nothing has as many as it would have

parts-insert : (n : List ℕ) (t : TyTree) (fs : FieldTrees) → fields_parts (insert_field n t fs) ≡ type_parts t + 1 + fields_parts fs
parts-insert n t no_fields = refl
parts-insert n t (more_fields m u fs) =
    elim (is_before m n) as (λ b. fields_parts (if b then more_fields m u (insert_field n t fs) else more_fields n t (more_fields m u fs)) ≡ type_parts t + 1 + (type_parts u + 1 + fields_parts fs))
    [ true ↦ omega (arith, parts-insert n t fs) | false ↦ refl ]

pub parts-sorted : (fs : FieldTrees) → fields_parts (sorted fs) ≡ fields_parts fs
parts-sorted no_fields = refl
parts-sorted (more_fields n t fs) = parts-insert n t (sorted fs) ∙ ap (λ k. type_parts t + 1 + k) (parts-sorted fs)

parts-alternatives_type : (fs : FieldTrees) → type_parts (alternatives_type fs) ≡ 1 + fields_parts fs
parts-alternatives_type no_fields = refl
parts-alternatives_type (more_fields n t fs) = omega arith

parts-alternatives : (arms : ArmTrees) → form_parts (alternatives_form arms) ≡ 1 + arms_parts arms
parts-alternatives no_arms = refl
parts-alternatives (more_arms a b l arms) = omega arith

parts-partition : (fs : FieldTrees) → form_parts (partition fs) ≡ 1 + fields_parts fs
parts-partition no_fields = refl
parts-partition (more_fields n t fs) = omega arith

-- ---- a count behind another one

-- where the rest of a count leaves the room after so many parts, both leave the room after the sum
then_room : (f : ℕ → Option ℕ) (a b n : ℕ) → ((m : ℕ) → f m ≡ room_after b m) → option_and_then f (room_after a n) ≡ room_after (a + b) n
then_room f a b n h =
    elim (nat_le a n) as (λ c. option_and_then f (if c then Some (n - a) else None) ≡ option_and_then (room_after b) (if c then Some (n - a) else None)) [ true ↦ h (n - a) | false ↦ refl ]
    ∙ room_after-add a b n

-- the same where the sum is written otherwise
to_room : (f : ℕ → Option ℕ) (a b c n : ℕ) → ((m : ℕ) → f m ≡ room_after b m) → a + b ≡ c → option_and_then f (room_after a n) ≡ room_after c n
to_room f a b c n h e = then_room f a b n h ∙ ap (λ k. room_after k n) e

-- one part and those of a list
one_and_list : (a n : ℕ) → option_and_then (room_after a) (room_after 1 n) ≡ room_after (a + 1) n
one_and_list a n = grind (arith, nat_tests)

no_parts : (n : ℕ) → Some n ≡ room_after 0 n
no_parts n = grind (arith, nat_tests)

mutual
  pub type_room-parts : (ds : Definitions) (t : Term.TypeTree) (n : ℕ) → type_room ds t n ≡ room_after (type_parts (expanded_type ds t)) n
  type_room-parts ds Term.unit n = refl
  type_room-parts ds Term.bool n = refl
  type_room-parts ds (Term.int z) n = refl
  type_room-parts ds (Term.text s) n = refl
  type_room-parts ds (Term.enum_of ms v) n = one_and_list (length ms) n
  type_room-parts ds (Term.record_of fs) n =
      to_room (λ left. fields_room ds fs left) 1 (fields_parts (expanded_fields ds fs)) (fields_parts (sorted (expanded_fields ds fs)) + 1) n
      (λ m. fields_room-parts ds fs m) (omega (arith, parts-sorted (expanded_fields ds fs)))
  type_room-parts ds (Term.one_of fs) n =
      to_room (λ left. fields_room ds fs left) 1 (fields_parts (expanded_fields ds fs)) (type_parts (alternatives_type (expanded_fields ds fs))) n
      (λ m. fields_room-parts ds fs m) (sym (parts-alternatives_type (expanded_fields ds fs)))
  type_room-parts ds (Term.list t) n =
      to_room (λ left. type_room ds t left) 1 (type_parts (expanded_type ds t)) (type_parts (expanded_type ds t) + 1) n (λ m. type_room-parts ds t m) (omega arith)
  type_room-parts ds (Term.keyed t) n =
      to_room (λ left. type_room ds t left) 1 (type_parts (expanded_type ds t)) (type_parts (expanded_type ds t) + 1) n (λ m. type_room-parts ds t m) (omega arith)
  type_room-parts ds (Term.tree t) n =
      to_room (λ left. type_room ds t left) 1 (type_parts (expanded_type ds t)) (type_parts (expanded_type ds t) + 1) n (λ m. type_room-parts ds t m) (omega arith)
  type_room-parts ds (Term.named x) n = refl

  pub fields_room-parts : (ds : Definitions) (fs : Term.TermFields) (n : ℕ) → fields_room ds fs n ≡ room_after (fields_parts (expanded_fields ds fs)) n
  fields_room-parts ds Term.no_fields n = no_parts n
  fields_room-parts ds (Term.more_fields x t fs) n =
      ap (option_and_then (λ left. fields_room ds fs left))
      (to_room (λ left. type_room ds t left) 1 (type_parts (expanded_type ds t)) (type_parts (expanded_type ds t) + 1) n (λ m. type_room-parts ds t m) (omega arith))
      ∙ then_room (λ left. fields_room ds fs left) (type_parts (expanded_type ds t) + 1) (fields_parts (expanded_fields ds fs)) n (λ m. fields_room-parts ds fs m)

-- one lens of any kind that has one part
one_more : (ds : Definitions) (l : Term.LensTree) (n : ℕ) → ((m : ℕ) → lens_room ds l m ≡ room_after (form_parts (expanded_form ds l)) m)
    → option_and_then (λ left. lens_room ds l left) (room_after 1 n) ≡ room_after (form_parts (expanded_form ds l) + 1) n
one_more ds l n h = to_room (λ left. lens_room ds l left) 1 (form_parts (expanded_form ds l)) (form_parts (expanded_form ds l) + 1) n h (omega arith)

one_type : (ds : Definitions) (t : Term.TypeTree) (n : ℕ) → option_and_then (type_room ds t) (room_after 1 n) ≡ room_after (type_parts (expanded_type ds t) + 1) n
one_type ds t n = to_room (type_room ds t) 1 (type_parts (expanded_type ds t)) (type_parts (expanded_type ds t) + 1) n (type_room-parts ds t) (omega arith)

mutual
  pub lens_room-parts : (ds : Definitions) (l : Term.LensTree) (n : ℕ) → lens_room ds l n ≡ room_after (form_parts (expanded_form ds l)) n
  lens_room-parts ds (Term.id_of t) n = one_type ds t n
  lens_room-parts ds (Term.bij_of ps v) n = one_and_list (length ps) n
  lens_room-parts ds (Term.disc_of t u) n =
      ap (option_and_then (type_room ds u)) (one_type ds t n)
      ∙ to_room (type_room ds u) (type_parts (expanded_type ds t) + 1) (type_parts (expanded_type ds u)) (type_parts (expanded_type ds t) + type_parts (expanded_type ds u) + 1) n (type_room-parts ds u) (omega arith)
  lens_room-parts ds (Term.then_of l k) n =
      ap (option_and_then (λ left. lens_room ds k left)) (one_more ds l n (λ m. lens_room-parts ds l m))
      ∙ to_room (λ left. lens_room ds k left) (form_parts (expanded_form ds l) + 1) (form_parts (expanded_form ds k)) (form_parts (expanded_form ds l) + form_parts (expanded_form ds k) + 1) n (λ m. lens_room-parts ds k m) (omega arith)
  lens_room-parts ds (Term.rec_lens rows) n =
      to_room (λ left. rows_room ds rows left) 1 (rows_parts (expanded_rows ds rows)) (rows_parts (expanded_rows ds rows) + 1) n (λ m. rows_room-parts ds rows m) (omega arith)
  lens_room-parts ds (Term.alt_lens arms) n =
      to_room (λ left. arms_room ds arms left) 1 (arms_parts (expanded_arms ds arms)) (form_parts (alternatives_form (expanded_arms ds arms))) n
      (λ m. arms_room-parts ds arms m) (sym (parts-alternatives (expanded_arms ds arms)))
  lens_room-parts ds (Term.each_of l) n = one_more ds l n (λ m. lens_room-parts ds l m)
  lens_room-parts ds (Term.keyed_each l) n = one_more ds l n (λ m. lens_room-parts ds l m)
  lens_room-parts ds (Term.tree_each l) n = one_more ds l n (λ m. lens_room-parts ds l m)
  lens_room-parts ds (Term.part_of fs) n =
      to_room (fields_room ds fs) 1 (fields_parts (expanded_fields ds fs)) (form_parts (partition (expanded_fields ds fs))) n
      (fields_room-parts ds fs) (sym (parts-partition (expanded_fields ds fs)))
  lens_room-parts ds (Term.inv_of l) n = one_more ds l n (λ m. lens_room-parts ds l m)
  lens_room-parts ds (Term.named_lens x) n = refl

  pub rows_room-parts : (ds : Definitions) (rows : Term.TermRows) (n : ℕ) → rows_room ds rows n ≡ room_after (rows_parts (expanded_rows ds rows)) n
  rows_room-parts ds Term.no_rows n = no_parts n
  rows_room-parts ds (Term.both a b l rows) n =
      ap (option_and_then (λ left. rows_room ds rows left)) (one_more ds l n (λ m. lens_room-parts ds l m))
      ∙ then_room (λ left. rows_room ds rows left) (form_parts (expanded_form ds l) + 1) (rows_parts (expanded_rows ds rows)) n (λ m. rows_room-parts ds rows m)
  rows_room-parts ds (Term.only_left a t rows) n =
      ap (option_and_then (λ left. rows_room ds rows left)) (one_type ds t n)
      ∙ then_room (λ left. rows_room ds rows left) (type_parts (expanded_type ds t) + 1) (rows_parts (expanded_rows ds rows)) n (λ m. rows_room-parts ds rows m)
  rows_room-parts ds (Term.only_right b t rows) n =
      ap (option_and_then (λ left. rows_room ds rows left)) (one_type ds t n)
      ∙ then_room (λ left. rows_room ds rows left) (type_parts (expanded_type ds t) + 1) (rows_parts (expanded_rows ds rows)) n (λ m. rows_room-parts ds rows m)

  pub arms_room-parts : (ds : Definitions) (arms : Term.TermArms) (n : ℕ) → arms_room ds arms n ≡ room_after (arms_parts (expanded_arms ds arms)) n
  arms_room-parts ds Term.no_arms n = no_parts n
  arms_room-parts ds (Term.more_arms a b l arms) n =
      ap (option_and_then (λ left. arms_room ds arms left)) (one_more ds l n (λ m. lens_room-parts ds l m))
      ∙ then_room (λ left. arms_room ds arms left) (form_parts (expanded_form ds l) + 1) (arms_parts (expanded_arms ds arms)) n (λ m. arms_room-parts ds arms m)

-- ---- a count that is done

count_none : (parts : ℕ) → room_after parts MOST_PARTS ≡ None → IsCountOf parts None
count_none parts h = elim (nat_le parts MOST_PARTS) as (λ b. (if b then Some (MOST_PARTS - parts) else None) ≡ None → (if b then None else Some too_large) ≡ Some too_large)
    [ true ↦ λ k. cc | false ↦ λ k. refl ] h

count_step : (b : Bool) (parts room : ℕ) → nat_le parts MOST_PARTS ≡ b → (if b then Some (MOST_PARTS - parts) else None) ≡ Some room
    → (room ≤ MOST_PARTS) × (((if b then None else Some too_large) ≡ None) × (MOST_PARTS - room ≡ parts))
count_step true parts room e h =
    let same : MOST_PARTS - parts ≡ room = ap (λ o. unwrap_or o 0) h in
    let low : parts ≤ MOST_PARTS = grind (arith, nat_tests) in
    (omega (arith, same), (refl, omega (arith, same, low)))
count_step false parts room e h = let no : ⊥ = cc in absurd no

count_some : (parts room : ℕ) → room_after parts MOST_PARTS ≡ Some room → (room ≤ MOST_PARTS) × IsCountOf parts (Some (MOST_PARTS - room))
count_some parts room h = count_step (nat_le parts MOST_PARTS) parts room refl h

pub type_count_none : (ds : Definitions) (t : Term.TypeTree) → type_room ds t MOST_PARTS ≡ None → IsCountOf (type_parts (expanded_type ds t)) None
type_count_none ds t h = count_none (type_parts (expanded_type ds t)) (sym (type_room-parts ds t MOST_PARTS) ∙ h)

pub type_count_some : (ds : Definitions) (t : Term.TypeTree) (room : ℕ) → type_room ds t MOST_PARTS ≡ Some room
    → (room ≤ MOST_PARTS) × IsCountOf (type_parts (expanded_type ds t)) (Some (MOST_PARTS - room))
type_count_some ds t room h = count_some (type_parts (expanded_type ds t)) room (sym (type_room-parts ds t MOST_PARTS) ∙ h)

pub lens_count_none : (ds : Definitions) (l : Term.LensTree) → lens_room ds l MOST_PARTS ≡ None → IsCountOf (form_parts (expanded_form ds l)) None
lens_count_none ds l h = count_none (form_parts (expanded_form ds l)) (sym (lens_room-parts ds l MOST_PARTS) ∙ h)

pub lens_count_some : (ds : Definitions) (l : Term.LensTree) (room : ℕ) → lens_room ds l MOST_PARTS ≡ Some room
    → (room ≤ MOST_PARTS) × IsCountOf (form_parts (expanded_form ds l)) (Some (MOST_PARTS - room))
lens_count_some ds l room h = count_some (form_parts (expanded_form ds l)) room (sym (lens_room-parts ds l MOST_PARTS) ∙ h)

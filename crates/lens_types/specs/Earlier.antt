-- Names expanded: what a type and a lens stand for, where earlier definitions say what their names stand for.
-- Read it from the end: `main_form`, then `expanded_form` and `expanded_type`.
use Rattle.std.specs.Prelude.{ℕ, bytes_eq, if◌then◌else◌, List, [], ◌∷◌, ◌++◌, Option, Some, None}
use Rattle.doc_values.specs.Types.{TyTree, ty_unit, ty_bool, ty_int, ty_text, ty_enum, ty_rec, ty_alt, ty_list}
use Rattle.doc_values.specs.Types.{ty_keyed, ty_ordered, FieldTrees, no_fields, more_fields}
use Rattle.program_terms.specs.Terms as Term
use Rattle.lens_forms.specs.Forms.{FormTree, form_id, form_bij, form_disc, form_then, form_rec, form_alt, form_each}
use Rattle.lens_forms.specs.Forms.{form_keyed, form_ordered, form_part, form_inv, RowTrees, no_rows, both, only_left}
use Rattle.lens_forms.specs.Forms.{only_right, ArmTrees, no_arms, more_arms, sorted}

-- what a definition stands for: a type, or a form
pub data KnownTree : Type 0 where
  known_type : TyTree → KnownTree
  known_lens : FormTree → KnownTree

-- definitions by name, in written order, each with what it stands for
abbrev pub Definitions : Type 0
Definitions = List (List ℕ × KnownTree)

-- what the first definition of a name stands for
abbrev pub known : Definitions → List ℕ → Option KnownTree
known [] n = None
known (d ∷ ds) n = if bytes_eq n d.0 then Some d.1 else known ds n

-- The type and the form that a name stands for. A name that is not defined as such, which no program that was read has,
-- stands for `unit` and for `id unit`.
abbrev pub type_of_known : Option KnownTree → TyTree
type_of_known (Some (known_type t)) = t
type_of_known _ = ty_unit

abbrev pub form_of_known : Option KnownTree → FormTree
form_of_known (Some (known_lens f)) = f
form_of_known _ = form_id ty_unit

abbrev pub type_named : Definitions → List ℕ → TyTree
type_named ds n = type_of_known (known ds n)

abbrev pub form_named : Definitions → List ℕ → FormTree
form_named ds n = form_of_known (known ds n)

-- Alternatives or a partition of nothing, which no program that was read has, stand for the record of nothing, `{}`.
abbrev pub alternatives_type : FieldTrees → TyTree
alternatives_type no_fields = ty_rec no_fields
alternatives_type (more_fields n t fs) = ty_alt (more_fields n t fs)

abbrev pub alternatives_form : ArmTrees → FormTree
alternatives_form no_arms = form_rec no_rows
alternatives_form (more_arms a b l arms) = form_alt (more_arms a b l arms)

abbrev pub partition : FieldTrees → FormTree
partition no_fields = form_rec no_rows
partition (more_fields n t fs) = form_part (more_fields n t fs)

-- a type with its names expanded; the fields of a record are sorted by bytes
abbrev mutual
  pub expanded_type : Definitions → Term.TypeTree → TyTree
  expanded_type ds Term.unit = ty_unit
  expanded_type ds Term.bool = ty_bool
  expanded_type ds (Term.int z) = ty_int z
  expanded_type ds (Term.text s) = ty_text s
  expanded_type ds (Term.enum_of ms v) = ty_enum ms v
  expanded_type ds (Term.record_of fs) = ty_rec (sorted (expanded_fields ds fs))
  expanded_type ds (Term.one_of fs) = alternatives_type (expanded_fields ds fs)
  expanded_type ds (Term.list t) = ty_list (expanded_type ds t)
  expanded_type ds (Term.keyed t) = ty_keyed (expanded_type ds t)
  expanded_type ds (Term.tree t) = ty_ordered (expanded_type ds t)
  expanded_type ds (Term.named n) = type_named ds n

  -- fields, or tags, in written order
  pub expanded_fields : Definitions → Term.TermFields → FieldTrees
  expanded_fields ds Term.no_fields = no_fields
  expanded_fields ds (Term.more_fields n t fs) = more_fields n (expanded_type ds t) (expanded_fields ds fs)

-- a lens with its names expanded
abbrev mutual
  pub expanded_form : Definitions → Term.LensTree → FormTree
  expanded_form ds (Term.id_of t) = form_id (expanded_type ds t)
  expanded_form ds (Term.bij_of ps v) = form_bij ps v
  expanded_form ds (Term.disc_of t u) = form_disc (expanded_type ds t) (expanded_type ds u)
  expanded_form ds (Term.then_of l k) = form_then (expanded_form ds l) (expanded_form ds k)
  expanded_form ds (Term.rec_lens rows) = form_rec (expanded_rows ds rows)
  expanded_form ds (Term.alt_lens arms) = alternatives_form (expanded_arms ds arms)
  expanded_form ds (Term.each_of l) = form_each (expanded_form ds l)
  expanded_form ds (Term.keyed_each l) = form_keyed (expanded_form ds l)
  expanded_form ds (Term.tree_each l) = form_ordered (expanded_form ds l)
  expanded_form ds (Term.part_of fs) = partition (expanded_fields ds fs)
  expanded_form ds (Term.inv_of l) = form_inv (expanded_form ds l)
  expanded_form ds (Term.named_lens n) = form_named ds n

  pub expanded_rows : Definitions → Term.TermRows → RowTrees
  expanded_rows ds Term.no_rows = no_rows
  expanded_rows ds (Term.both a b l rows) = both a b (expanded_form ds l) (expanded_rows ds rows)
  expanded_rows ds (Term.only_left a t rows) = only_left a (expanded_type ds t) (expanded_rows ds rows)
  expanded_rows ds (Term.only_right b t rows) = only_right b (expanded_type ds t) (expanded_rows ds rows)

  pub expanded_arms : Definitions → Term.TermArms → ArmTrees
  expanded_arms ds Term.no_arms = no_arms
  expanded_arms ds (Term.more_arms a b l arms) = more_arms a b (expanded_form ds l) (expanded_arms ds arms)

-- what a definition stands for, with the names of the earlier ones expanded
abbrev pub known_of : Definitions → Term.DefTree → KnownTree
known_of ds (Term.type_def t) = known_type (expanded_type ds t)
known_of ds (Term.lens_def l) = known_lens (expanded_form ds l)

-- the earlier definitions, and then those that a program goes on with, each with the names of those before it expanded
abbrev pub all_known : Definitions → List (List ℕ × Term.DefTree) → Definitions
all_known ds [] = ds
all_known ds (d ∷ rest) = all_known (ds ++ (d.0, known_of ds d.1) ∷ []) rest

-- the form of a program: its main lens with all names expanded
abbrev pub main_form : Term.ProgramTree → FormTree
main_form p = expanded_form (all_known [] p.definitions) p.main

-- The definitions on small programs. The names are "a" and "t".
use Rattle.std.proofs.Common.{◌≡◌, ℕ, pos, List, [], ◌∷◌, refl, sym, ◌∙◌, arith}
use Rattle.doc_values.specs.Types.{TyTree, ty_int, ty_list}
use Rattle.program_terms.specs.Terms as Term
use Rattle.lens_types.specs.Earlier.{known_type}
use Rattle.law_acceptance.specs.Acceptable.{IsAcceptable}
use Rattle.law_acceptance.proofs.NoFailure.{only_acceptable}

abbrev a : List ℕ
a = 97 ∷ []

abbrev t : List ℕ
t = 116 ∷ []

abbrev an_int : TyTree
an_int = ty_int (pos 0)

abbrev an_int_written : Term.TypeTree
an_int_written = Term.int (pos 0)

-- type t = {a: int}; main each id t
accepted : IsAcceptable (record { definitions = (t, Term.type_def (Term.record_of (Term.more_fields a an_int_written Term.no_fields))) ∷ []; main = Term.each_of (Term.id_of (Term.named t)) })
accepted = only_acceptable _ refl

-- type t = {a: int, a: int}; main id int: the definition is not used
unused : IsAcceptable (record { definitions = (t, Term.type_def (Term.record_of (Term.more_fields a an_int_written (Term.more_fields a an_int_written Term.no_fields)))) ∷ []; main = Term.id_of an_int_written }) → ⊥
unused h = let formed = (h.definitions 0 (t, known_type an_int) (omega arith)).well_formed in cc

-- main then(id int, id list int)
middle_differs : IsAcceptable (record { definitions = []; main = Term.then_of (Term.id_of an_int_written) (Term.id_of (Term.list an_int_written)) }) → ⊥
middle_differs h = let is : an_int ≡ ty_list an_int = sym h.main.typed.1.2 ∙ h.main.typed.2.1 in cc

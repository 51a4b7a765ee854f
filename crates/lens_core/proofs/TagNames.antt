-- Tags by their numbers and names, in the lists that the code reads.
use Rattle.std.proofs.Common.{◌≡◌, ℕ, zero, suc, ◌≤◌, List, [], ◌∷◌, length, map, Some, None, refl, arith}
use Rattle.doc_values.specs.Types.{TyTree, FieldTrees, type_fields_of, field_tree}
use Rattle.doc_values.specs.Typing.{lookup_field}
use Rattle.doc_values.specs.declared.ty.Ty.{Ty}
use Rattle.lens_core.specs.Tags.{tag_number, tag_name}
use Rattle.lens_core.proofs.Tags.{tag_name-at}
use Rattle.lens_core.proofs.TagNumbers.{field-below}

pub number_found : (fs : FieldTrees) (n : List ℕ) (s : ℕ × TyTree) → lookup_field fs n ≡ Some s → tag_number fs n ≡ Some s.0
number_found fs n s e = rw e refl

pub number_none : (fs : FieldTrees) (n : List ℕ) → lookup_field fs n ≡ None → tag_number fs n ≡ None
number_none fs n e = rw e refl

pub ruleset number_rules = (field-below, number_found, number_none)

-- past the end of the list no tag has a name
pub name_past : (fs : List (List ℕ × Ty)) (k : ℕ) → length fs ≤ k → tag_name (type_fields_of (map field_tree fs)) k ≡ []
name_past [] k h = refl
name_past (g ∷ fs) zero h = absurd (omega arith)
name_past (g ∷ fs) (suc k) h = name_past fs k (omega arith)

pub ruleset name_rules = (tag_name-at, name_past)

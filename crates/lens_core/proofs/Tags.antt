-- Tags by their numbers and names.
use Rattle.std.proofs.Common.{◌≡◌, ℕ, zero, suc, ◌+◌, ◌<◌, ◌≤◌, true, List, [], ◌∷◌, length, map, get_or, add-one, refl, sym, ap, ◌∙◌, arith}
use Rattle.std.specs.Prelude.{bytes_eq}
use Rattle.texts.specs.Keys.{has_name}
use Rattle.doc_values.specs.Types.{FieldTrees, no_fields, more_fields, field_list, names_of, type_fields_of, field_tree}
use Rattle.doc_values.specs.declared.ty.Ty.{Ty}
use Rattle.lens_forms.specs.Measures.{fields_parts}
use Rattle.lens_core.specs.Tags.{tag_count, tag_name}
use Rattle.texts.proofs.Tests.{or_second}
use Rattle.texts.proofs.KeyOrder.{bytes_eq-refl}

-- there are as many tags as fields
pub field_list-tag_count : (fs : FieldTrees) → length (field_list fs) ≡ tag_count fs
field_list-tag_count no_fields = refl
field_list-tag_count (more_fields n t fs) = let rest = field_list-tag_count fs in omega (arith, rest)

-- no partition has more tags than parts
pub tag_count-parts : (fs : FieldTrees) → tag_count fs ≤ fields_parts fs
tag_count-parts no_fields = omega arith
tag_count-parts (more_fields n t fs) = let rest = tag_count-parts fs in omega (arith, rest)

pub tag_count-length : (fs : List (List ℕ × Ty)) → tag_count (type_fields_of (map field_tree fs)) ≡ length fs
tag_count-length [] = refl
tag_count-length (f ∷ fs) = ap (λ n. n + 1) (tag_count-length fs) ∙ add-one (length fs)

-- the tag at a place of the list
pub tag_name-at : (fs : List (List ℕ × Ty)) (k : ℕ) (f : List ℕ × Ty) → k < length fs → f ≡ get_or fs k f → tag_name (type_fields_of (map field_tree fs)) k ≡ f.0
tag_name-at [] k f h e = absurd (omega arith)
tag_name-at (g ∷ fs) zero f h e = ap (λ (x : List ℕ × Ty). x.0) (sym e)
tag_name-at (g ∷ fs) (suc k) f h e = tag_name-at fs k f (omega arith) e

-- each tag is among the names
pub tag_name-among : (fs : FieldTrees) (k : ℕ) → k < tag_count fs → has_name (tag_name fs k) (names_of fs) ≡ true
tag_name-among no_fields k h = absurd (omega arith)
tag_name-among (more_fields n t fs) zero h = rw (bytes_eq-refl n) refl
tag_name-among (more_fields n t fs) (suc k) h = or_second (bytes_eq (tag_name fs k) n) (has_name (tag_name fs k) (names_of fs)) (tag_name-among fs k (omega arith))

-- The names of tags by their numbers, in the lists that the code reads.
use Rattle.std.proofs.Common.{◌≡◌, ℕ, zero, suc, ◌<◌, true, List, [], ◌∷◌, length, map, refl, ap, arith}
use Rattle.std.specs.Prelude.{nat_lt, slice_index}
use Rattle.texts.proofs.Conjunction.{first, second}
use Rattle.serde_json.specs.Data.{Data, string, item}
use Rattle.serde_json.specs.View.{items_of}
use Rattle.tag_seq.specs.Tags.{are_below}
use Rattle.doc_values.specs.Types.{FieldTrees, type_fields_of, field_tree}
use Rattle.doc_values.specs.declared.ty.Ty.{Ty}
use Rattle.lens_core.specs.Tags.{tag_count, tag_name}
use Rattle.lens_core.proofs.Tags.{tag_count-length}
use Rattle.complement_file.specs.ComplementJson.{tag_items}
use Rattle.std.proofs.lemmas.Bool.{ltb-true}

below_at : (bound : ℕ) (ks : List ℕ) (i : ℕ) → i < length ks → are_below bound ks ≡ true → slice_index ks i < bound
below_at bound [] i h b = absurd (omega arith)
below_at bound (k ∷ ks) zero h b = ltb-true k bound (first (nat_lt k bound) _ b)
below_at bound (k ∷ ks) (suc i) h b = below_at bound ks i (omega arith) (second (nat_lt k bound) _ b)

-- the number at a place is that of a tag
pub number_within : (fs : List (List ℕ × Ty)) (ks : List ℕ) (i : ℕ) → i < length ks → are_below (tag_count (type_fields_of (map field_tree fs))) ks ≡ true → slice_index ks i < length fs
number_within fs ks i h b = omega (arith, below_at _ ks i h b, tag_count-length fs)

-- the tree of a tag
abbrev pub tag_tree : FieldTrees → ℕ → Data
tag_tree fs k = string (tag_name fs k)

pub items_of_tags : (fs : FieldTrees) (ks : List ℕ) → items_of (map (tag_tree fs) ks) ≡ tag_items fs ks
items_of_tags fs [] = refl
items_of_tags fs (k ∷ ks) = ap (item (tag_tree fs k)) (items_of_tags fs ks)

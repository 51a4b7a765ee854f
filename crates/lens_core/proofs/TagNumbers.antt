-- The number of a tag is below the number of all tags.
use Rattle.std.proofs.Common.{◌≡◌, ℕ, ◌+◌, ◌<◌, Bool, true, false, cond, List, Option, None, Some, option_map, refl, ap, subst, arith}
use Rattle.std.specs.Prelude.{bytes_eq}
use Rattle.doc_values.specs.Types.{TyTree, FieldTrees, no_fields, more_fields}
use Rattle.doc_values.specs.Typing.{lookup_field, later_field}
use Rattle.lens_core.specs.Tags.{tag_count, tag_number}

pub field-below : (fs : FieldTrees) (n : List ℕ) (f : ℕ × TyTree) → lookup_field fs n ≡ Some f → f.0 < tag_count fs
field-below no_fields n f e = cc
field-below (more_fields m t fs) n f e = go (bytes_eq m n) (lookup_field fs n) (λ g i. field-below fs n g i) e
  where
    go : (b : Bool) (o : Option (ℕ × TyTree)) → ((g : ℕ × TyTree) → o ≡ Some g → g.0 < tag_count fs) → cond b (Some (0, t)) (option_map (later_field 1) o) ≡ Some f → f.0 < tag_count fs + 1
    go true o h e = let same : (0, t) ≡ f = cc in let number = ap (λ (x : ℕ × TyTree). x.0) same in omega (arith, number)
    go false None h e = cc
    go false (Some g) h e =
        let same : later_field 1 g ≡ f = cc in
        let number = ap (λ (x : ℕ × TyTree). x.0) same in
        let less = h g refl in
        omega (arith, number, less)

pub tag-below : (fs : FieldTrees) (n : List ℕ) (j : ℕ) → tag_number fs n ≡ Some j → j < tag_count fs
tag-below fs n j e = go (lookup_field fs n) refl e
  where
    go : (o : Option (ℕ × TyTree)) → lookup_field fs n ≡ o → option_map (λ (f : ℕ × TyTree). f.0) o ≡ Some j → j < tag_count fs
    go None f e = cc
    go (Some g) f e = let same : g.0 ≡ j = cc in subst (λ z. z < tag_count fs) same (field-below fs n g f)

-- The content of a tag has the tag's type, and the tag is one of the type's.
use Rattle.std.proofs.Common.{◌≡◌, ℕ, true, false, List, Option, None, Some, ap, subst}
use Rattle.std.specs.Prelude.{option_map}
use Rattle.doc_values.specs.Documents.{DocTree, alt}
use Rattle.doc_values.specs.Types.{TyTree, ty_alt, FieldTrees}
use Rattle.doc_values.specs.Typing.{has, lookup_field}

-- a content has the type that is found for its tag
abbrev IsContent : DocTree → Option TyTree → Type 0
IsContent d o = elim o [ None ↦ false | Some t ↦ has t d ] ≡ true

pub content_typed : (fs : FieldTrees) (n : List ℕ) (d : DocTree) (s : ℕ × TyTree) → has (ty_alt fs) (alt n d) ≡ true → lookup_field fs n ≡ Some s → has s.1 d ≡ true
content_typed fs n d s h e = subst (IsContent d) (ap (option_map (λ (f : ℕ × TyTree). f.1)) e) h

pub tag_is_there : (fs : FieldTrees) (n : List ℕ) (d : DocTree) → has (ty_alt fs) (alt n d) ≡ true → lookup_field fs n ≡ None → ⊥
tag_is_there fs n d h e =
    let bad : false ≡ true = subst (IsContent d) (ap (option_map (λ (f : ℕ × TyTree). f.1)) e) h in cc

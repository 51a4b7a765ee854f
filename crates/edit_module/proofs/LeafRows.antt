-- The rows of texts and enums, over the types of the code: the initial value does not matter.
use Rattle.std.proofs.Common.{◌≡◌, List, ℕ, ap, ◌∙◌, rules}
use Rattle.doc_values.specs.Documents.{DocTree}
use Rattle.doc_values.specs.Types.{ty_tree, ty_text, ty_enum}
use Rattle.doc_values.specs.declared.ty.Ty.{Ty, the_lemmas as ty_lemmas}
use Rattle.doc_values.specs.declared.ty.Ty.TheVariants.{Text, Enum}
use Rattle.edit_module.specs.Words.{PrimitiveTree}
use Rattle.edit_module.specs.Action.{act_primitive}

ty_tree-Text : (s : List ℕ) → ty_tree (Text s) ≡ ty_text s
ty_tree-Text s = search (rules, ty_lemmas)

ty_tree-Enum : (ms : List (List ℕ)) (n : List ℕ) → ty_tree (Enum ms n) ≡ ty_enum ms n
ty_tree-Enum ms n = search (rules, ty_lemmas)

pub text_row : (t : Ty) (s : List ℕ) (p : PrimitiveTree) (d : DocTree) → t ≡ Text s → act_primitive (ty_tree t) p d ≡ act_primitive (ty_text s) p d
text_row t s p d e = ap (λ x. act_primitive x p d) (ap ty_tree e ∙ ty_tree-Text s)

pub enum_row : (t : Ty) (ms : List (List ℕ)) (n : List ℕ) (p : PrimitiveTree) (d : DocTree) → t ≡ Enum ms n → act_primitive (ty_tree t) p d ≡ act_primitive (ty_enum ms n) p d
enum_row t ms n p d e = ap (λ x. act_primitive x p d) (ap ty_tree e ∙ ty_tree-Enum ms n)

-- One level of a type or a lens, as a tree.
use Rattle.std.proofs.Common.{◌≡◌, ℕ, List, rules}
use Rattle.program_terms.specs.Terms.{record_of, named, named_lens}
use Rattle.program_terms.specs.Views.{type_tree, fields_tree, lens_tree}
use Rattle.program_terms.specs.declared.types.TyExpr.{the_lemmas as type_lemmas}
use Rattle.program_terms.specs.declared.types.TyExpr.TheVariants.{Rec, Named as NamedType}
use Rattle.program_terms.specs.declared.types.TyFields.{TyFields}
use Rattle.program_terms.specs.declared.lens.Lens.{the_lemmas as lens_lemmas}
use Rattle.program_terms.specs.declared.lens.Lens.TheVariants.{Named as NamedLens}

pub type_tree-rec : (fs : TyFields) → type_tree (Rec fs) ≡ record_of (fields_tree fs)
type_tree-rec fs = search (rules, type_lemmas)

pub type_tree-named : (n : List ℕ) → type_tree (NamedType n) ≡ named n
type_tree-named n = search (rules, type_lemmas)

pub lens_tree-named : (n : List ℕ) → lens_tree (NamedLens n) ≡ named_lens n
lens_tree-named n = search (rules, lens_lemmas)

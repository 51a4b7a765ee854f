-- A look-up by a name is a search among the definitions.
use Rattle.std.proofs.Common.{◌≡◌, List, [], ◌∷◌, ◌++◌, map, ℕ, Bool, true, false, true≢false, cond, bytes_eq, Option, Some, None, option_map, is_some, refl, sym, ap, ◌∙◌}
use Rattle.std.specs.Borrow.{Bor}
use Rattle.std.specs.Prelude.{option_copied}
use Rattle.std.specs.Map.{lookup}
use Rattle.std.proofs.lemmas.List.{map-append}
use Rattle.program_terms.specs.Terms.{def_named, is_defined, DefTree}
use Rattle.program_terms.specs.Views.{def_tree, definition_tree}
use Rattle.program_terms.specs.declared.definitions.Def.{Def}

-- what is borrowed has the tree of what it points to
borrowed : (found : Option (Bor Def)) → option_map (λ d. def_tree d.now) found ≡ option_map def_tree (option_copied found)
borrowed None = refl
borrowed (Some d) = refl

chosen : (a b : Bool) → a ≡ b → (d : Def) (found : Option Def) (other : Option DefTree) → option_map def_tree found ≡ other
    → option_map def_tree (cond a (Some d) found) ≡ cond b (Some (def_tree d)) other
chosen true true e d found other h = refl
chosen false false e d found other h = h
chosen true false e d found other h = absurd (true≢false e)
chosen false true e d found other h = absurd (true≢false (sym e))

-- a search by a test for a name
searched : (name : List ℕ) (test : List ℕ → Bool) → ((n : List ℕ) → test n ≡ bytes_eq name n) → (ds : List (List ℕ × Def))
    → option_map def_tree (lookup test ds) ≡ def_named name (map definition_tree ds)
searched name test same [] = refl
searched name test same (d ∷ ds) = chosen (test d.0) (bytes_eq name d.0) (same d.0) d.1 (lookup test ds) (def_named name (map definition_tree ds)) (searched name test same ds)

pub found : (name : List ℕ) (test : List ℕ → Bool) → ((n : List ℕ) → test n ≡ bytes_eq name n) → (ds : List (List ℕ × Def)) (r : Option (Bor Def))
    → option_copied r ≡ lookup test ds → option_map (λ d. def_tree d.now) r ≡ def_named name (map definition_tree ds)
found name test same ds r e = borrowed r ∙ ap (option_map def_tree) e ∙ searched name test same ds

missing : (found : Option Def) (other : Option DefTree) → option_map def_tree found ≡ other → false ≡ is_some other → found ≡ None
missing None other e h = refl
missing (Some d) other e h = absurd (true≢false (ap is_some e ∙ sym h))

-- a name that is not defined is no key
pub absent : (name : List ℕ) (ds : List (List ℕ × Def)) → false ≡ is_defined name (map definition_tree ds) → lookup (bytes_eq name) ds ≡ None
absent name ds h = missing (lookup (bytes_eq name) ds) (def_named name (map definition_tree ds)) (searched name (bytes_eq name) (λ n. refl) ds) h

-- what is added stands last
pub added : (name : List ℕ) (d : Def) (old new : List (List ℕ × Def)) → new ≡ old ++ (name, d) ∷ []
    → map definition_tree new ≡ map definition_tree old ++ (name, def_tree d) ∷ []
added name d old new e = ap (map definition_tree) e ∙ map-append definition_tree old ((name, d) ∷ [])

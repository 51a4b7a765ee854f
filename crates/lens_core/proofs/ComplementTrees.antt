-- Complements and lists of complements as trees.
use Rattle.std.proofs.Common.{◌≡◌, ℕ, ◌+◌, List, [], ◌∷◌, length, map, get_or, add-one, refl, ap, ◌∙◌, rules, Box, Global}
use Rattle.std.specs.Prelude.{slice_get}
use Rattle.std.specs.declared.option.Option.TheVariants.{Some}
use Rattle.std.proofs.lemmas.List.{get_or-map, map-set}
use Rattle.std.proofs.lemmas.Option.{get_or_from_slice_get, slice_get_within}
use Rattle.hold_shapes.specs.declared.shape.Shape.{Shape}
use Rattle.lens_core.specs.Complements.{CompTree, then_comp, rec_comp, alt_comp, hold_comp, CompTrees, no_comps, more_comps, comps_of, comp_list, comp_count, comp_tree, comps_tree}
use Rattle.lens_core.specs.declared.comp.Comp.{Comp, the_lemmas as comp_lemmas}
use Rattle.lens_core.specs.declared.comp.Comp.TheVariants.{Then, Rec, Alt, Hold}
use Rattle.lens_core.specs.declared.comp.Comps.{Comps, out-Comps, the_lemmas as comps_lemmas}

pub comps_tree-out : (cs : Comps) → comps_tree cs ≡ comps_of (map comp_tree (out-Comps cs).items)
comps_tree-out cs = search (rules, comps_lemmas)

-- ---- one complement as a tree

pub comp_tree-then : (e : Comp) (c d : Box Comp Global) → e ≡ Then c d → comp_tree e ≡ then_comp (comp_tree c.value) (comp_tree d.value)
comp_tree-then e c d is = ap comp_tree is ∙ search (rules, comp_lemmas)

pub comp_tree-rec : (e : Comp) (cs : Comps) → e ≡ Rec cs → comp_tree e ≡ rec_comp (comps_tree cs)
comp_tree-rec e cs is = ap comp_tree is ∙ search (rules, comp_lemmas)

pub comp_tree-alt : (e : Comp) (t : List ℕ) (c : Box Comp Global) → e ≡ Alt t c → comp_tree e ≡ alt_comp t (comp_tree c.value)
comp_tree-alt e t c is = ap comp_tree is ∙ search (rules, comp_lemmas)

pub comp_tree-hold : (e : Comp) (s : Shape) (cs : Comps) → e ≡ Hold s cs → comp_tree e ≡ hold_comp s (comps_tree cs)
comp_tree-hold e s cs is = ap comp_tree is ∙ search (rules, comp_lemmas)

-- ---- trees and lists, there and back

pub comps_of-comp_list : (cs : CompTrees) → comps_of (comp_list cs) ≡ cs
comps_of-comp_list no_comps = refl
comps_of-comp_list (more_comps c cs) = ap (more_comps c) (comps_of-comp_list cs)

pub comp_list-comps_of : (cs : List CompTree) → comp_list (comps_of cs) ≡ cs
comp_list-comps_of [] = refl
comp_list-comps_of (c ∷ cs) = ap (λ x. c ∷ x) (comp_list-comps_of cs)

pub comp_list_comps : (cs : Comps) → comp_list (comps_tree cs) ≡ map comp_tree (out-Comps cs).items
comp_list_comps cs = ap comp_list (comps_tree-out cs) ∙ comp_list-comps_of _

-- ---- lengths

pub comp_count-length : (cs : CompTrees) → comp_count cs ≡ length (comp_list cs)
comp_count-length no_comps = refl
comp_count-length (more_comps c cs) = ap (λ n. n + 1) (comp_count-length cs) ∙ add-one (length (comp_list cs))

pub comp_count-comps_of : (cs : List Comp) → comp_count (comps_of (map comp_tree cs)) ≡ length cs
comp_count-comps_of [] = refl
comp_count-comps_of (c ∷ cs) = ap (λ n. n + 1) (comp_count-comps_of cs) ∙ add-one (length cs)

-- ---- the complement at a place

pub tree_at : (cs : List Comp) (i : ℕ) (c : Comp) (d : CompTree) → slice_get cs i ≡ Some c → get_or (map comp_tree cs) i d ≡ comp_tree c
tree_at cs i c d h = get_or-map comp_tree cs i c d (slice_get_within cs i c h) ∙ ap comp_tree (get_or_from_slice_get cs i c c h)

pub ruleset list_rules = (comps_tree-out, comps_of-comp_list, comp_list-comps_of, comp_count-comps_of, tree_at, map-set)

pub ruleset gather_rules = (comps_tree-out, comp_list_comps, comp_count-comps_of)

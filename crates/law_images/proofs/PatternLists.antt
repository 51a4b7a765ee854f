-- Lists of patterns as trees.
use Rattle.std.proofs.Common.{◌≡◌, ℕ, ◌+◌, List, [], ◌∷◌, length, map, get_or, add-one, refl, ap, ◌∙◌, rules}
use Rattle.std.specs.Prelude.{slice_get}
use Rattle.std.specs.declared.option.Option.TheVariants.{Some}
use Rattle.std.proofs.lemmas.List.{get_or-map}
use Rattle.std.proofs.lemmas.Option.{get_or_from_slice_get, slice_get_within}
use Rattle.law_images.specs.Patterns.{PatternTree, PatternTrees, no_patterns, more_patterns, patterns_from, pattern_list, pattern_count, pattern_tree, patterns_tree}
use Rattle.law_images.specs.declared.pattern.Pattern.{Pattern}
use Rattle.law_images.specs.declared.pattern.Patterns.{Patterns, out-Patterns, the_lemmas as patterns_lemmas}

pub patterns_tree-out : (ps : Patterns) → patterns_tree ps ≡ patterns_from (map pattern_tree (out-Patterns ps).items)
patterns_tree-out ps = search (rules, patterns_lemmas)

-- ---- trees and lists, there and back

pub patterns_from-pattern_list : (ps : PatternTrees) → patterns_from (pattern_list ps) ≡ ps
patterns_from-pattern_list no_patterns = refl
patterns_from-pattern_list (more_patterns p ps) = ap (more_patterns p) (patterns_from-pattern_list ps)

pub pattern_list-patterns_from : (ps : List PatternTree) → pattern_list (patterns_from ps) ≡ ps
pattern_list-patterns_from [] = refl
pattern_list-patterns_from (p ∷ ps) = ap (λ x. p ∷ x) (pattern_list-patterns_from ps)

-- ---- lengths

pub pattern_count-length : (ps : PatternTrees) → pattern_count ps ≡ length (pattern_list ps)
pattern_count-length no_patterns = refl
pattern_count-length (more_patterns p ps) = ap (λ n. n + 1) (pattern_count-length ps) ∙ add-one (length (pattern_list ps))

pub pattern_count-patterns_from : (ps : List Pattern) → pattern_count (patterns_from (map pattern_tree ps)) ≡ length ps
pattern_count-patterns_from [] = refl
pattern_count-patterns_from (p ∷ ps) = ap (λ n. n + 1) (pattern_count-patterns_from ps) ∙ add-one (length ps)

-- ---- the pattern at a place

pub tree_at : (ps : List Pattern) (i : ℕ) (p : Pattern) (q : PatternTree) → slice_get ps i ≡ Some p → get_or (map pattern_tree ps) i q ≡ pattern_tree p
tree_at ps i p q h = get_or-map pattern_tree ps i p q (slice_get_within ps i p h) ∙ ap pattern_tree (get_or_from_slice_get ps i p p h)

pub ruleset list_rules = (patterns_tree-out, patterns_from-pattern_list, pattern_list-patterns_from, pattern_count-patterns_from, tree_at)

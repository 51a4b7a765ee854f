-- What a partition's steps ask of its tags, and its complement as a tree.
use Rattle.std.proofs.Common.{◌≡◌, ℕ, ◌≤◌, List, ap, ◌∙◌, arith, rules}
use Rattle.doc_values.specs.Types.{FieldTrees}
use Rattle.lens_forms.specs.Forms.{form_part}
use Rattle.lens_forms.specs.declared.limits.TheConstants.{MOST_PARTS}
use Rattle.lens_core.specs.Complements.{tags_comp, comp_tree}
use Rattle.lens_core.specs.declared.comp.Comp.{Comp, the_lemmas as comp_lemmas}
use Rattle.lens_core.specs.declared.comp.Comp.TheVariants.{Tags}
use Rattle.lens_core.specs.Tags.{tag_count}
use Rattle.lens_core.proofs.Tags.{tag_count-parts}
use Rattle.lens_steps.specs.Ready.{IsReady}

pub few_tags : (fs : FieldTrees) → IsReady (form_part fs) → tag_count fs ≤ MOST_PARTS
few_tags fs h = let small = h.1 in omega (arith, small, tag_count-parts fs)

-- the complement of a partition as a tree
pub tags_tree : (e : Comp) (ts : List ℕ) → e ≡ Tags ts → comp_tree e ≡ tags_comp ts
tags_tree e ts is = ap comp_tree is ∙ search (rules, comp_lemmas)

pub ruleset part_rules = (few_tags, tags_tree)

use Rattle.std.proofs.Common.{◌∙◌, ◌<◌, Some, ap, sym, subst}
use Rattle.edit_module.specs.Words.{PrimitiveTree}
use Rattle.edit_module.specs.Views.{primitive_tree, word_tree}
use Rattle.lens_forms.specs.Forms.{arms_tree}
use Rattle.lens_core.specs.Beginnings.{inside}
use Rattle.lens_core.specs.Complements.{CompTree, CompTrees, comp_count, comp_tree}
use Rattle.lens_core.specs.Translation.{comp_at}
use Rattle.lens_branch.specs.AlternativeSteps.{NeedsStarts, arm_seen, begin_alternatives, current_arm}
use Rattle.lens_branch.proofs.ArmSearch.{start_within, is_found, inner_begun, switch_begun}
use Rattle.lens_branch.proofs.EmittedWords.{primitive_tree-switch}
use Rattle.lens_branch.proofs.alternatives.alt_begin.Goals as goal

pub get-requires : goal.get-requires
get-requires c =
    let arms = arms_tree c.args.arms.now in
    let next = arm_seen c.in-Some-find_arm.next in
    let is_switch = ap primitive_tree c.in-Switch.is ∙ primitive_tree-switch c.in-Switch.from c.in-Switch.to c.in-Switch.word in
    let needed = subst (λ (p : PrimitiveTree). NeedsStarts p) (sym is_switch) tt in
    subst (λ (cs : CompTrees). next.number < comp_count cs) (sym (c.requires needed)) (start_within arms c.args.side c.in-Switch.to next (sym c.in-Some-find_arm.ensures))

pub returns-in-Some-find_arm : goal.returns-in-Some-find_arm
returns-in-Some-find_arm c =
    let arms = arms_tree c.args.arms.now in
    let next = arm_seen c.in-Some-find_arm.next in
    let word = word_tree c.in-Switch.word in
    let is_switch = ap primitive_tree c.in-Switch.is ∙ primitive_tree-switch c.in-Switch.from c.in-Switch.to c.in-Switch.word in
    let here = is_found arm_seen c.current_arm-in-Switch.result (current_arm arms c.args.side c.args.tag.now c.in-Switch.from) c.current_arm-in-Switch.ensures c.if-is_none.ensures in
    let begun = switch_begun arms c.args.side c.args.tag.now c.in-Switch.from c.in-Switch.to (comp_tree c.args.comp.now) word next here (sym c.in-Some-find_arm.ensures) in
    let needed = subst (λ (p : PrimitiveTree). NeedsStarts p) (sym is_switch) tt in
    let start = c.get.ensures ∙ ap (λ (cs : CompTrees). comp_at cs next.number) (c.requires needed) in
    inner_begun c.inner-in-Switch.result (begin_alternatives arms c.args.side c.args.tag.now (comp_tree c.args.comp.now) (primitive_tree c.args.prim.now)) (inside next.number (comp_tree c.get.result.now) word)
    (ap (begin_alternatives arms c.args.side c.args.tag.now (comp_tree c.args.comp.now)) is_switch
    ∙ (begun ∙ ap (λ (d : CompTree). Some (inside next.number d word)) (sym start)))
    c.inner-in-Switch.ensures

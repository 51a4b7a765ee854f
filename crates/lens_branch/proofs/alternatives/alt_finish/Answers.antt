use Rattle.std.proofs.Common.{◌∙◌, option_map, sym, ap, subst}
use Rattle.edit_module.specs.Words.{PrimitiveTree}
use Rattle.edit_module.specs.Views.{primitive_tree, word_tree}
use Rattle.lens_forms.specs.Forms.{arms_tree}
use Rattle.lens_branch.specs.AlternativeSteps.{HasBegun, arm_seen}
use Rattle.lens_branch.proofs.ArmSearch.{begun_stay, begun_from}
use Rattle.lens_branch.proofs.EmittedWords.{primitive_tree-stay, primitive_tree-switch}
use Rattle.lens_branch.proofs.alternatives.alt_finish.Goals as goal

pub unreachable-requires : goal.unreachable-requires
unreachable-requires c =
    let is_stay = ap primitive_tree c.in-Stay.is ∙ primitive_tree-stay c.in-Stay.near c.in-Stay.field-1 in
    let begun = subst (λ (p : PrimitiveTree). HasBegun (arms_tree c.args.arms.now) c.args.side p) is_stay c.requires in
    begun_stay (arms_tree c.args.arms.now) c.args.side c.in-Stay.near (word_tree c.in-Stay.field-1) begun
    (sym c.find_arm.ensures ∙ ap (option_map arm_seen) c.in_default-find_arm.is)

pub unreachable-requires-in_default-find_arm-2 : goal.unreachable-requires-in_default-find_arm-2
unreachable-requires-in_default-find_arm-2 c =
    let is_switch = ap primitive_tree c.in-Switch.is ∙ primitive_tree-switch c.in-Switch.from c.in-Switch.to c.in-Switch.field-2 in
    let begun = subst (λ (p : PrimitiveTree). HasBegun (arms_tree c.args.arms.now) c.args.side p) is_switch c.requires in
    begun_from (arms_tree c.args.arms.now) c.args.side c.in-Switch.from c.in-Switch.to (word_tree c.in-Switch.field-2) begun
    (sym c.find_arm-in-Switch.ensures ∙ ap (option_map arm_seen) c.in_default-find_arm-2.is)

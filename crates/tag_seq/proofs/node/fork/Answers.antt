use Rattle.std.proofs.Common.{rules, arith, length-append, length, ◌∷◌}
use Rattle.tag_seq.specs.Trees.{tags}
use Rattle.tag_seq.proofs.Heights.{short_node, short_fits}
use Rattle.tag_seq.proofs.node.fork.Goals as goal

pub overflow_add-height : goal.overflow_add-height
overflow_add-height c =
    let both = length-append (tags c.args.left) (c.args.tag ∷ tags c.args.right) in
    omega (arith, short_fits (length (tags c.args.left)) c.height.result c.height.ensures.short (omega arith), short_fits (length (tags c.args.right)) c.height-2.result c.height-2.ensures.short (omega arith))

pub invariant_of-node : goal.invariant_of-node
invariant_of-node c = record {
  totals = c.requires.totals;
  higher = search rules;
  balanced = c.requires.balanced;
  short = short_node (length (tags c.args.left)) (length (tags c.args.right)) c.height.result c.height-2.result _ _ c.height.ensures.short c.height-2.ensures.short (rw (c.height.ensures.value, c.height-2.ensures.value) c.requires.balanced) (omega (arith, length-append (tags c.args.left) (c.args.tag ∷ tags c.args.right))) (omega arith);
  small = c.requires.small;
}

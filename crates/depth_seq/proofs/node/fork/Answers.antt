use Rattle.std.proofs.Common.{rules, arith, length-append, length, ◌++◌}
use Rattle.depth_seq.specs.Trees.{depths}
use Rattle.depth_seq.proofs.Heights.{short_node, short_fits}
use Rattle.depth_seq.proofs.node.fork.Goals as goal

pub overflow_add-height : goal.overflow_add-height
overflow_add-height c =
    let both = length-append (depths c.args.left) (c.args.chunk.value.items ++ depths c.args.right) in
    let behind = length-append c.args.chunk.value.items (depths c.args.right) in
    omega (arith, short_fits (length (depths c.args.left)) c.height.result c.height.ensures.short (omega arith), short_fits (length (depths c.args.right)) c.height-2.result c.height-2.ensures.short (omega arith))

pub invariant_of-node : goal.invariant_of-node
invariant_of-node c = record {
  some = c.requires.some;
  sums = search rules;
  front = search rules;
  higher = search rules;
  balanced = c.requires.balanced;
  short = short_node (length (depths c.args.left)) (length (depths c.args.right)) c.height.result c.height-2.result _ _ c.height.ensures.short c.height-2.ensures.short (rw (c.height.ensures.value, c.height-2.ensures.value) c.requires.balanced) (omega (arith, c.requires.some, length-append (depths c.args.left) (c.args.chunk.value.items ++ depths c.args.right), length-append c.args.chunk.value.items (depths c.args.right))) (omega arith);
  small = c.requires.small;
}

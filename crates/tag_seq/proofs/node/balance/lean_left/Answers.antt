use Rattle.std.proofs.Common.{rules, ◌≡◌, ◌++◌, ◌∷◌}
use Rattle.tag_seq.specs.Trees.{tags}
use Rattle.tag_seq.proofs.Totals.{front_within}
use Rattle.tag_seq.proofs.node.balance.lean_left.Goals as goal

pub behind-requires-clause-each : goal.behind-requires-clause-each
behind-requires-clause-each c =
    let is : tags c.args.left.now ≡ tags c.node.inside.left ++ c.node.inside.tag ∷ tags c.node.inside.right = search rules in
    (front_within _ _ _ _ _ _ _ (rw is at c.requires.totals) c.node.invariant.totals).1

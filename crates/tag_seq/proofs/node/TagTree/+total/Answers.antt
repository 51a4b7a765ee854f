use Rattle.std.proofs.Common.{rules, arith, ◌≡◌, ◌++◌, length-append, ◌∷◌}
use Rattle.tag_seq.specs.Trees.{tags}
use Rattle.tag_seq.specs.Totals.{AreTotals}
use Rattle.tag_seq.proofs.Totals.{totals_within}
use Rattle.tag_seq.proofs.node.TagTree.+total.Goals as goal

pub and-requires-clause-fits : goal.and-requires-clause-fits
and-requires-clause-fits t c = omega (arith, length-append (tags c.node.inside.left) (c.node.inside.tag ∷ tags c.node.inside.right), c.in_ok-front-in-Node.ensures.size, c.in_ok-behind-in-Node.ensures.all)

pub and-requires-clause-ours : goal.and-requires-clause-ours
and-requires-clause-ours t c = rw (c.in_ok-front-in-Node.ensures.size, c.in_ok-front-in-Node.ensures.counts) (totals_within _ _ _ c.node.invariant.totals)

pub and-requires-clause-theirs : goal.and-requires-clause-theirs
and-requires-clause-theirs t c = totals_within _ _ _ c.in_ok-behind-in-Node.ensures

pub returns-in_ok-whole-in-Node : goal.returns-in_ok-whole-in-Node
returns-in_ok-whole-in-Node t c =
    let front : AreTotals c.in_ok-front-in-Node.front.size c.in_ok-front-in-Node.front.counts (tags c.node.inside.left) = rw (c.in_ok-front-in-Node.ensures.size, c.in_ok-front-in-Node.ensures.counts) c.node.invariant.totals in
    let is : tags c.args.self.now ≡ tags c.node.inside.left ++ c.node.inside.tag ∷ tags c.node.inside.right = search rules in
    rw is (c.in_ok-whole-in-Node.ensures _ _ front c.in_ok-behind-in-Node.ensures)

use Rattle.std.proofs.Common.{rules, arith, ap, length, length-append, ◌≡◌, ◌++◌, ◌∷◌, append_assoc}
use Rattle.tag_seq.specs.Trees.{tags}
use Rattle.tag_seq.proofs.Totals.{totals_within, front_within}
use Rattle.tag_seq.proofs.node.balance.lean_twice_left.Goals as goal

pub and-requires-clause-ours : goal.and-requires-clause-ours
and-requires-clause-ours c = totals_within _ _ _ c.requires.totals

pub and-requires-clause-theirs : goal.and-requires-clause-theirs
and-requires-clause-theirs c = totals_within _ _ _ c.node.invariant.totals

pub behind-requires-clause-each : goal.behind-requires-clause-each
behind-requires-clause-each c =
    let is : tags c.args.inner.now ≡ tags c.node.inside.left ++ c.node.inside.tag ∷ tags c.node.inside.right = search rules in
    (front_within _ _ _ _ _ _ _ (rw is at c.requires.inner_totals) c.node.invariant.totals).1

pub fork-requires-in-Node-clause-small : goal.fork-requires-in-Node-clause-small
fork-requires-in-Node-clause-small c =
    let is : tags c.args.inner.now ≡ tags c.node.inside.left ++ c.node.inside.tag ∷ tags c.node.inside.right = search rules in
    omega (arith, length-append (tags c.args.outer.now ++ c.args.tag ∷ tags c.args.inner.now) (c.args.next ∷ tags c.args.right), length-append (tags c.args.outer.now) (c.args.tag ∷ tags c.args.inner.now), length-append (tags c.in_ok-share-in-Node-3.field-0) (c.args.next ∷ tags c.args.right), ap length c.in_ok-share-in-Node-3.ensures.tags, ap length is, length-append (tags c.node.inside.left) (c.node.inside.tag ∷ tags c.node.inside.right))

pub returns-clause-tags : goal.returns-clause-tags
returns-clause-tags c =
    let is : tags c.args.inner.now ≡ tags c.node.inside.left ++ c.node.inside.tag ∷ tags c.node.inside.right = search rules in
    rw (c.in_ok-whole-in-Node.ensures.tags, c.in_ok-low-in-Node.ensures.tags, c.in_ok-high-in-Node.ensures.tags, c.in_ok-share-in-Node.ensures.tags, c.in_ok-share-in-Node-2.ensures.tags, c.in_ok-share-in-Node-3.ensures.tags, is) (simp append_assoc)

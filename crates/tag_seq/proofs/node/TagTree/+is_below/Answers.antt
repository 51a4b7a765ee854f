use Rattle.std.proofs.Common.{rules, ◌≡◌, ◌++◌, ◌∷◌, true, false, refl}
use Rattle.std.proofs.lemmas.Bool.{le-ltb, lt-ltb}
use Rattle.tag_seq.specs.Trees.{tags}
use Rattle.tag_seq.proofs.Totals.{below_counts, below-append}
use Rattle.tag_seq.proofs.node.TagTree.+is_below.Goals as goal

pub returns-then-not-is_below : goal.returns-then-not-is_below
returns-then-not-is_below t c =
    let is : tags c.args.self.now ≡ tags c.node.inside.left ++ c.node.inside.tag ∷ tags c.node.inside.right = search rules in
    let left = below_counts c.args.bound c.is_below.result c.node.inside.left_counts (tags c.node.inside.left) c.is_below.ensures c.node.invariant.totals.each in
    let no : c.is_below.result ≡ false = search rules in
    rw (is, below-append c.args.bound (tags c.node.inside.left) (c.node.inside.tag ∷ tags c.node.inside.right), left, no) refl

pub returns-then-node-bound : goal.returns-then-node-bound
returns-then-node-bound t c =
    let is : tags c.args.self.now ≡ tags c.node.inside.left ++ c.node.inside.tag ∷ tags c.node.inside.right = search rules in
    let left = below_counts c.args.bound c.is_below.result c.node.inside.left_counts (tags c.node.inside.left) c.is_below.ensures c.node.invariant.totals.each in
    let yes : c.is_below.result ≡ true = search rules in
    rw (is, below-append c.args.bound (tags c.node.inside.left) (c.node.inside.tag ∷ tags c.node.inside.right), left, yes, lt-ltb _ _ c.if-node-bound.true) c.is_below-then-node-bound.ensures

pub returns-else-node-bound : goal.returns-else-node-bound
returns-else-node-bound t c =
    let is : tags c.args.self.now ≡ tags c.node.inside.left ++ c.node.inside.tag ∷ tags c.node.inside.right = search rules in
    let left = below_counts c.args.bound c.is_below.result c.node.inside.left_counts (tags c.node.inside.left) c.is_below.ensures c.node.invariant.totals.each in
    let yes : c.is_below.result ≡ true = search rules in
    rw (is, below-append c.args.bound (tags c.node.inside.left) (c.node.inside.tag ∷ tags c.node.inside.right), left, yes, le-ltb _ _ c.if-node-bound.false) refl

use Rattle.std.proofs.Common.{arith, ap, ◌≡◌, ◌++◌, ◌∷◌, length, take, drop, length-drop, refl}
use Rattle.tag_seq.specs.Trees.{tags}
use Rattle.tag_seq.proofs.Making.{moved_parts, moved_length}
use Rattle.tag_seq.proofs.node.moving.move_tag.Goals as goal

pub unreachable-requires : goal.unreachable-requires
unreachable-requires c = absurd (omega (arith, length-drop c.args.from (tags c.args.tree.now), ap length c.in_default.ensures, ap length c.in_ok-behind.ensures))

pub join-requires-clause-small : goal.join-requires-clause-small
join-requires-clause-small c =
    let others : tags c.in_ok-others.others ≡ take c.args.from (tags c.args.tree.now) ++ drop 1 (drop c.args.from (tags c.args.tree.now)) = rw (c.in_ok-others.ensures, c.in_ok-first.ensures, c.in_ok-rest.ensures, c.in_ok-behind.ensures) refl in
    omega (arith, moved_length (tags c.args.tree.now) (tags c.in_ok-others.others) (tags c.in_ok-front.front) (tags c.in_ok-rest-2.field-0) c.args.from c.args.to c.in-Some.tag c.requires.from others c.in_ok-front.ensures c.in_ok-rest-2.ensures)

pub returns : goal.returns
returns c =
    let others : tags c.in_ok-others.others ≡ take c.args.from (tags c.args.tree.now) ++ drop 1 (drop c.args.from (tags c.args.tree.now)) = rw (c.in_ok-others.ensures, c.in_ok-first.ensures, c.in_ok-rest.ensures, c.in_ok-behind.ensures) refl in
    let split : drop c.args.from (tags c.args.tree.now) ≡ c.in-Some.tag ∷ drop 1 (drop c.args.from (tags c.args.tree.now)) = rw c.in_ok-behind.ensures at c.in-Some.ensures in
    rw (c.in_ok-whole.ensures, c.in_ok-front.ensures, c.in_ok-rest-2.ensures) (moved_parts (tags c.args.tree.now) (drop 1 (drop c.args.from (tags c.args.tree.now))) (tags c.in_ok-others.others) c.args.from c.args.to c.in-Some.tag c.requires.from split others)

use Rattle.std.proofs.Common.{arith, ◌≡◌, ◌+◌, ◌-◌, ◌/◌}
use Rattle.tag_seq.proofs.Making.{replicate_around}
use Rattle.tag_seq.proofs.node.making.+repeat.Goals as goal

pub join-requires-2-clause-totals : goal.join-requires-2-clause-totals
join-requires-2-clause-totals t c =
    let all : c.args.count - 1 ≡ (c.args.count - 1) / 2 + 1 + (c.args.count - 1) / 2 = omega arith in
    rw (c.in_ok-odd.ensures, c.in_ok-part.ensures, replicate_around ((c.args.count - 1) / 2) ((c.args.count - 1) / 2) (c.args.count - 1) c.args.tag all) c.in_ok-before-2.ensures

pub returns : goal.returns
returns t c =
    let all : c.args.count - 1 ≡ (c.args.count - 1) / 2 + 1 + (c.args.count - 1) / 2 = omega arith in
    rw (c.in_ok-even.ensures, c.in_ok-odd.ensures, c.in_ok-part.ensures, replicate_around ((c.args.count - 1) / 2) ((c.args.count - 1) / 2) (c.args.count - 1) c.args.tag all) (replicate_around (c.args.count - 1) 0 c.args.count c.args.tag (omega arith))

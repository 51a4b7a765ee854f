use Rattle.std.proofs.Common.{inl, inr, ◌≤◌, ◌⊎◌, length}
use Rattle.tag_seq.proofs.Numbers.{reduced_end}
use Rattle.tag_seq.proofs.counts.subtract.Goals as goal
use Rattle.tag_seq.proofs.counts.subtract.Goals.{then-loop-i-test+else-j-theirs, else-loop-i-test}

pub returns : goal.returns
returns c =
    let ended : (length c.args.ours.now ≤ c.loop-i.i) ⊎ (length c.args.theirs.now ≤ c.loop-i.j) = elim c.loop-i-test.branch [ then-loop-i-test+else-j-theirs w ↦ inr (w.if-j-theirs.false) | else-loop-i-test w ↦ inl (w.loop-i-test.false) ] in
    rw (c.in_ok-extend_from_slice.ensures.items, c.loop-i.invariant.rest) (reduced_end c.loop-i.pairs.items c.args.ours.now c.args.theirs.now c.loop-i.i c.loop-i.j ended)

use Rattle.std.proofs.Common.{arith, inl, inr, ap, ◌≡◌, ◌≤◌, ◌⊎◌, length, ℕ}
use Rattle.std.specs.Prelude.{slice_index_or}
use Rattle.tag_seq.specs.Numbers.{number}
use Rattle.tag_seq.proofs.Numbers.{number_at, merged_end}
use Rattle.tag_seq.proofs.counts.merge.Goals as goal
use Rattle.tag_seq.proofs.counts.merge.Goals.{then-loop-i-test+else-j-theirs, else-loop-i-test}

pub overflow_add-our : goal.overflow_add-our
overflow_add-our c =
    let our : ℕ × ℕ = slice_index_or c.args.ours.now c.loop-i.i (0, 0) in
    let their : ℕ × ℕ = slice_index_or c.args.theirs.now c.loop-i.j (0, 0) in
    let same : their.0 ≡ our.0 = omega arith in
    omega (arith, number_at c.args.ours.now c.loop-i.i (0, 0) c.loop-i-test.true, number_at c.args.theirs.now c.loop-i.j (0, 0) c.if-j-theirs.true, ap (λ t. number t c.args.theirs.now) same, c.requires our.0)

pub returns : goal.returns
returns c =
    let ended : (length c.args.ours.now ≤ c.loop-i.i) ⊎ (length c.args.theirs.now ≤ c.loop-i.j) = elim c.loop-i-test.branch [ then-loop-i-test+else-j-theirs w ↦ inr (w.if-j-theirs.false) | else-loop-i-test w ↦ inl (w.loop-i-test.false) ] in
    rw (c.in_ok-extend_from_slice-2.ensures.items, c.in_ok-extend_from_slice.ensures.items, c.loop-i.invariant.sum) (merged_end c.loop-i.pairs.items c.args.ours.now c.args.theirs.now c.loop-i.i c.loop-i.j ended)

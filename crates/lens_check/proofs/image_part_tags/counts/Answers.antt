use Rattle.std.proofs.Common.{◌≡◌, ◌<◌, length, get_or, arith}
use Rattle.std.proofs.lemmas.List.{get_or_read}
use Rattle.lens_check.proofs.PartCounts.{below_at, counts_low}
use Rattle.lens_check.proofs.image_part_tags.counts.Goals as goal

pub overflow_add-index_mut : goal.overflow_add-index_mut
overflow_add-index_mut c =
    let tag = c.tag_at-tag.result in
    let counts = c.loop-place.counts.items in
    let within : c.loop-place.place < length c.args.seq.now = omega (arith, c.loop-place-test.true, c.len-place-end.ensures) in
    let low : tag < c.args.tags = omega (arith, c.tag_at-tag.ensures, below_at c.args.tags c.args.seq.now c.loop-place.place c.requires within) in
    let here : c.index_mut.result.now ≡ get_or counts tag 0 = get_or_read counts tag c.index_mut.result.now (omega (arith, low, c.loop-place.invariant.long)) c.index_mut.ensures.value 0 in
    omega (arith, here, c.loop-place-test.true, counts_low c.args.tags counts c.args.seq.now c.loop-place.place tag low c.loop-place.invariant)

use Rattle.std.proofs.Common.{rules, ◌≡◌, ◌<◌, length, map, get_or, arith}
use Rattle.std.proofs.lemmas.List.{length-append}
use Rattle.hold_shapes.specs.Gather.{content_at}
use Rattle.hold_shapes.proofs.RunOrigins.{length-from}
use Rattle.hold_shapes.proofs.Pieces.{run-below, rest-below, piece-length, gathered-more}
use Rattle.hold_shapes.proofs.gathering.pieces.Goals as goal

pub piece-requires : goal.piece-requires
piece-requires g c =
    let rs = c.args.runs.now in let r = c.index-runs-i.result in
    let p : (c.loop-i.i < length rs) × (r ≡ get_or rs c.loop-i.i r) = search rules in
    run-below rs c.loop-i.i r (length c.args.items.now) p c.loop-i.invariant.2

pub concat-requires : goal.concat-requires
concat-requires g c =
    let rs = c.args.runs.now in let r = c.index-runs-i.result in
    let p : (c.loop-i.i < length rs) × (r ≡ get_or rs c.loop-i.i r) = search rules in
    let n = piece-length g.T.Twin.meaning (content_at (map g.T.Twin.meaning c.args.items.now) (g.T.Twin.meaning c.args.fresh.now)) c.in_ok-next.next r c.in_ok-next.ensures in
    omega (arith, n, length-from rs c.loop-i.i r p.0 p.1, c.loop-i.invariant.1, c.requires.fits)

pub loop-i-preserved : goal.loop-i-preserved
loop-i-preserved g c =
    let rs = c.args.runs.now in let r = c.index-runs-i.result in
    let f = g.T.Twin.meaning in
    let h = content_at (map f c.args.items.now) (f c.args.fresh.now) in
    let p : (c.loop-i.i < length rs) × (r ≡ get_or rs c.loop-i.i r) = search rules in
    let n = piece-length f h c.in_ok-next.next r c.in_ok-next.ensures in
    rw c.in_ok-all.ensures (
      gathered-more f h c.loop-i.all c.in_ok-next.next rs c.loop-i.i r p c.in_ok-next.ensures c.loop-i.invariant.0,
      omega (arith, n, length-from rs c.loop-i.i r p.0 p.1, c.loop-i.invariant.1, length-append c.loop-i.all c.in_ok-next.next),
      rest-below rs c.loop-i.i r (length c.args.items.now) p c.loop-i.invariant.2,
    )

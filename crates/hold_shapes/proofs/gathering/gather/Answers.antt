use Rattle.std.proofs.Common.{◌∙◌, length, map, ap, arith}
use Rattle.hold_shapes.specs.Gather.{content_at}
use Rattle.hold_shapes.specs.Runs.{all_origins}
use Rattle.hold_shapes.proofs.Pieces.{around-of, below-around, length-around, gathered-around, piece-length, on-ok}
use Rattle.hold_shapes.proofs.gathering.gather.Goals as goal

pub pieces-requires-2-clause-below : goal.pieces-requires-2-clause-below
pieces-requires-2-clause-below g c =
    let n = length c.args.items.now in
    let at = c.kept_front-at.result.0 in
    let to = c.kept_back-to.result.0 in
    let m = all_origins c.kept_back-to.result.1.now in
    let e = around-of n c.len.result at to m (all_origins c.kept_front-at.result.1.now) (all_origins c.runs-runs.result.now) c.args.from.now
    c.runs-runs.ensures.value c.kept_front-at.ensures c.kept_back-to.ensures.origins c.len.ensures in
    below-around n at to m c.args.from.now e c.requires

pub replace_part-requires-clause-fits : goal.replace_part-requires-clause-fits
replace_part-requires-clause-fits g c =
    let f = g.T.Twin.meaning in
    let n = length c.args.items.now in
    let at = c.kept_front-at.result.0 in
    let to = c.kept_back-to.result.0 in
    let m = all_origins c.kept_back-to.result.1.now in
    let e = around-of n c.len.result at to m (all_origins c.kept_front-at.result.1.now) (all_origins c.runs-runs.result.now) c.args.from.now
    c.runs-runs.ensures.value c.kept_front-at.ensures c.kept_back-to.ensures.origins c.len.ensures in
    let all = length-around n at to m c.args.from.now e in
    let part = piece-length f (content_at (map f c.args.items.now) (f c.args.fresh.now)) c.in_ok-inner.inner m c.in_ok-inner.ensures in
    omega (arith, all, part, c.runs-runs.ensures.fits)

pub returns : goal.returns
returns g c =
    let f = g.T.Twin.meaning in
    let n = length c.args.items.now in
    let at = c.kept_front-at.result.0 in
    let to = c.kept_back-to.result.0 in
    let m = all_origins c.kept_back-to.result.1.now in
    let e = around-of n c.len.result at to m (all_origins c.kept_front-at.result.1.now) (all_origins c.runs-runs.result.now) c.args.from.now
    c.runs-runs.ensures.value c.kept_front-at.ensures c.kept_back-to.ensures.origins c.len.ensures in
    on-ok c.replace_part.result
    (λ list h. ap (map f) h ∙ gathered-around f (f c.args.fresh.now) c.args.items.now c.in_ok-inner.inner at to m c.args.from.now e c.requires c.in_ok-inner.ensures)
    c.replace_part.ensures

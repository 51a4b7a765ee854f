use Rattle.std.proofs.Common.{◌≡◌, ◌∙◌, All, length, map, take, drop, replicate, ap, sym, subst}
use Rattle.hold_shapes.specs.Gather.{IsBelow, content_at}
use Rattle.hold_shapes.specs.Runs.{run_origins}
use Rattle.hold_shapes.proofs.Pieces.{kept-piece, fresh-piece, on-ok}
use Rattle.hold_shapes.proofs.gathering.piece.Goals as goal

pub kept-requires : goal.kept-requires
kept-requires g c =
    subst (λ o. All (IsBelow (length c.args.items.now)) (run_origins o c.run.inside.count)) c.in-Old.is
    (subst (All (IsBelow (length c.args.items.now))) (sym c.run.view_is) c.requires)

pub returns-in-Old : goal.returns-in-Old
returns-in-Old g c =
    let f = g.T.Twin.meaning in
    let fresh = f c.args.fresh.now in
    let below = subst (λ o. All (IsBelow (length c.args.items.now)) (run_origins o c.run.inside.count)) c.in-Old.is
    (subst (All (IsBelow (length c.args.items.now))) (sym c.run.view_is) c.requires) in
    let gathered : map f (take c.run.inside.count (drop c.in-Old.first c.args.items.now)) ≡ map (content_at (map f c.args.items.now) fresh) c.args.run.now
    = rw (← c.run.view_is, c.in-Old.is) (kept-piece f fresh c.args.items.now c.in-Old.first c.run.inside.count below) in
    on-ok c.kept.result (λ list e. ap (map f) e ∙ gathered) c.kept.ensures

pub returns-in_ok-copies-in-Fresh : goal.returns-in_ok-copies-in-Fresh
returns-in_ok-copies-in-Fresh g c =
    let f = g.T.Twin.meaning in
    let items = map f c.args.items.now in
    let fresh = f c.args.fresh.now in
    let gathered : map (content_at items fresh) c.args.run.now ≡ replicate c.run.inside.count fresh
    = rw (← c.run.view_is, c.in-Fresh.is) (fresh-piece items fresh c.run.inside.count) in
    on-ok c.from_vec.result (λ list e. ap (map f) e ∙ c.in_ok-copies-in-Fresh.ensures ∙ sym gathered) c.from_vec.ensures

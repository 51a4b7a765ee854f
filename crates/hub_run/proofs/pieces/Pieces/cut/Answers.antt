use Rattle.std.proofs.Common.{arith}
use Rattle.hub_run.proofs.HeldPieces.{cut_many, cut_few}
use Rattle.hub_run.proofs.pieces.Pieces.cut.Goals as goal

pub returns-then-len-ge-MOST_VIEWS : goal.returns-then-len-ge-MOST_VIEWS
returns-then-len-ge-MOST_VIEWS c = λ ended begun h.
    let k = c.args.self.now in
    cut_many k.is_many k.ended.items k.begun ended begun c.requires.few h (omega (arith, c.if-len-ge-MOST_VIEWS.true, c.len.ensures))

pub returns : goal.returns
returns c = λ ended begun h.
    let k = c.args.self.now in
    let more = cut_few k.is_many k.ended.items k.begun c.new.result ended begun c.requires.few h (omega (arith, c.if-len-ge-MOST_VIEWS.false, c.len.ensures)) c.new.ensures in
    rw (c.in_ok-push.ensures.items, c.replace-begun.ensures.value, c.replace-begun.ensures.after) more

use Rattle.embed_session.proofs.CutTexts.{cut_byte, other_byte}
use Rattle.embed_session.proofs.records.take_byte.Goals as goal

pub returns-then-byte-eq10 : goal.returns-then-byte-eq10
returns-then-byte-eq10 c rest =
    rw (c.in_ok-push.ensures.items, c.from_vec.ensures, c.new.ensures.items)
    (cut_byte c.args.texts.now.items c.args.begun.items c.args.byte rest c.if-byte-eq10.true)

pub returns : goal.returns
returns c rest =
    rw c.in_ok-push-2.ensures.items (other_byte c.args.texts.now.items c.args.begun.items c.args.byte rest c.if-byte-eq10.false)

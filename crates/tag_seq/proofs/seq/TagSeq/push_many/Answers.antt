use Rattle.std.proofs.Common.{arith, refl}
use Rattle.tag_seq.proofs.Making.{replicate_first}
use Rattle.tag_seq.proofs.seq.TagSeq.push_many.Goals as goal

pub returns-clause-done : goal.returns-clause-done
returns-clause-done c = rw (c.in_ok-root.ensures, c.in_ok-more.ensures, ← c.self.view_is, replicate_first c.args.count c.args.tag (omega arith)) refl

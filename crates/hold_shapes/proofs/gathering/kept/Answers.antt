use Rattle.std.proofs.Common.{length, arith}
use Rattle.hold_shapes.proofs.Pieces.{kept-within}
use Rattle.hold_shapes.proofs.gathering.kept.Goals as goal

pub part-requires : goal.part-requires
part-requires g c = kept-within (length c.args.items.now) c.args.first c.args.count c.requires (omega arith)

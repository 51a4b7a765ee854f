use Rattle.std.proofs.Common.{sym, arith}
use Rattle.file_patches.proofs.Indexes.{past_index}
use Rattle.file_patches.proofs.places.index_of.Goals as goal

pub returns-in-Err-clause-index : goal.returns-in-Err-clause-index
returns-in-Err-clause-index c =
    sym (past_index c.args.text.now c.args.bound _ c.parse.result (sym c.if-not-is_index.ensures) c.parse.ensures.value.0 c.in-Err.is (omega (arith, c.ranges.bound.fits)))

use Rattle.std.proofs.Common.{sym}
use Rattle.program_terms.specs.Views.{lens_tree}
use Rattle.lens_types.specs.Entries.{earlier_tree}
use Rattle.lens_types.proofs.PartCounts.{lens_count_none, lens_count_some}
use Rattle.lens_types.proofs.size.counted_lens.Goals as goal

pub overflow_sub-result : goal.overflow_sub-result
overflow_sub-result c = (lens_count_some (earlier_tree c.args.earlier.now) (lens_tree c.args.lens.now) c.in_ok-room.room (sym c.in_ok-room.ensures)).0

pub returns-in_err-room : goal.returns-in_err-room
returns-in_err-room c = rw c.from_residual.ensures (lens_count_none (earlier_tree c.args.earlier.now) (lens_tree c.args.lens.now) (sym c.in_err-room.ensures))

pub returns : goal.returns
returns c = (lens_count_some (earlier_tree c.args.earlier.now) (lens_tree c.args.lens.now) c.in_ok-room.room (sym c.in_ok-room.ensures)).1

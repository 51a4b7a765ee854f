use Rattle.std.proofs.Common.{sym}
use Rattle.program_terms.specs.Views.{type_tree}
use Rattle.lens_types.specs.Entries.{earlier_tree}
use Rattle.lens_types.proofs.PartCounts.{type_count_none, type_count_some}
use Rattle.lens_types.proofs.size.counted_type.Goals as goal

pub overflow_sub-result : goal.overflow_sub-result
overflow_sub-result c = (type_count_some (earlier_tree c.args.earlier.now) (type_tree c.args.ty.now) c.in_ok-room.room (sym c.in_ok-room.ensures)).0

pub returns-in_err-room : goal.returns-in_err-room
returns-in_err-room c = rw c.from_residual.ensures (type_count_none (earlier_tree c.args.earlier.now) (type_tree c.args.ty.now) (sym c.in_err-room.ensures))

pub returns : goal.returns
returns c = (type_count_some (earlier_tree c.args.earlier.now) (type_tree c.args.ty.now) c.in_ok-room.room (sym c.in_ok-room.ensures)).1

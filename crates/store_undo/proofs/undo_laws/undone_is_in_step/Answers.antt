use Rattle.store_undo.proofs.Decided.{in_step_after}
use Rattle.store_undo.proofs.undo_laws.undone_is_in_step.Goals as goal

pub returns : goal.returns
returns c held u after back is = in_step_after held u after back is

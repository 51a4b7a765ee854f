use Rattle.std.proofs.Common.{sym, subst}
use Rattle.hub_undo.specs.HubUndoing.{hub_undo_refusal}
use Rattle.hub_undo.proofs.Makings.{refused_fault}
use Rattle.hub_undo.proofs.making.make.Goals as goal
use Rattle.store_run.specs.Making.{IsMakingFault}

pub make_opened-requires : goal.make_opened-requires
make_opened-requires c = record { stood = c.in-Ok.ensures }

pub returns-in-Err : goal.returns-in-Err
returns-in-Err c =
    subst (IsMakingFault (hub_undo_refusal c.args.count c.args.records.now)) (sym c.making_fault.ensures) (refused_fault c.args.count c.args.records.now c.in-Err.fault c.in-Err.ensures)

use Rattle.std.proofs.Common.{ap, sym}
use Rattle.hub_session.specs.HubStates.{hub_counted, hub_opened_as}
use Rattle.hub_session.proofs.HubOpenings.{fault_opens}
use Rattle.hub_session.proofs.opening.open.Goals as goal

pub returns-in-Ok-clause-stands : goal.returns-in-Ok-clause-stands
returns-in-Ok-clause-stands c = ap hub_opened_as (rw c.as_slice.ensures at c.in-Ok.ensures.stands)

pub returns-in-Ok-clause-count : goal.returns-in-Ok-clause-count
returns-in-Ok-clause-count c = sym (ap hub_counted (rw c.as_slice.ensures at c.in-Ok.ensures.stands))

pub returns-in-Err-clause-stands : goal.returns-in-Err-clause-stands
returns-in-Err-clause-stands c =
    fault_opens c.args.payloads.now c.in-Err.fault c.stored_fault.result (rw c.as_slice.ensures at c.in-Err.ensures.stands) c.stored_fault.ensures

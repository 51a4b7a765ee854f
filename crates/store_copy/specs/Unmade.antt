-- Why nothing is made of payloads, and what that means for a command that opens a store.
use Rattle.store_run.specs.declared.opening.OpenFault.{OpenFault}
use Rattle.store_run.specs.declared.opening.OpenFault.TheVariants as opening
use Rattle.store_run.specs.declared.refusals.StoreRefusal.TheVariants.{BadRecord, NotConsistent}
use Rattle.store_run.specs.declared.session.ReopenFault.{ReopenFault}
use Rattle.store_run.specs.declared.session.ReopenFault.TheVariants as reopening
use Rattle.store_run.specs.declared.undo_session.MakingFault.{MakingFault}
use Rattle.store_run.specs.declared.undo_session.MakingFault.TheVariants as making

-- payloads that stand for no session
abbrev pub unmade_by : ReopenFault → MakingFault
unmade_by (reopening.BadRecord number) = making.Refused (BadRecord number)
unmade_by (reopening.NotConsistent number) = making.Refused (NotConsistent number)
unmade_by reopening.NoMemory = making.NoMemory

-- nothing was made of them
abbrev pub unopened_by : MakingFault → OpenFault
unopened_by (making.Refused refusal) = opening.Refused refusal
unopened_by making.NoMemory = opening.NoMemory

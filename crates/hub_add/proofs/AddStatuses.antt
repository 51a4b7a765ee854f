-- The statuses of `add`, of which those of a command that reads no script are some.
use Rattle.std.proofs.Common.{inl, inr, Result, refl}
use Rattle.command_ends.proofs.AmongStatuses.{each}
use Rattle.command_ends.specs.Statuses.{IsStatusAmong, init_statuses, quiet_statuses}
use Rattle.command_ends.specs.declared.status.Status.{Status}
use Rattle.lens_io.specs.declared.failed.TakeFault.{TakeFault}
use Rattle.lens_io.specs.declared.failed.TakeFault.TheVariants as taking
use Rattle.lens_io.specs.declared.sink.Sink as OfSink
use Rattle.store_new.specs.Command.{PartMeaning}
use Rattle.store_new.specs.Reading.{status_at}
use Rattle.store_new.specs.ScriptReading.{RefusesWith}

pub quiet_inits : (status : Status) → IsStatusAmong quiet_statuses status → IsStatusAmong init_statuses status
quiet_inits status among =
    each (IsStatusAmong init_statuses) quiet_statuses status
    (inl refl, (inr (inr (inl refl)), (inr (inr (inr (inr (inl refl)))), (inr (inr (inr (inr (inr (inl refl))))), (inr (inr (inr (inr (inr (inr (inr (inl refl))))))), tt))))) among

-- a program part that is refused
pub refused_among : (part : PartMeaning) {K : Type 0} (sink : OfSink.Ghosts K) (k k' : K) (outcome : Result part.Accepted part.Refusal) (status : Status) → RefusesWith part sink k k' outcome status
    → IsStatusAmong init_statuses status
refused_among part sink k k' outcome status (inl (line, is, inl (same, given))) = inr (inl same)
refused_among part sink k k' outcome status (inl (line, is, inr (same, given))) = inr (inr (inr (inr (inl same))))
refused_among part sink k k' outcome status (inr (same, given)) = inr (inr (inr (inr (inr (inr (inr (inl same)))))))

-- a script that was not read to its end
pub stopped_among : (fault : TakeFault) → IsStatusAmong init_statuses (status_at fault)
stopped_among taking.SourceFault = inr (inr (inr (inl refl)))
stopped_among taking.TooLong = inr (inr (inr (inr (inr (inr (inl refl))))))
stopped_among taking.NoMemory = inr (inr (inr (inr (inr (inr (inr (inl refl)))))))

-- What a command that may end by one of some statuses never ends with.
use Rattle.command_ends.proofs.AmongStatuses.{each}
use Rattle.command_ends.specs.Statuses.{IsStatusAmong, apply_statuses, import_statuses, init_statuses, quiet_statuses, script_statuses}
use Rattle.std.proofs.Common.{◌≡◌, inl, inr, Option, Some, None, false, refl}
use Rattle.command_words.specs.declared.orders.Order.{Order}
use Rattle.command_words.specs.declared.orders.Order.TheVariants as order
use Rattle.editlens_main.specs.Commands.{uses_disk}
use Rattle.editlens_main.specs.Statuses.{MayEnd, gen_statuses, statuses_of}
use Rattle.command_ends.specs.declared.status.Status.{Status}
use Rattle.command_ends.specs.declared.status.Status.TheVariants.{Usage, SourceFault, DiskFault, NoMemory}

abbrev Not : Status → Status → Type 0
Not other status = status ≡ other → ⊥

pub gen_reads_nothing : (status : Status) → IsStatusAmong gen_statuses status → status ≡ SourceFault → ⊥
gen_reads_nothing status among = each (Not SourceFault) gen_statuses status ((λ e. cc), ((λ e. cc), ((λ e. cc), tt))) among

pub script_stores_nothing : (status : Status) → IsStatusAmong script_statuses status → status ≡ DiskFault → ⊥
script_stores_nothing status among = each (Not DiskFault) script_statuses status ((λ e. cc), ((λ e. cc), ((λ e. cc), ((λ e. cc), ((λ e. cc), ((λ e. cc), ((λ e. cc), tt))))))) among

pub gen_stores_nothing : (status : Status) → IsStatusAmong gen_statuses status → status ≡ DiskFault → ⊥
gen_stores_nothing status among = each (Not DiskFault) gen_statuses status ((λ e. cc), ((λ e. cc), ((λ e. cc), tt))) among

-- ---- for any words

script_not_usage : (status : Status) → IsStatusAmong script_statuses status → status ≡ Usage → ⊥
script_not_usage status among =
    each (Not Usage) script_statuses status ((λ e. cc), ((λ e. cc), ((λ e. cc), ((λ e. cc), ((λ e. cc), ((λ e. cc), ((λ e. cc), tt))))))) among

init_not_usage : (status : Status) → IsStatusAmong init_statuses status → status ≡ Usage → ⊥
init_not_usage status among =
    each (Not Usage) init_statuses status ((λ e. cc), ((λ e. cc), ((λ e. cc), ((λ e. cc), ((λ e. cc), ((λ e. cc), ((λ e. cc), ((λ e. cc), tt)))))))) among

import_not_usage : (status : Status) → IsStatusAmong import_statuses status → status ≡ Usage → ⊥
import_not_usage status among =
    each (Not Usage) import_statuses status ((λ e. cc), ((λ e. cc), ((λ e. cc), ((λ e. cc), ((λ e. cc), ((λ e. cc), ((λ e. cc), ((λ e. cc), ((λ e. cc), tt))))))))) among

apply_not_usage : (status : Status) → IsStatusAmong apply_statuses status → status ≡ Usage → ⊥
apply_not_usage status among =
    each (Not Usage) apply_statuses status ((λ e. cc), ((λ e. cc), ((λ e. cc), ((λ e. cc), ((λ e. cc), ((λ e. cc), ((λ e. cc), ((λ e. cc), tt)))))))) among

quiet_not_usage : (status : Status) → IsStatusAmong quiet_statuses status → status ≡ Usage → ⊥
quiet_not_usage status among =
    each (Not Usage) quiet_statuses status ((λ e. cc), ((λ e. cc), ((λ e. cc), ((λ e. cc), ((λ e. cc), tt))))) among

gen_not_usage : (status : Status) → IsStatusAmong gen_statuses status → status ≡ Usage → ⊥
gen_not_usage status among =
    each (Not Usage) gen_statuses status ((λ e. cc), ((λ e. cc), ((λ e. cc), tt))) among

-- only words that name no command end with Usage
pub only_usage : (q : Option Order) (status : Status) → MayEnd q status → status ≡ Usage → q ≡ None
only_usage None status may e = refl
only_usage (Some order.Run) status may e = absurd (script_not_usage status may e)
only_usage (Some order.Check) status may e = absurd (script_not_usage status may e)
only_usage (Some (order.Gen count seed)) status may e = absurd (gen_not_usage status may e)
only_usage (Some order.Init) status may e = absurd (init_not_usage status may e)
only_usage (Some order.Import) status may e = absurd (import_not_usage status may e)
only_usage (Some order.Apply) status may e = absurd (apply_not_usage status may e)
only_usage (Some order.Show) status may e = absurd (quiet_not_usage status may e)
only_usage (Some order.Verify) status may e = absurd (quiet_not_usage status may e)
only_usage (Some order.Pack) status may e = absurd (quiet_not_usage status may e)
only_usage (Some (order.Undo count)) status may e = absurd (quiet_not_usage status may e)
only_usage (Some order.Hub) status may e = absurd (script_not_usage status may e)
only_usage (Some order.Link) status may e = absurd (script_not_usage status may e)

-- a command that does not use the disk never ends with its fault
pub never_disk : (q : Option Order) (status : Status) → MayEnd q status → uses_disk q ≡ false → status ≡ DiskFault → ⊥
never_disk None status may unused = each (Not DiskFault) (statuses_of None) status ((λ e. cc), ((λ e. cc), ((λ e. cc), tt))) may
never_disk (Some order.Run) status may unused = script_stores_nothing status may
never_disk (Some order.Check) status may unused = script_stores_nothing status may
never_disk (Some (order.Gen count seed)) status may unused = gen_stores_nothing status may
never_disk (Some order.Init) status may unused = cc
never_disk (Some order.Import) status may unused = cc
never_disk (Some order.Apply) status may unused = cc
never_disk (Some order.Show) status may unused = cc
never_disk (Some order.Verify) status may unused = cc
never_disk (Some order.Pack) status may unused = cc
never_disk (Some (order.Undo count)) status may unused = cc
never_disk (Some order.Hub) status may unused = script_stores_nothing status may
never_disk (Some order.Link) status may unused = script_stores_nothing status may

-- memory may run out in any command
pub memory_may_end : (q : Option Order) → MayEnd q NoMemory
memory_may_end None = inr (inr (inl refl))
memory_may_end (Some order.Run) = inr (inr (inr (inr (inr (inr (inl refl))))))
memory_may_end (Some order.Check) = inr (inr (inr (inr (inr (inr (inl refl))))))
memory_may_end (Some (order.Gen count seed)) = inr (inr (inl refl))
memory_may_end (Some order.Init) = inr (inr (inr (inr (inr (inr (inr (inl refl)))))))
memory_may_end (Some order.Import) = inr (inr (inr (inr (inr (inr (inr (inr (inl refl))))))))
memory_may_end (Some order.Apply) = inr (inr (inr (inr (inr (inr (inr (inl refl)))))))
memory_may_end (Some order.Show) = inr (inr (inr (inr (inl refl))))
memory_may_end (Some order.Verify) = inr (inr (inr (inr (inl refl))))
memory_may_end (Some order.Pack) = inr (inr (inr (inr (inl refl))))
memory_may_end (Some (order.Undo count)) = inr (inr (inr (inr (inl refl))))
memory_may_end (Some order.Hub) = inr (inr (inr (inr (inr (inr (inl refl))))))
memory_may_end (Some order.Link) = inr (inr (inr (inr (inr (inr (inl refl))))))

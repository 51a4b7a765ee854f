-- What holds of a status that is among some.
use Rattle.std.proofs.Common.{◌≡◌, ◌⊎◌, inl, inr, List, [], ◌∷◌, refl, sym, subst}
use Rattle.command_ends.specs.Statuses.{IsStatusAmong, apply_statuses, quiet_statuses}
use Rattle.command_ends.specs.declared.status.Status.{Status}
use Rattle.command_ends.specs.declared.status.Status.TheVariants.{SourceFault}

-- each of these has P
abbrev pub Each : (Status → Type 0) → List Status → Type 0
Each P [] = Unit {0}
Each P (one ∷ more) = P one × Each P more

pub each : (P : Status → Type 0) (list : List Status) (status : Status) → Each P list → IsStatusAmong list status → P status
each P [] status all among = absurd among
each P (one ∷ more) status all (inl e) = subst P (sym e) all.0
each P (one ∷ more) status all (inr among) = each P more status all.1 among

-- a command that reads no journal ends as one may that reads one
pub quiet_applies : (status : Status) → IsStatusAmong quiet_statuses status → IsStatusAmong apply_statuses status
quiet_applies status among =
    each (IsStatusAmong apply_statuses) quiet_statuses status
    (inl refl, (inr (inr (inl refl)), (inr (inr (inr (inr (inl refl)))), (inr (inr (inr (inr (inr (inl refl))))), (inr (inr (inr (inr (inr (inr (inr (inl refl))))))), tt))))) among

pub quiet_reads_nothing : (status : Status) → IsStatusAmong quiet_statuses status → status ≡ SourceFault → ⊥
quiet_reads_nothing status among = each (λ s. s ≡ SourceFault → ⊥) quiet_statuses status ((λ e. cc), ((λ e. cc), ((λ e. cc), ((λ e. cc), ((λ e. cc), tt))))) among

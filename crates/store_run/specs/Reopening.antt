-- Why payloads are refused.
use Rattle.std.specs.Prelude.{◌≡◌, Result, Err}
use Rattle.store_run.specs.declared.session.ReopenFault.{ReopenFault}
use Rattle.store_run.specs.declared.session.ReopenFault.TheVariants.{BadRecord, NotConsistent, NoMemory}

-- the fault is the one that there is; running out of memory says nothing
abbrev pub IsReopenFault : {T : Type 0} → Result T ReopenFault → ReopenFault → Type 0
IsReopenFault wanted (BadRecord number) = wanted ≡ Err (BadRecord number)
IsReopenFault wanted (NotConsistent number) = wanted ≡ Err (NotConsistent number)
IsReopenFault wanted NoMemory = Unit {0}

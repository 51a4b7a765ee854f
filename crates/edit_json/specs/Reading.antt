-- What a reader returns.
use Rattle.std.specs.Prelude.{◌≡◌, Option, Some, None, Result, Ok, Err}
use Rattle.edit_json.specs.declared.fault.EditFault.{EditFault}
use Rattle.edit_json.specs.declared.fault.EditFault.TheVariants.{NotAnEdit, NoMemory}

-- `NotAnEdit` if and only if there is nothing to read; running out of memory says nothing
abbrev pub Refuses : {Y : Type 0} → EditFault → Option Y → Type 0
Refuses NotAnEdit read = read ≡ None
Refuses NoMemory read = Unit {0}

-- what is returned is what there is to read
abbrev pub Gives : {X Y : Type 0} → (X → Y) → Result X EditFault → Option Y → Type 0
Gives view (Ok x) read = read ≡ Some (view x)
Gives view (Err fault) read = Refuses fault read

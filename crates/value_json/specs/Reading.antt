-- What a reader returns.
use Rattle.std.specs.Prelude.{◌≡◌, Option, Some, None, Result, Ok, Err}
use Rattle.value_json.specs.declared.fault.DocFault.{DocFault}
use Rattle.value_json.specs.declared.fault.DocFault.TheVariants.{NotOfType, NoMemory}

-- `NotOfType` if and only if there is nothing to read; running out of memory says nothing
abbrev pub Refuses : {Y : Type 0} → DocFault → Option Y → Type 0
Refuses NotOfType read = read ≡ None
Refuses NoMemory read = Unit {0}

-- what is returned is what there is to read
abbrev pub Gives : {X Y : Type 0} → (X → Y) → Result X DocFault → Option Y → Type 0
Gives view (Ok x) read = read ≡ Some (view x)
Gives view (Err fault) read = Refuses fault read

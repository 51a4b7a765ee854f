-- What a reader returns.
use Rattle.std.specs.Prelude.{◌≡◌, Option, Some, None, Result, Ok, Err}
use Rattle.edit_journal.specs.declared.fault.EntryFault.{EntryFault}
use Rattle.edit_journal.specs.declared.fault.EntryFault.TheVariants.{LineTooLong, NotJson, NotAnEntry, NotAnEdit}
use Rattle.edit_journal.specs.declared.fault.EntryFault.TheVariants.{NoMemory}
use Rattle.edit_journal.specs.EntryJson.{LineFault, line_too_long, not_json, not_an_entry, not_an_edit}

-- what a fault says of the line; running out of memory says nothing of it
abbrev pub cause_of : EntryFault → Option LineFault
cause_of LineTooLong = Some line_too_long
cause_of NotJson = Some not_json
cause_of NotAnEntry = Some not_an_entry
cause_of NotAnEdit = Some not_an_edit
cause_of NoMemory = None

-- what there is to read is refused for this cause, where there is one
abbrev pub IsRefused : {Y : Type 0} → Option LineFault → Result Y LineFault → Type 0
IsRefused None read = Unit {0}
IsRefused (Some cause) read = read ≡ Err cause

-- what is returned is what there is to read, and each refusal is the one that there is
abbrev pub Gives : {X Y : Type 0} → (X → Y) → Result X EntryFault → Result Y LineFault → Type 0
Gives view (Ok x) read = read ≡ Ok (view x)
Gives view (Err fault) read = IsRefused (cause_of fault) read

-- What a reader of events returns.
use Rattle.std.specs.Prelude.{◌≡◌, Option, Some, None, Result, Ok, Err}
use Rattle.edit_journal.specs.declared.fault.EntryFault.{EntryFault}
use Rattle.edit_journal.specs.declared.fault.EntryFault.TheVariants as entry
use Rattle.run_link.specs.declared.fault.EventFault.{EventFault}
use Rattle.run_link.specs.declared.fault.EventFault.TheVariants.{LineTooLong, NotJson, NotAnEvent, NotAnEdit, NoMemory}
use Rattle.run_link.specs.EventJson.{EventCause, line_too_long, not_json, not_an_event, not_an_edit}

-- the fault of an event's line, for that of an entry's
abbrev pub event_fault : EntryFault → EventFault
event_fault entry.LineTooLong = LineTooLong
event_fault entry.NotJson = NotJson
event_fault entry.NotAnEntry = NotAnEvent
event_fault entry.NotAnEdit = NotAnEdit
event_fault entry.NoMemory = NoMemory

-- what a fault says of the line; running out of memory says nothing of it
abbrev pub cause_of : EventFault → Option EventCause
cause_of LineTooLong = Some line_too_long
cause_of NotJson = Some not_json
cause_of NotAnEvent = Some not_an_event
cause_of NotAnEdit = Some not_an_edit
cause_of NoMemory = None

-- what there is to read is refused for this cause, if there is one
abbrev pub IsRefused : {Y : Type 0} → Option EventCause → Result Y EventCause → Type 0
IsRefused None read = Unit {0}
IsRefused (Some cause) read = read ≡ Err cause

-- what is returned is what there is to read, and each refusal is the one that there is
abbrev pub Gives : {X Y : Type 0} → (X → Y) → Result X EventFault → Result Y EventCause → Type 0
Gives view (Ok x) read = read ≡ Ok (view x)
Gives view (Err fault) read = IsRefused (cause_of fault) read

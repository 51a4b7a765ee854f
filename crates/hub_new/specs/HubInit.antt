-- What the command `init` of a hub makes of a script. Read it from the end: `StartsHub`, `hub_command`, then
-- `BeginsHub`.
use Rattle.std.specs.Prelude.{◌≡◌, ℕ, ◌≤◌, List, [], ◌∷◌, length, map, IfSome, Some, Ok}
use Rattle.lens_io.specs.Calls.{Took, IsRead, Gave}
use Rattle.lens_io.specs.declared.disk.Disk as OfDisk
use Rattle.lens_io.specs.declared.sink.Sink as OfSink
use Rattle.lens_io.specs.declared.source.Source as OfSource
use Rattle.serde_json.specs.Written.{compact_text}
use Rattle.edit_journal.specs.EntryJson.{tree_of_text}
use Rattle.lens_forms.specs.Forms.{FormTree}
use Rattle.script_input.specs.declared.limits.TheConstants.{MOST_BYTES}
use Rattle.program_terms.specs.Terms.{ProgramTree}
use Rattle.program_writing.specs.Canonical.{canonical}
use Rattle.script_input.specs.Lines.{program_part}
use Rattle.hub_run.specs.Runs.{first_state, hub_state_text}
use Rattle.hub_records.specs.HubRecords.{tree_of_programs}
use Rattle.hub_records.specs.HubStands.{hub_at_start, stands_as_hub}
use Rattle.store_new.specs.Command.{Command}
use Rattle.store_new.specs.NewStores.{HoldsStore}
use Rattle.hub_new.specs.HubParts.{IsAcceptedHub, view_programs}
use Rattle.store_run.specs.Devices.{Devices}

-- the payload of some programs: their canonical texts, in a store of version 1
abbrev pub programs_payload : List ProgramTree → List ℕ
programs_payload programs = compact_text (tree_of_programs (map canonical programs))

-- The store of a script whose program part is accepted: the payload of its programs alone. The lines are the state
-- lines of the first hub of their lenses, and the payload stands for that hub.
pub record BeginsHub (bytes : List ℕ) (payloads : List (List ℕ)) (lines : List ℕ) : Type 0 where
  pub programs : List ProgramTree
  pub forms : List FormTree
  pub accepted : IsAcceptedHub (program_part bytes) programs forms
  pub are : payloads ≡ programs_payload programs ∷ []
  pub written : lines ≡ hub_state_text (first_state forms)
  pub stand : stands_as_hub payloads ≡ Ok (hub_at_start forms)

-- `init` refuses no script whose program part is accepted
abbrev pub hub_command : Command
hub_command = record { part = view_programs; makes = BeginsHub; refuses = λ bytes line. ⊥ }

-- for the helpers: the payload of the programs, which reads as its tree, and the state lines of the first hub
pub record IsFirstHub (programs : List ProgramTree) (forms : List FormTree) (payloads : List (List ℕ))
    (lines : List ℕ) : Type 0 where
  pub are : payloads ≡ programs_payload programs ∷ []
  pub reads : tree_of_text (programs_payload programs) ≡ Some (tree_of_programs (map canonical programs))
  pub written : lines ≡ hub_state_text (first_state forms)

-- The source was read to its end, and gave these bytes. The disk was empty, and holds the payload of the programs
-- alone. The state lines of the first hub were written, for which the payload stands.
pub record StartsHub {S K D : Type 0} (source : OfSource.Ghosts S) (sink : OfSink.Ghosts K) (disk : OfDisk.Ghosts D)
    (old new : Devices S K D) : Type 0 where
  pub bytes : List ℕ
  pub took : Took source old.source new.source bytes
  pub read : IsRead source old.source new.source
  pub within : length bytes ≤ MOST_BYTES
  pub was_empty : IfSome (disk.content old.disk) (λ before. length before ≡ 0)
  pub programs : List ProgramTree
  pub forms : List FormTree
  pub accepted : IsAcceptedHub (program_part bytes) programs forms
  pub stored : HoldsStore disk new.disk (programs_payload programs ∷ [])
  pub given : Gave sink old.sink new.sink (hub_state_text (first_state forms))
  pub stand : stands_as_hub (programs_payload programs ∷ []) ≡ Ok (hub_at_start forms)

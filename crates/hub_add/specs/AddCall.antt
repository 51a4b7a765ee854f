-- The whole command `add`: what it comes to, by its status. Read it from the end: `IsAddCause`, `IsSafeAdd`,
-- `AddsView`,
-- `AddEnds`, its four cases, then `IsViewMore`.
use Rattle.std.specs.Prelude.{◌≡◌, ◌⊎◌, ℕ, ◌+◌, ◌≤◌, List, [], ◌∷◌, ◌++◌, length, Some, None, Ok, IfSome}
use Rattle.lens_io.specs.Calls.{Took, IsRead, IsUnasked, Gave}
use Rattle.lens_io.specs.DiskRuns.{LeavesOnly}
use Rattle.lens_io.specs.declared.disk.Disk as OfDisk
use Rattle.lens_io.specs.declared.sink.Sink as OfSink
use Rattle.lens_io.specs.declared.source.Source as OfSource
use Rattle.serde_json.specs.Written.{compact_text}
use Rattle.edit_journal.specs.EntryJson.{tree_of_text}
use Rattle.gate_log.specs.LogOnDisk.{HoldsPayloads}
use Rattle.lens_forms.specs.Forms.{FormTree}
use Rattle.program_terms.specs.Terms.{ProgramTree}
use Rattle.program_writing.specs.Canonical.{canonical}
use Rattle.script_input.specs.Lines.{program_part}
use Rattle.script_input.specs.declared.limits.TheConstants.{MOST_BYTES}
use Rattle.view_hub.specs.Hubs.{HubTree}
use Rattle.view_hub.specs.Laws.{IsHub}
use Rattle.hub_run.specs.FormLenses.{form_lens}
use Rattle.hub_run.specs.Runs.{HubState, hub_state_text}
use Rattle.hub_records.specs.HubRecords.{tree_of_added}
use Rattle.hub_records.specs.HubStands.{view_more}
use Rattle.hub_session.specs.HubStates.{hub_stands_for}
use Rattle.store_run.specs.Devices.{Devices}
use Rattle.store_run.specs.MoreCall.{ExitsMore, IsSafeMore, MoreEnds}
use Rattle.store_run.specs.MoreCauses.{OneHasNoRoom}
use Rattle.store_new.specs.NewEnds.{GivesLine, RefusesAtOnce, StopsAfter}
use Rattle.store_new.specs.Scripts.{RefusesPartWith}
use Rattle.store_run.specs.Refusals.{IsOpening, FailsUnopened}
use Rattle.store_run.specs.Rooms.{most_bytes}
use Rattle.hub_add.specs.AddedView.{IsAcceptedView, view_part}
use Rattle.command_ends.specs.declared.status.Status.{Status}
use Rattle.command_ends.specs.declared.status.Status.TheVariants as ending

-- the payload of the program of one view more: its canonical text
abbrev pub added_payload : ProgramTree → List ℕ
added_payload program = compact_text (tree_of_added (canonical program))

-- the state with one view more, of this form, and this hub
abbrev pub state_with_view : HubState → FormTree → HubTree → HubState
state_with_view state form hub = record { forms = state.forms ++ form ∷ []; hub = hub }

-- For the helpers: the payload of the program, which reads as its tree, and the state lines of the hub with its view.
pub record IsViewText (state : HubState) (program : ProgramTree) (form : FormTree) (payload lines : List ℕ) : Type 0
  where
    pub hub : HubTree
    pub made : view_more form state.hub ≡ Some hub
    pub is : payload ≡ added_payload program
    pub reads : tree_of_text payload ≡ Some (tree_of_added (canonical program))
    pub written : lines ≡ hub_state_text (state_with_view state form hub)

-- The hub with the view of this form behind the others is in step, and the payloads with that of the program behind
-- them represent it.
pub record IsViewMore (before : List (List ℕ)) (state : HubState) (program : ProgramTree) (form : FormTree)
    (hub : HubTree) : Type 0 where
  pub made : view_more form state.hub ≡ Some hub
  pub in_step : IsHub form_lens (state.forms ++ form ∷ []) hub
  pub stand : hub_stands_for (before ++ added_payload program ∷ []) ≡ Ok (state_with_view state form hub, None)

module _ {K D : Type 0} (sink : OfSink.Ghosts K) (disk : OfDisk.Ghosts D) (old new : K × D) where
  -- For the helpers: the end of the call behind a program that is accepted, over a log that stands.
  pub record EndsViewStored (before : List (List ℕ)) (state : HubState) (program : ProgramTree) (form : FormTree)
      (status : Status) : Type 0 where
    pub payload : List ℕ
    pub lines : List ℕ
    pub text : IsViewText state program form payload lines
    pub ends : MoreEnds sink disk old new before payload lines status

  -- the same, or memory ran out before
  abbrev pub EndsAdded : List (List ℕ) → HubState → ProgramTree → FormTree → Status → Type 0
  EndsAdded before state program form status =
      EndsViewStored before state program form status
      ⊎ (status ≡ ending.NoMemory) × (new.1 ≡ old.1) × Gave sink old.0 new.0 []

module _ {S K D : Type 0} (source : OfSource.Ghosts S) (sink : OfSink.Ghosts K) (disk : OfDisk.Ghosts D)
    (old new : Devices S K D) (before : List (List ℕ)) (state : HubState) (status : Status) where
  -- each image that a crash now may leave holds the payloads from before
  abbrev pub StillHolds : Type 0
  StillHolds = (c : List ℕ) → disk.images new.disk c → HoldsPayloads before c

  -- The store was not opened: the disk failed, or memory ran out. The source was not called, and nothing was written.
  pub record FailsFirst : Type 0 where
    pub unasked : IsUnasked source old.source new.source
    pub opens : IsOpening disk old.disk new.disk
    pub fails : FailsUnopened sink disk (old.sink, old.disk) (new.sink, new.disk) status
    pub holds : (status ≡ ending.DiskFault) ⊎ StillHolds

  -- The script was not read to its end, or memory ran out. Nothing was written.
  pub record StopsReading : Type 0 where
    pub bytes : List ℕ
    pub took : Took source old.source new.source bytes
    pub at_most : length bytes ≤ MOST_BYTES + 1
    pub stops : StopsAfter (view_part state.forms) bytes status
    pub no_disk : status ≡ ending.DiskFault → ⊥
    pub opens : IsOpening disk old.disk new.disk
    pub holds : StillHolds
    pub given : Gave sink old.sink new.sink []

  -- The program part is whole and refused. The line of that refusal was written, and nothing to the disk.
  pub record RefusesView : Type 0 where
    pub bytes : List ℕ
    pub took : Took source old.source new.source bytes
    pub at_most : length bytes ≤ MOST_BYTES + 1
    pub line : List ℕ
    pub refused : RefusesPartWith (view_part state.forms) source old.source new.source bytes line
    pub opens : IsOpening disk old.disk new.disk
    pub holds : StillHolds
    pub given : GivesLine sink old.sink new.sink line ending.ProgramRefused status

  -- The script was read to its end, and its program is accepted. From there the payload was stored and the state lines
  -- of the hub with its view were written, or the call was stopped.
  pub record StoresView : Type 0 where
    pub bytes : List ℕ
    pub took : Took source old.source new.source bytes
    pub read : IsRead source old.source new.source
    pub within : length bytes ≤ MOST_BYTES
    pub program : ProgramTree
    pub form : FormTree
    pub accepted : IsAcceptedView state.forms (program_part bytes) program form
    pub hub : HubTree
    pub more : IsViewMore before state program form hub
    pub exits : ExitsMore sink disk (old.sink, old.disk) (new.sink, new.disk) before (added_payload program)
        (hub_state_text (state_with_view state form hub)) status
    pub safe : IsSafeMore disk old.disk new.disk before (added_payload program)

  -- how the call ends over a store
  abbrev pub AddEnds : Type 0
  AddEnds = FailsFirst ⊎ StopsReading ⊎ RefusesView ⊎ StoresView

-- After Done the script was read to its end, the payload of its program is stored behind those from before, and the
-- state lines of the hub with its view were written.
pub record AddsView {S K D : Type 0} (source : OfSource.Ghosts S) (sink : OfSink.Ghosts K) (disk : OfDisk.Ghosts D)
    (old : S × K) (new : Devices S K D) (before : List (List ℕ)) (state : HubState) : Type 0 where
  pub bytes : List ℕ
  pub took : Took source old.0 new.source bytes
  pub read : IsRead source old.0 new.source
  pub within : length bytes ≤ MOST_BYTES
  pub program : ProgramTree
  pub form : FormTree
  pub accepted : IsAcceptedView state.forms (program_part bytes) program form
  pub hub : HubTree
  pub more : IsViewMore before state program form hub
  pub given : Gave sink old.1 new.sink (hub_state_text (state_with_view state form hub))
  pub kept : IfSome (disk.content new.disk) (HoldsPayloads (before ++ added_payload program ∷ []))

-- an image holds the payloads from before; or these and the payload of a program, and these represent the hub with the
-- view of that program
abbrev pub IsAddImage : List (List ℕ) → HubState → List ℕ → Type 0
IsAddImage before state image =
    HoldsPayloads before image
    ⊎ (program : ProgramTree) × (form : FormTree) × (hub : HubTree)
    × HoldsPayloads (before ++ added_payload program ∷ []) image × IsViewMore before state program form hub

module _ {D : Type 0} (disk : OfDisk.Ghosts D) (old new : D) where
  -- An image that a crash now may leave is such an image. An image of a moment since the start of the call is one of
  -- those, or was possible before the call.
  pub record IsSafeAdd (before : List (List ℕ)) (state : HubState) : Type 0 where
    pub now : (c : List ℕ) → disk.images new c → IsAddImage before state c
    pub moments : LeavesOnly disk old new (λ c. disk.images old c ⊎ IsAddImage before state c)

module _ {S : Type 0} (source : OfSource.Ghosts S) (old new : S) (before : List (List ℕ)) (state : HubState) where
  -- the script was read to its end, and a disk of so many bytes has no room for the payload of its program
  pub record ViewHasNoRoom (most : ℕ) : Type 0 where
    pub bytes : List ℕ
    pub took : Took source old new bytes
    pub read : IsRead source old new
    pub program : ProgramTree
    pub form : FormTree
    pub accepted : IsAcceptedView state.forms (program_part bytes) program form
    pub no_room : OneHasNoRoom most before (added_payload program)

-- after StoreRefused the log had no room for the payload, and after DiskFault the disk had none if its room is known
pub record IsAddCause {S D : Type 0} (source : OfSource.Ghosts S) (disk : OfDisk.Ghosts D) (old new : S × D)
    (before : List (List ℕ)) (state : HubState) (status : Status) : Type 0 where
  pub full : status ≡ ending.StoreRefused → ViewHasNoRoom source old.0 new.0 before state most_bytes
  pub over : status ≡ ending.DiskFault
      → IfSome (disk.room old.1) (λ most. ViewHasNoRoom source old.0 new.0 before state most)

-- a refusal of the program part of one view more, for a hub in this state, is exact and comes at once
abbrev pub RefusesViewAtOnce : {S : Type 0} → OfSource.Ghosts S → S → S → HubState → Status → Type 0
RefusesViewAtOnce source old new state status = RefusesAtOnce (view_part state.forms) source old new status

-- the call came to its end, or refused the program part, or memory ran out
abbrev pub EndsWhole : Status → Type 0
EndsWhole status = (status ≡ ending.Done) ⊎ (status ≡ ending.ProgramRefused) ⊎ (status ≡ ending.NoMemory)

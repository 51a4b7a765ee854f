-- For the helpers of the commands: what was read of a script, and how a refusal is written.
use Rattle.std.specs.Prelude.{◌≡◌, ◌⊎◌, ℕ, ◌+◌, ◌≤◌, List, [], length, Result}
use Rattle.program_accepted.specs.Program.{lens_of}
use Rattle.program_accepted.specs.Refused.{IsKnown, IsProgramRefusal}
use Rattle.program_accepted.specs.declared.program.Refused.{Refused}
use Rattle.lens_forms.specs.Forms.{FormTree}
use Rattle.lens_io.specs.Calls.{Took, IsRead, Gave}
use Rattle.lens_io.specs.declared.failed.TakeFault.{TakeFault}
use Rattle.lens_io.specs.declared.sink.Sink as OfSink
use Rattle.lens_io.specs.declared.source.Source as OfSource
use Rattle.script_input.specs.declared.limits.TheConstants.{MOST_BYTES}
use Rattle.program_terms.specs.Terms.{ProgramTree}
use Rattle.script_input.specs.Coming.{IsWhole}
use Rattle.script_input.specs.Lines.{program_part}
use Rattle.store_new.specs.Command.{PartMeaning}
use Rattle.store_new.specs.NewEnds.{GivesLine, StopsAfter}
use Rattle.store_new.specs.Reading.{status_at}
use Rattle.program_accepted.specs.Program.{IsAccepted}
use Rattle.store_new.specs.Scripts.{IsLineBy, one_program}
use Rattle.store_new.specs.declared.scripts.Unread.{Unread}
use Rattle.store_new.specs.declared.scripts.Unread.TheVariants.{Refused as IsNoProgram, Stopped}
use Rattle.command_ends.specs.declared.status.Status.{Status}
use Rattle.command_ends.specs.declared.status.Status.TheVariants.{ProgramRefused, NoMemory}

-- ---- the refusal of a program part

module _ (part : PartMeaning) {K : Type 0} (sink : OfSink.Ghosts K) (old new : K) where
  -- The outcome is a refusal, and its line was written; or memory ran out before.
  abbrev pub RefusesWith : Result part.Accepted part.Refusal → Status → Type 0
  RefusesWith outcome status =
      ((line : List ℕ) × IsLineBy part outcome line × GivesLine sink old new line ProgramRefused status)
      ⊎ (status ≡ NoMemory) × Gave sink old new []

-- ---- a script

-- the reading stopped after these bytes
pub record ReadsFront (part : PartMeaning) {S : Type 0} (source : OfSource.Ghosts S) (old new : S)
    (fault : TakeFault) : Type 0 where
  pub bytes : List ℕ
  pub took : Took source old new bytes
  pub at_most : length bytes ≤ MOST_BYTES + 1
  pub stops : StopsAfter part bytes (status_at fault)

module _ {S : Type 0} (source : OfSource.Ghosts S) (old new : S) where
  -- The source was read to its end, and the program part is accepted.
  pub record ReadsScript (program : ProgramTree) (form : FormTree) : Type 0 where
    pub bytes : List ℕ
    pub took : Took source old new bytes
    pub read : IsRead source old new
    pub within : length bytes ≤ MOST_BYTES
    pub accepted : IsAccepted (program_part bytes) program form

  -- The program part is whole and refused; or memory ran out.
  pub record ReadsRefused (refused : Refused) : Type 0 where
    pub bytes : List ℕ
    pub took : Took source old new bytes
    pub at_most : length bytes ≤ MOST_BYTES + 1
    pub whole : IsWhole source old new bytes
    pub is : IsProgramRefusal (lens_of (program_part bytes)) refused
    pub known : IsKnown refused

  -- why a script was not read to its end, or has no program
  abbrev pub IsUnread : Unread → Type 0
  IsUnread (IsNoProgram refused) = ReadsRefused refused
  IsUnread (Stopped fault) = ReadsFront one_program source old new fault

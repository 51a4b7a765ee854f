-- For the helpers of `add`: what was read of a script.
use Rattle.std.specs.Prelude.{ℕ, ◌+◌, ◌≤◌, List, length}
use Rattle.lens_forms.specs.Forms.{FormTree}
use Rattle.lens_io.specs.Calls.{Took, IsRead}
use Rattle.lens_io.specs.declared.source.Source as OfSource
use Rattle.program_terms.specs.Terms.{ProgramTree}
use Rattle.script_input.specs.Coming.{IsWhole}
use Rattle.script_input.specs.Lines.{program_part}
use Rattle.script_input.specs.declared.limits.TheConstants.{MOST_BYTES}
use Rattle.hub_run.specs.FoundLenses.{HasRefusalLine, IsRefusedHub}
use Rattle.hub_run.specs.declared.views.HubRefused.{HubRefused}
use Rattle.store_new.specs.ScriptReading.{ReadsFront}
use Rattle.hub_add.specs.AddedView.{IsAcceptedView, added_form, view_part}
use Rattle.hub_new.specs.declared.reading.UnreadHub.{UnreadHub}
use Rattle.hub_new.specs.declared.reading.UnreadHub.TheVariants.{Refused, Stopped}

module _ {S : Type 0} (source : OfSource.Ghosts S) (old new : S) (forms : List FormTree) where
  -- The source was read to its end, and the program part is accepted.
  pub record ReadsView (program : ProgramTree) (form : FormTree) : Type 0 where
    pub bytes : List ℕ
    pub took : Took source old new bytes
    pub read : IsRead source old new
    pub within : length bytes ≤ MOST_BYTES
    pub accepted : IsAcceptedView forms (program_part bytes) program form

  -- The program part is whole and refused; or memory ran out.
  pub record ReadsRefusedView (refused : HubRefused) : Type 0 where
    pub bytes : List ℕ
    pub took : Took source old new bytes
    pub at_most : length bytes ≤ MOST_BYTES + 1
    pub whole : IsWhole source old new bytes
    pub is : IsRefusedHub (added_form forms (program_part bytes)) refused
    pub known : HasRefusalLine refused

  -- why a script was not read to its end, or has no view
  abbrev pub IsUnreadView : UnreadHub → Type 0
  IsUnreadView (Refused refused) = ReadsRefusedView refused
  IsUnreadView (Stopped fault) = ReadsFront (view_part forms) source old new fault

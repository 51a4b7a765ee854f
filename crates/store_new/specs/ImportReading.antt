-- For the helpers of `import`: what was read of a script.
use Rattle.std.specs.Prelude.{◌≡◌, ℕ, ◌≤◌, List, length}
use Rattle.lens_io.specs.Calls.{Took, IsRead}
use Rattle.lens_io.specs.declared.source.Source as OfSource
use Rattle.lens_forms.specs.Forms.{FormTree}
use Rattle.script_input.specs.declared.limits.TheConstants.{MOST_BYTES}
use Rattle.program_terms.specs.Terms.{ProgramTree}
use Rattle.script_input.specs.Lines.{program_part, journal}
use Rattle.program_accepted.specs.Program.{IsAccepted}
use Rattle.store_new.specs.Found.{added_all}
use Rattle.store_new.specs.declared.document.Found.{Found}
use Rattle.store_new.specs.declared.document.Found.TheVariants.{Nothing}

-- The source was read to its end, and the program part is accepted. These are the lines of the journal part that are
-- not blank.
pub record ReadsImport {S : Type 0} (source : OfSource.Ghosts S) (old new : S)
    (program : ProgramTree) (form : FormTree) (found : Found) : Type 0 where
  pub bytes : List ℕ
  pub took : Took source old new bytes
  pub read : IsRead source old new
  pub within : length bytes ≤ MOST_BYTES
  pub accepted : IsAccepted (program_part bytes) program form
  pub is : found ≡ added_all Nothing (journal bytes)

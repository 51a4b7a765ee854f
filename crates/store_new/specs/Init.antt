-- What the command `init` makes of a script. Read it from the end: `Starts`, `init_command`, then `Begins`.
use Rattle.std.specs.Prelude.{◌≡◌, ℕ, ◌≤◌, List, [], ◌∷◌, length, IfSome, Ok}
use Rattle.lens_io.specs.Calls.{Took, IsRead, Gave}
use Rattle.lens_io.specs.declared.disk.Disk as OfDisk
use Rattle.lens_io.specs.declared.sink.Sink as OfSink
use Rattle.lens_io.specs.declared.source.Source as OfSource
use Rattle.serde_json.specs.Written.{compact_text}
use Rattle.lens_forms.specs.Forms.{FormTree}
use Rattle.run_answers.specs.Answers.{state_lines}
use Rattle.run_answers.specs.ItemRuns.{triple_at_first}
use Rattle.script_input.specs.declared.limits.TheConstants.{MOST_BYTES}
use Rattle.program_terms.specs.Terms.{ProgramTree}
use Rattle.program_writing.specs.Canonical.{canonical}
use Rattle.script_input.specs.Lines.{program_part}
use Rattle.store_records.specs.RecordJson.{tree_of_program}
use Rattle.store_session.specs.Stands.{at_start, stands}
use Rattle.store_new.specs.Command.{Command}
use Rattle.program_accepted.specs.Program.{IsAccepted}
use Rattle.store_new.specs.Scripts.{one_program}
use Rattle.store_new.specs.NewStores.{HoldsStore}
use Rattle.store_run.specs.Devices.{Devices}

-- the payload of a program: its canonical text, in a store of version 2
abbrev pub program_payload : ProgramTree → List ℕ
program_payload program = compact_text (tree_of_program (canonical program))

-- The store of a script whose program part is accepted: the payload of its program alone, of version 2. The lines are
-- the state lines of the first triple of its lens, and the payload stands for that triple.
pub record Begins (bytes : List ℕ) (payloads : List (List ℕ)) (lines : List ℕ) : Type 0 where
  pub program : ProgramTree
  pub form : FormTree
  pub accepted : IsAccepted (program_part bytes) program form
  pub are : payloads ≡ program_payload program ∷ []
  pub written : lines ≡ state_lines form (triple_at_first form)
  pub stand : stands payloads ≡ Ok (at_start (form, 2))

-- `init` refuses no script whose program part is accepted
abbrev pub init_command : Command
init_command = record { part = one_program; makes = Begins; refuses = λ bytes line. ⊥ }

-- The source was read to its end, and gave these bytes. The disk was empty, and holds the payload of the program alone.
-- The state lines of the first triple were written, for which the payload stands.
pub record Starts {S K D : Type 0} (source : OfSource.Ghosts S) (sink : OfSink.Ghosts K) (disk : OfDisk.Ghosts D)
    (old new : Devices S K D) : Type 0 where
  pub bytes : List ℕ
  pub took : Took source old.source new.source bytes
  pub read : IsRead source old.source new.source
  pub within : length bytes ≤ MOST_BYTES
  pub was_empty : IfSome (disk.content old.disk) (λ before. length before ≡ 0)
  pub program : ProgramTree
  pub form : FormTree
  pub accepted : IsAccepted (program_part bytes) program form
  pub stored : HoldsStore disk new.disk (program_payload program ∷ [])
  pub given : Gave sink old.sink new.sink (state_lines form (triple_at_first form))
  pub stand : stands (program_payload program ∷ []) ≡ Ok (at_start (form, 2))

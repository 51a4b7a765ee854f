-- For the helpers of `init`: what it stores and writes, from its program.
use Rattle.std.specs.Prelude.{◌≡◌, ℕ, List, [], ◌∷◌, Some}
use Rattle.edit_journal.specs.EntryJson.{tree_of_text}
use Rattle.run_answers.specs.Answers.{state_lines}
use Rattle.run_answers.specs.ItemRuns.{triple_at_first}
use Rattle.lens_forms.specs.Forms.{FormTree}
use Rattle.program_terms.specs.Terms.{ProgramTree}
use Rattle.program_writing.specs.Canonical.{canonical}
use Rattle.store_records.specs.RecordJson.{tree_of_program}
use Rattle.store_new.specs.Init.{program_payload}

-- the payload of the program, which reads as its tree, and the state lines of the first triple
pub record IsFirstStore (program : ProgramTree) (form : FormTree) (payloads : List (List ℕ))
    (lines : List ℕ) : Type 0 where
  pub are : payloads ≡ program_payload program ∷ []
  pub reads : tree_of_text (program_payload program) ≡ Some (tree_of_program (canonical program))
  pub written : lines ≡ state_lines form (triple_at_first form)

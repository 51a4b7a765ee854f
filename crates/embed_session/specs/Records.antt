-- The records that a caller stores before the first line. Read it from the end: `version_text`, then `IsFirstRecord`.
use Rattle.std.specs.Prelude.{◌≡◌, ℕ, List, [], Ok, if◌then◌else◌, nat_eq}
use Rattle.serde_json.specs.Written.{compact_text}
use Rattle.lens_syntax.specs.Programs.{bounded}
use Rattle.program_terms.specs.Terms.{ProgramTree}
use Rattle.program_writing.specs.Canonical.{canonical}
use Rattle.store_records.specs.RecordJson.{tree_of_program, tree_of_version}
use Rattle.embed_session.specs.States.{IsTextOf}

-- the payload of the first record of a log for this program: its canonical text, and the version 2
pub record IsFirstRecord (program text : List ℕ) : Type 0 where
  pub tree : ProgramTree
  pub is : bounded program ≡ Ok tree
  pub is_text : IsTextOf (tree_of_program (canonical tree)) text

-- the record that a log of version 1 still needs; a log of version 2 needs none
abbrev pub version_text : ℕ → List ℕ
version_text version = if nat_eq version 1 then compact_text tree_of_version else []

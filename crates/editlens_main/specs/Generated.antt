-- What the command `gen` writes.
use Rattle.std.specs.Prelude.{◌≡◌, ℕ, List, [], ◌++◌, codes, decimal, Some}
use Rattle.std.specs.Fmt.{signed_decimal}
use Rattle.std.specs.declared.option.Option.{Option}
use Rattle.std.specs.Io.KnownBytes.{Appends}
use Rattle.lens_io.specs.Content.{AppendsFront}
use Rattle.run_gen.specs.Journal.{summary_of}
use Rattle.run_gen.specs.declared.summary.Summary.{Summary}
use Rattle.command_ends.specs.declared.status.Status.{Status}
use Rattle.command_ends.specs.declared.status.Status.TheVariants.{Done, SinkFault, NoMemory}

-- `accepted A` and `refused R`
abbrev pub count_lines : Summary → List ℕ
count_lines s = codes "accepted " ++ decimal s.accepted ++ codes "\nrefused " ++ decimal s.refused ++ codes "\n"

-- `names P`, `nums O` and `sum S`
abbrev pub list_lines : Summary → List ℕ
list_lines s =
    codes "names " ++ decimal s.names ++ codes "\nnums " ++ decimal s.nums ++ codes "\nsum " ++ signed_decimal s.sum
    ++ codes "\n"

-- the five lines
abbrev pub summary_lines : Summary → List ℕ
summary_lines s = count_lines s ++ list_lines s

-- The generated run of this count of entries from this seed has this summary, and it accepted every entry.
pub record Summarizes (count seed : ℕ) (made : Summary) : Type 0 where
  pub is_summary : summary_of count seed ≡ Some made
  pub all_accepted : made.accepted ≡ count
  pub none_refused : made.refused ≡ 0

-- What was written, for each status.
-- Done: the summary. SinkFault: a prefix of it, and not all. NoMemory: nothing. There is no other status.
abbrev pub WritesSummary : ℕ → ℕ → Option (List ℕ) → Option (List ℕ) → Status → Type 0
WritesSummary count seed held held' Done =
    (made : Summary) × Summarizes count seed made × Appends held held' (summary_lines made)
WritesSummary count seed held held' SinkFault =
    (made : Summary) × Summarizes count seed made × AppendsFront held held' (summary_lines made)
WritesSummary count seed held held' NoMemory = Appends held held' []
WritesSummary count seed held held' status = ⊥

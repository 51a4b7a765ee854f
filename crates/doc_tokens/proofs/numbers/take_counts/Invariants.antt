use Rattle.std.proofs.Common.{◌≡◌, ℕ, length}
use Rattle.json_tokens.specs.TreesAt.{read_items_at}
use Rattle.value_json.specs.Numbers.{counts_of}
use Rattle.doc_tokens.proofs.ReadingDocs.{onto}
use Rattle.doc_tokens.proofs.numbers.take_counts.Given as goal

-- the numbers so far, and those that are left, are those of all
abbrev pub invariant-loop-reader : goal.invariant-loop-reader
invariant-loop-reader l = (depth : ℕ) → read_items_at counts_of depth l.initial.reader ≡ onto l.numbers.items (read_items_at counts_of depth l.reader)

abbrev pub decreases-loop-reader : goal.decreases-loop-reader
decreases-loop-reader l = length l.reader

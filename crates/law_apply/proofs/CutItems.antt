-- The items of a journal that is cut between lines.
use Rattle.std.proofs.Common.{◌≡◌, List, [], ◌∷◌, ◌++◌, Bool, true, false, cond, refl, ap}
use Rattle.edit_journal.specs.EntryJson.{change_of_line}
use Rattle.edit_journal.specs.Lines.{is_blank}
use Rattle.edit_journal.specs.declared.line.Line.{Line}
use Rattle.run_answers.specs.ItemRuns.{items_of}

pub items_joined : (lines more : List Line) → items_of (lines ++ more) ≡ items_of lines ++ items_of more
items_joined [] more = refl
items_joined (line ∷ lines) more = by_blank (is_blank line) (items_joined lines more) where
  by_blank : (b : Bool) → items_of (lines ++ more) ≡ items_of lines ++ items_of more
      → cond b (items_of (lines ++ more)) (change_of_line line ∷ items_of (lines ++ more)) ≡ cond b (items_of lines) (change_of_line line ∷ items_of lines) ++ items_of more
  by_blank true h = h
  by_blank false h = ap (λ l. change_of_line line ∷ l) h

use Rattle.std.proofs.Common.{ap, ◌∙◌}
use Rattle.edit_journal.specs.Pieces.{lines_of}
use Rattle.run_answers.specs.ItemRuns.{items_of}
use Rattle.law_stores.proofs.CutTexts.{lines_joined}
use Rattle.law_apply.proofs.CutItems.{items_joined}
use Rattle.law_apply.proofs.SameStores.{come_to_the_same}
use Rattle.law_apply.proofs.a_journal_may_be_cut.Goals as goal

pub returns-clause-cut : goal.returns-clause-cut
returns-clause-cut g c old1 new1 old2 new2 old3 new3 before first second complete ends parts =
    come_to_the_same before first.after second.after complete.after (items_of (lines_of first.bytes)) (items_of (lines_of second.bytes)) (items_of (lines_of complete.bytes))
    first.run second.run complete.run
    (ap (λ l. items_of (lines_of l)) parts ∙ ap items_of (lines_joined first.bytes second.bytes ends) ∙ items_joined (lines_of first.bytes) (lines_of second.bytes))
    complete.version second.version

pub returns-clause-crash : goal.returns-clause-crash
returns-clause-crash g c old1 new1 old2 new2 old3 new3 before image first second complete parts =
    come_to_the_same before first.after second.after complete.after (items_of first.lines) (items_of (lines_of second.bytes)) (items_of (lines_of complete.bytes))
    first.run second.run complete.run
    (ap items_of parts ∙ items_joined first.lines (lines_of second.bytes))
    complete.version second.version

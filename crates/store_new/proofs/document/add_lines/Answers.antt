use Rattle.std.proofs.Common.{[], refl, sym, ap, ◌∙◌}
use Rattle.edit_journal.proofs.Feeding.{lines_at}
use Rattle.script_input.proofs.EndedLines.{taken_line, none_taken}
use Rattle.store_new.specs.Found.{added_all}
use Rattle.store_new.proofs.document.add_lines.Goals as goal

pub lines-init : goal.lines-init
lines-init c = record { adds = refl; begun = refl; count = refl }

pub lines-preserved : goal.lines-preserved
lines-preserved c =
    let new = c.take_line.new.self in
    let taken = taken_line c.in-Some.line new.lines c.lines.input.lines (ap (λ line. (line, new.lines)) (sym c.in-Some.is) ∙ c.in_ok-line.ensures.taken) in
    record {
      adds = ap (λ found. added_all found new.lines.ended) c.add-found.ensures ∙ ap (added_all c.lines.found) (sym taken.0) ∙ c.lines.invariant.adds;
      begun = taken.1 ∙ c.lines.invariant.begun;
      count = c.in_ok-line.ensures.count ∙ c.lines.invariant.count;
    }

pub returns-clause-adds : goal.returns-clause-adds
returns-clause-adds c =
    let new = c.take_line.new.self in
    let none = none_taken new.lines c.lines.input.lines (ap (λ line. (line, new.lines)) (sym c.in_default.is) ∙ c.in_ok-line.ensures.taken) in
    sym (ap (added_all c.lines.found) none.0) ∙ c.lines.invariant.adds

pub returns-clause-rest : goal.returns-clause-rest
returns-clause-rest c =
    let new = c.take_line.new.self in
    let none = none_taken new.lines c.lines.input.lines (ap (λ line. (line, new.lines)) (sym c.in_default.is) ∙ c.in_ok-line.ensures.taken) in
    none.1 ∙ ap (lines_at []) c.lines.invariant.begun

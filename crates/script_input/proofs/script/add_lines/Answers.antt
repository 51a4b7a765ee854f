use Rattle.std.proofs.Common.{◌++◌, refl, sym, ap, ◌∙◌}
use Rattle.script_input.proofs.AddedLines.{found, added, all_added}
use Rattle.script_input.proofs.script.add_lines.Goals as goal

pub lines-init : goal.lines-init
lines-init c = record { moves = λ front rest is held lines. record { front = front; rest = rest; same = refl; lines = lines; holds = (is, held) }; count = refl }

pub returns-then-is_separator-clause-adds : goal.returns-then-is_separator-clause-adds
returns-then-is_separator-clause-adds c = λ front rest is held lines.
    let new = c.take_line.new.self in
    found (front ++ rest) c.lines.input new c.lines.program (c.lines.invariant.moves front rest is held lines) c.in-Some.line
    (ap (λ line. (line, new.lines)) (sym c.in-Some.is) ∙ c.in_ok-line.ensures.taken) (sym c.is_separator.ensures ∙ c.if-is_separator.true)

pub lines-preserved-in_ok-add : goal.lines-preserved-in_ok-add
lines-preserved-in_ok-add c =
    let new = c.take_line.new.self in
    record {
      moves = λ front rest is held lines.
          added (front ++ rest) c.lines.input new c.lines.program (c.lines.invariant.moves front rest is held lines) c.add.new.self c.in-Some.line
          (ap (λ line. (line, new.lines)) (sym c.in-Some.is) ∙ c.in_ok-line.ensures.taken) (sym c.is_separator.ensures ∙ c.if-is_separator.false) c.in_ok-add.ensures;
      count = c.in_ok-line.ensures.count ∙ c.lines.invariant.count;
    }

pub lines-preserved : goal.lines-preserved
lines-preserved c =
    let new = c.take_line.new.self in
    record {
      moves = λ front rest is held lines.
          added (front ++ rest) c.lines.input new c.lines.program (c.lines.invariant.moves front rest is held lines) c.add.new.self c.in-Some.line
          (ap (λ line. (line, new.lines)) (sym c.in-Some.is) ∙ c.in_ok-line.ensures.taken) (sym c.is_separator.ensures ∙ c.if-is_separator.false) c.in_ok-add.ensures;
      count = c.in_ok-line.ensures.count ∙ c.lines.invariant.count;
    }

pub returns-clause-adds : goal.returns-clause-adds
returns-clause-adds c = λ front rest is held lines.
    let new = c.take_line.new.self in
    all_added (front ++ rest) c.lines.input new c.lines.program (c.lines.invariant.moves front rest is held lines)
    (ap (λ line. (line, new.lines)) (sym c.in_default.is) ∙ c.in_ok-line.ensures.taken)

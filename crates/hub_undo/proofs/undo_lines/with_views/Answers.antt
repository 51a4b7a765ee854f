use Rattle.std.proofs.Common.{◌<◌, ◌≤◌, length, sym, ◌∙◌, arith}
use Rattle.hub_undo.proofs.UndoLines.{last_line, next_line}
use Rattle.hub_undo.proofs.undo_lines.with_views.Goals as goal

pub loop-number-preserved : goal.loop-number-preserved
loop-number-preserved c =
    let l = c.loop-number in
    let within : l.number < length c.args.words.now = omega (arith, c.loop-number-test.true) in
    next_line c.args.words.now l.number c.index-words-number.result l.all.items c.in_ok-longer.longer.items within c.index-words-number.is c.in_ok-longer.ensures ∙ l.invariant

pub returns : goal.returns
returns c =
    let l = c.loop-number in
    let past : length c.args.words.now ≤ l.number = omega (arith, c.loop-number-test.false) in
    sym (last_line c.args.words.now l.number l.all.items past) ∙ l.invariant

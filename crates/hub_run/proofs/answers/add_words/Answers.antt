use Rattle.std.proofs.Common.{◌∙◌}
use Rattle.hub_run.proofs.WordLists.{words_begun, words_next, words_done}
use Rattle.hub_run.proofs.answers.add_words.Goals as goal

pub loop-word-init : goal.loop-word-init
loop-word-init c = words_begun c.args.line.items c.extend_from_slice.new.self.items c.args.words.now c.in_ok-extend_from_slice.ensures.items

pub loop-word-preserved : goal.loop-word-preserved
loop-word-preserved c =
    let l = c.loop-word in
    words_next c.args.words.now l.word-index c.word-item.result l.all.items _ l.later c.loop-word-test.true c.word-item.is c.in_ok-longer.ensures ∙ l.invariant

pub returns : goal.returns
returns c =
    let l = c.loop-word in
    words_done c.args.words.now l.word-index l.all.items _ l.later c.loop-word-test.false c.in_ok-extend_from_slice-2.ensures.items ∙ l.invariant

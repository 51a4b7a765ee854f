use Rattle.std.proofs.Math.Seq.{take-length}
use Rattle.answer_text.proofs.TextFronts.{longer, behind}
use Rattle.answer_text.proofs.answers.put_ok_line.Goals as goal

pub returns-in_err-put_word_text-clause-front : goal.returns-in_err-put_word_text-clause-front
returns-in_err-put_word_text-clause-front c =
    let text = c.args.text.now.items in
    let one = c.extend_from_slice.new.self.items in
    let two = c.extend_from_slice-2.new.self.items in
    let three = c.extend_from_slice-3.new.self.items in
    let four = c.extend_from_slice-4.new.self.items in
    let five = c.extend_from_slice-5.new.self.items in
    let first = longer text text one _ (take-length text) c.in_ok-extend_from_slice.ensures.items in
    let second = longer text one two _ first c.in_ok-extend_from_slice-2.ensures.items in
    let third = longer text two three _ second c.in_ok-extend_from_slice-3.ensures.items in
    let fourth = longer text three four _ third c.in_ok-extend_from_slice-4.ensures.items in
    let fifth = longer text four five _ fourth c.in_ok-extend_from_slice-5.ensures.items in
    behind text five c.put_word_text.new.text.items fifth c.put_word_text.ensures.front

use Rattle.std.proofs.Common.{◌∙◌}
use Rattle.editstore_main.proofs.OrderWords.{order_of_three, order_of_four}
use Rattle.editstore_main.proofs.words.read_order.Goals as goal

pub returns-in-3-clause-order : goal.returns-in-3-clause-order
returns-in-3-clause-order c =
    c.two_words.ensures.order
    ∙ order_of_three c.args.words.now c.index-words-1-in-3.result c.index-words-2.result c.as_str-in-3.result.now c.as_str-in-3-2.result.now c.in-3.is c.index-words-1-in-3.is c.index-words-2.is
    c.as_str-in-3.ensures.value c.as_str-in-3-2.ensures.value

pub returns-in-4-clause-order : goal.returns-in-4-clause-order
returns-in-4-clause-order c =
    c.three_words.ensures.order
    ∙ order_of_four c.args.words.now c.index-words-1-in-4.result c.index-words-2-in-4.result c.index-words-3.result c.as_str-in-4.result.now c.as_str-in-4-2.result.now c.as_str-in-4-3.result.now c.in-4.is
    c.index-words-1-in-4.is c.index-words-2-in-4.is c.index-words-3.is c.as_str-in-4.ensures.value c.as_str-in-4-2.ensures.value c.as_str-in-4-3.ensures.value

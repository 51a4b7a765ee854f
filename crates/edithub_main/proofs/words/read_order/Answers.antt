use Rattle.std.proofs.Common.{◌∙◌}
use Rattle.edithub_main.proofs.HubWords.{order_of_two, order_of_three}
use Rattle.edithub_main.proofs.words.read_order.Goals as goal

pub returns-in-2 : goal.returns-in-2
returns-in-2 c = c.plain_order.ensures ∙ order_of_two c.args.words.now c.index-words-1.result c.as_str.result.now c.in-2.is c.index-words-1.is c.as_str.ensures.value

pub returns-in-3 : goal.returns-in-3
returns-in-3 c =
    c.undo_order.ensures
    ∙ order_of_three c.args.words.now c.index-words-1-in-3.result c.index-words-2.result c.as_str-in-3.result.now c.as_str-in-3-2.result.now c.in-3.is c.index-words-1-in-3.is c.index-words-2.is c.as_str-in-3.ensures.value
    c.as_str-in-3-2.ensures.value

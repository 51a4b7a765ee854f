use Rattle.std.proofs.Common.{◌≡◌, ◌∙◌, sym, ap, Err}
use Rattle.command_words.specs.declared.orders.WordsFault.TheVariants.{Usage}
use Rattle.command_words.proofs.OrderOfWords.{order_of_three, none_of_three}
use Rattle.command_words.proofs.reader.read_three.Goals as goal

pub returns-in-Ok-Some-clause-order : goal.returns-in-Ok-Some-clause-order
returns-in-Ok-Some-clause-order c = order_of_three c.args.words.now c.index-words-1.result c.index-words-2.result c.as_str.result.now c.in-Ok-Some.field-0 c.requires c.index-words-1.is c.index-words-2.is c.as_str.ensures.value (sym c.if-begins_with_hyphen.ensures) c.in-Ok-Some.ensures.order ∙ c.in-Ok-Some.field-0-is

pub returns-in-Ok-None-clause-usage : goal.returns-in-Ok-None-clause-usage
returns-in-Ok-None-clause-usage c = λ usage. order_of_three c.args.words.now c.index-words-1.result c.index-words-2.result c.as_str.result.now c.in-Ok-None.field-0 c.requires c.index-words-1.is c.index-words-2.is c.as_str.ensures.value (sym c.if-begins_with_hyphen.ensures) c.in-Ok-None.ensures.order ∙ c.in-Ok-None.field-0-is

pub returns-in-Err-clause-usage : goal.returns-in-Err-clause-usage
returns-in-Err-clause-usage c = λ usage. none_of_three c.args.words.now c.index-words-2.result c.requires c.index-words-2.is (sym c.if-begins_with_hyphen.ensures) (c.in-Err.ensures.usage (let same : c.in-Err.fault ≡ Usage = cc in ap Err same))

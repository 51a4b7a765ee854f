use Rattle.std.proofs.Common.{sym, ◌∙◌}
use Rattle.std.proofs.lemmas.List.{length-replicate}
use Rattle.tag_seq.proofs.Totals.{count-replicate}
use Rattle.tag_seq.proofs.total.Total.of_one.Goals as goal

pub returns : goal.returns
returns c = record { all = sym (length-replicate c.args.count c.args.tag); each = λ t. c.in_ok-counts.ensures t ∙ sym (count-replicate t c.args.tag c.args.count) }

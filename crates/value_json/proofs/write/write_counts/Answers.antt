use Rattle.std.proofs.Common.{ap, ◌∙◌, map}
use Rattle.std.proofs.lemmas.List.{take_all}
use Rattle.serde_json.specs.Data.{array}
use Rattle.serde_json.specs.View.{items_of}
use Rattle.serde_json.proofs.Views.{view-Array}
use Rattle.value_json.specs.Numbers.{count_tree}
use Rattle.value_json.proofs.Writing.{items_of_counts}
use Rattle.value_json.proofs.write.write_counts.Goals as goal

pub returns : goal.returns
returns c =
    let l = c.loop-count in
    view-Array l.items ∙ ap array (ap items_of l.invariant ∙ ap (λ ns. items_of (map count_tree ns)) (take_all l.count-index c.args.counts.now c.loop-count-test.false) ∙ items_of_counts c.args.counts.now)

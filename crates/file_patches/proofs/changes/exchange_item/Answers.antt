use Rattle.std.proofs.Common.{◌<◌, length, sym, ap, ◌∙◌, arith}
use Rattle.file_trees.specs.FileTrees.{file_tree}
use Rattle.file_patches.proofs.Lists.{item_there, set_item}
use Rattle.file_patches.proofs.changes.exchange_item.Goals as goal

pub returns-clause-after : goal.returns-clause-after
returns-clause-after c = rw c.replace.ensures.after (set_item c.args.items.now.items c.args.at c.args.content)

pub returns-clause-before : goal.returns-clause-before
returns-clause-before c =
    let xs = c.args.items.now.items in
    let within : c.args.at < length xs = omega (arith, c.requires, c.args.items.now.ok.0) in
    ap file_tree c.replace.ensures.value ∙ sym (item_there xs c.args.at c.index_mut.result.now within c.index_mut.ensures.value)

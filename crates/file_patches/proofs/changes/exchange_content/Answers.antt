use Rattle.std.proofs.Common.{◌<◌, length, sym, ap, ◌∙◌, arith}
use Rattle.file_trees.specs.FileTrees.{file_tree}
use Rattle.file_patches.proofs.Lists.{member_there, set_member}
use Rattle.file_patches.proofs.changes.exchange_content.Goals as goal

pub returns-clause-after : goal.returns-clause-after
returns-clause-after c =
    let m = c.index_mut-member.result.now in
    rw c.replace.ensures.after (set_member c.args.members.now.items c.args.at m.0 c.args.content m (ap (λ x. x.0) c.index_mut-member.ensures.value))

pub returns-clause-before : goal.returns-clause-before
returns-clause-before c =
    let ms = c.args.members.now.items in
    let within : c.args.at < length ms = omega (arith, c.requires, c.args.members.now.ok.0) in
    ap file_tree c.replace.ensures.value ∙ sym (member_there ms c.args.at c.index_mut-member.result.now within c.index_mut-member.ensures.value)

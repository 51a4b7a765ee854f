use Rattle.std.proofs.Common.{Ok, sym, ap, ◌∙◌}
use Rattle.json.specs.Json.{object}
use Rattle.file_trees.specs.FileTrees.{file_tree, members_view}
use Rattle.file_trees.proofs.Owned.{tree-Object}
use Rattle.file_patches.specs.Changes.{append_member}
use Rattle.file_patches.proofs.Lists.{appended}
use Rattle.file_patches.proofs.changes.with_new.Goals as goal

pub returns : goal.returns
returns c =
    let ms = c.args.members.items in
    let n = c.in_ok-twin.field-0 in
    ap Ok (sym (tree-Object c.push.new.self ∙ ap (λ xs. object (members_view xs)) c.in_ok-push.ensures.items ∙ ap object (appended ms n c.args.content)
    ∙ ap (λ s. object (append_member s (file_tree c.args.content) (members_view ms))) c.in_ok-twin.ensures))

use Rattle.std.proofs.Common.{sym, ap, ◌∙◌, arith}
use Rattle.json.specs.Json.{array, object}
use Rattle.file_trees.specs.FileTrees.{items_view, members_view}
use Rattle.file_trees.proofs.Owned.{tree-Array, tree-Object}
use Rattle.file_patches.specs.Changes.{cut}
use Rattle.file_patches.proofs.Lists.{array_count, object_count, array_seen, object_seen, items_cut, members_cut}
use Rattle.file_patches.proofs.changes.cut.Goals as goal

pub remove-requires : goal.remove-requires
remove-requires c =
    let v = c.in-Object.members in
    omega (arith, c.requires, object_count c.args.tree v c.in-Object.is, v.ok.0)

pub returns-in-Object : goal.returns-in-Object
returns-in-Object c =
    let v = c.in-Object.members in
    tree-Object c.remove.new.self ∙ ap (λ ms. object (members_view ms)) c.remove.ensures.items ∙ ap object (members_cut v.items c.args.at)
    ∙ sym (ap (cut c.args.at) (object_seen c.args.tree v c.in-Object.is))

pub remove-requires-in-Array : goal.remove-requires-in-Array
remove-requires-in-Array c =
    let v = c.in-Array.items in
    omega (arith, c.requires, array_count c.args.tree v c.in-Array.is, v.ok.0)

pub returns-in-Array : goal.returns-in-Array
returns-in-Array c =
    let v = c.in-Array.items in
    tree-Array c.remove-in-Array.new.self ∙ ap (λ ts. array (items_view ts)) c.remove-in-Array.ensures.items ∙ ap array (items_cut v.items c.args.at)
    ∙ sym (ap (cut c.args.at) (array_seen c.args.tree v c.in-Array.is))

use Rattle.std.proofs.Common.{◌≡◌, Ok, sym, ap, ap₂, ◌∙◌, arith}
use Rattle.json.specs.Json.{array}
use Rattle.file_trees.specs.FileTrees.{file_tree, items_view}
use Rattle.file_trees.proofs.Owned.{tree-Array}
use Rattle.file_patches.specs.Equality.{item_count}
use Rattle.file_patches.specs.Places.{free_position}
use Rattle.file_patches.specs.Changes.{insert_item}
use Rattle.file_patches.specs.Results.{on_ok}
use Rattle.file_patches.proofs.Lists.{count_items, inserted}
use Rattle.file_patches.proofs.changes.with_item.Goals as goal

pub returns : goal.returns
returns c =
    let v = c.args.items in
    let k = file_tree c.args.content in
    let count : c.len.result ≡ item_count (items_view v.items) = omega (arith, c.len.ensures, v.ok.0, count_items v.items) in
    let place = sym (ap₂ free_position c.as_str.ensures count) ∙ sym c.in_ok-at.ensures.position in
    ap (on_ok (λ i. array (insert_item i k (items_view v.items)))) place
    ∙ ap Ok (sym (tree-Array c.insert.new.self ∙ ap (λ xs. array (items_view xs)) c.in_ok-insert.ensures.items ∙ ap array (inserted v.items c.in_ok-at.at c.args.content)))

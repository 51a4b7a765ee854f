use Rattle.std.proofs.Common.{◌<◌, ◌-◌, Ok, length, drop, take, sym, ap, ◌∙◌, take_all, length-drop, arith}
use Rattle.file_trees.specs.declared.tree.FileTree.{Null}
use Rattle.file_trees.specs.FileTrees.{file_tree}
use Rattle.file_patches.specs.Counts.{child_count}
use Rattle.file_patches.specs.Places.{child}
use Rattle.file_patches.specs.Changes.{change_tree, changed, put}
use Rattle.file_patches.specs.Results.{and_then, on_ok}
use Rattle.file_patches.proofs.ChangeCases.{more_parts}
use Rattle.file_patches.proofs.Indexes.{positive}
use Rattle.file_patches.proofs.Lists.{put_twice, count_stays}
use Rattle.file_patches.proofs.changes.+changed.Goals as goal

pub with_content-requires : goal.with_content-requires
with_content-requires t c =
    let e = ap child_count c.exchange-tree.ensures.after ∙ count_stays c.in_ok-at.at (file_tree Null) (file_tree c.args.tree) in
    omega (arith, e, c.in_ok-at.ensures.within)

pub returns : goal.returns
returns t c =
    let p = c.args.place.now in
    let j = file_tree c.args.tree in
    let g = change_tree c.args.change in
    let at = c.in_ok-at.at in
    let k = file_tree c.in_ok-content.content in
    let some = positive (length p) c.if-is_empty.ensures in
    let long : 1 < length p = omega (arith, some, c.if-place-eq1.false) in
    let whole = take_all _ (drop 1 p) (omega (arith, length-drop 1 p)) in
    let inner = sym (ap (λ q. changed g q (child at j)) whole) ∙ ap (changed g (take (length p - 1) (drop 1 p))) (sym c.exchange-tree.ensures.before) ∙ c.in_ok-content.ensures in
    more_parts g p j c.index-place-0-2.result long c.index-place-0-2.is
    ∙ ap (and_then (λ i. on_ok (λ n. put i n j) (changed g (drop 1 p) (child i j)))) (sym c.in_ok-at.ensures.position)
    ∙ ap (on_ok (λ n. put at n j)) inner
    ∙ ap Ok (sym (c.with_content.ensures ∙ ap (put at k) c.exchange-tree.ensures.after ∙ put_twice at k (file_tree Null) j))

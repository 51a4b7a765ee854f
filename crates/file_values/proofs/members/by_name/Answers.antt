use Rattle.std.proofs.Common.{drop, refl, ap, ◌∙◌, arith}
use Rattle.texts.specs.Keys.{is_rising}
use Rattle.json.specs.Strict.{keys}
use Rattle.file_trees.specs.FileTrees.{members_view}
use Rattle.file_forms.proofs.Sorting.{by_name-is_rising}
use Rattle.file_values.proofs.LentMembers.{lent-before}
use Rattle.file_values.proofs.members.by_name.Goals as goal

pub loop-i-preserved : goal.loop-i-preserved
loop-i-preserved c =
    let l = c.loop-i in
    let ms = c.args.members.now in
    let member = c.index-members-i.result in
    rw c.in_ok-insert.ensures.entries (lent-before l.map.entries _ _ member ms l.i (omega arith) (omega arith) c.index-members-i.is c.as_str.ensures refl l.invariant)

pub returns-clause-rising : goal.returns-clause-rising
returns-clause-rising c = ap (λ ms. is_rising (keys ms)) c.loop-i.invariant ∙ by_name-is_rising (members_view (drop c.loop-i.i c.args.members.now))

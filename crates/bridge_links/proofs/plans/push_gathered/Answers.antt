use Rattle.std.proofs.Common.{◌≡◌, ◌+◌, ◌++◌, ◌∙◌, Some, None, rules, arith, ap, subst}
use Rattle.bridge_links.specs.Links.{place_of, part_at, part_put}
use Rattle.bridge_links.proofs.Gathered.{gets-old, gets-fresh}
use Rattle.bridge_links.proofs.plans.push_gathered.Goals as goal

pub returns-in-Some : goal.returns-in-Some
returns-in-Some c =
    let e : place_of c.run.inside.first ≡ Some c.in-Some.place = let a = c.place.ensures in let b = c.in-Some.is in cc in
    gets-old c.run.inside.first c.push_part.new.links c.args.links.now c.args.old.now c.args.run.now c.args.fresh c.in-Some.place c.run.inside.count c.run.view_is e
    (subst (λ m. c.push_part.new.links ≡ c.args.links.now ++ part_put m (part_at c.args.old.now c.in-Some.place c.run.inside.count)) c.is_moved.ensures c.in_ok-push_part.ensures)

pub returns : goal.returns
returns c =
    let e : place_of c.run.inside.first ≡ None = let a = c.place.ensures in let b = c.in_default.is in cc in
    let q : c.in-Some-checked_add.next ≡ c.args.fresh + c.run.inside.count = first_of (search rules, grind arith) in
    gets-fresh c.run.inside.first c.push.new.self c.args.links.now c.args.old.now c.args.run.now c.args.fresh c.run.inside.count c.in-Some-checked_add.next c.run.view_is e q
    (c.in_ok-push.ensures.pushed ∙ ap (λ r. c.args.links.now ++ r) c.in_ok-of.ensures)

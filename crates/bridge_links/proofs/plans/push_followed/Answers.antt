use Rattle.std.proofs.Common.{◌≡◌, ◌<◌, ◌≤◌, ◌+◌, ◌-◌, ◌++◌, ◌∙◌, List, Some, None, length, map, take, drop, arith, ap, sym, subst}
use Rattle.std.specs.Prelude.{OnOk}
use Rattle.std.proofs.lemmas.List.{take_all}
use Rattle.bridge_links.specs.Links.{run_links, place_of, followed, moved_as}
use Rattle.bridge_links.proofs.RunLinks.{length-run}
use Rattle.bridge_links.proofs.Followed.{followed-none, followed-next, followed-all}
use Rattle.bridge_links.proofs.plans.push_followed.Goals as goal

pub returns-in_default : goal.returns-in_default
returns-in_default c =
    let run = c.args.run.now in
    let e : place_of c.run.inside.first ≡ None = let a = c.place.ensures in let b = c.in_default.is in cc in
    let l = c.len.ensures in
    let whole : take c.len.result (drop 0 run) ≡ run = take_all c.len.result run (omega (arith, l)) in
    let part : c.part.result ≡ map (followed c.args.plan.now) run =
    c.part.ensures ∙ (whole ∙ sym (followed-none c.args.plan.now c.run.inside.first c.run.inside.count run c.run.view_is e)) in
    subst (λ r. OnOk c.push.result (c.push.new.self ≡ c.args.links.now ++ r)) part c.push.ensures.pushed

pub loop-preserved : goal.loop-preserved
loop-preserved c =
    let l = c.run.inside.first in
    let n = c.run.inside.count in
    let m = c.find-link.result.1 in
    let now = c.find-link.result.0 in
    let e : place_of l ≡ Some c.in-Some.first = let a = c.place.ensures in let b = c.in-Some.is in cc in
    let p : c.loop.done + m ≤ n = omega (arith, c.if-done-run.false, c.find-link.ensures.most) in
    let q : c.in_ok-of.field-0 ≡ run_links (moved_as l now) m = c.in_ok-of.ensures ∙ ap (λ o. run_links o m) c.moved_as.ensures in
    record {
      links = c.in_ok-push.ensures.pushed
          ∙ followed-next c.args.plan.now l now c.in-Some.first n c.loop.done m c.args.run.now c.in_ok-of.field-0 c.args.links.now c.loop.links c.run.view_is e p
          c.find-link.ensures.found q c.loop.invariant.links;
      counter = omega (arith, c.loop.invariant.counter, c.find-link.ensures.some);
    }

pub returns-after-loop : goal.returns-after-loop
returns-after-loop c =
    let n : length c.args.run.now ≡ c.run.inside.count = subst (λ r. length r ≡ c.run.inside.count) c.run.view_is (length-run c.run.inside.first c.run.inside.count) in
    followed-all c.args.plan.now c.args.links.now c.loop.links c.args.run.now c.loop.done (omega (arith, n, c.loop-test.false, c.loop.invariant.counter)) c.loop.invariant.links

pub returns-then-done-run : goal.returns-then-done-run
returns-then-done-run c =
    let n : length c.args.run.now ≡ c.run.inside.count = subst (λ r. length r ≡ c.run.inside.count) c.run.view_is (length-run c.run.inside.first c.run.inside.count) in
    followed-all c.args.plan.now c.args.links.now c.loop.links c.args.run.now c.loop.done (omega (arith, n, c.if-done-run.true)) c.loop.invariant.links

use Rattle.std.proofs.Common.{◌≡◌, ◌<◌, ◌≤◌, ◌+◌, ◌++◌, ◌∙◌, ◌⊎◌, List, length, get_or, rules, arith, ap, sym}
use Rattle.bridge_links.specs.declared.link.Link.TheVariants.{Gone}
use Rattle.bridge_links.specs.Links.{run_links, part_at, part_put, put_as}
use Rattle.bridge_links.proofs.OnOk.{on-ok}
use Rattle.bridge_links.proofs.Gathered.{left-behind, left-here, left-end, one-of}
use Rattle.bridge_links.proofs.plans.push_part.Goals.{then-skip-len, else-skip-len+in_ok-push}
use Rattle.bridge_links.proofs.plans.push_part.Goals as goal

pub loop-i-preserved : goal.loop-i-preserved
loop-i-preserved c =
    let rs = c.runs-runs.result.now in let r = c.index-runs-i.result in
    let p : (c.loop-i.i < length rs) × (r ≡ get_or rs c.loop-i.i r) = search rules in
    let whole = c.args.links.now ++ part_put c.args.moved (part_at c.args.old.now c.args.place c.args.count) in
    let len = c.len.ensures in
    elim c.if-skip-len.branch [
      | then-skip-len w ↦
          let e = w.len-then-skip-len.ensures in
          let h = left-behind c.args.moved c.loop-i.links whole rs c.loop-i.i c.loop-i.skip c.loop-i.left r p.0 p.1 (omega (arith, len, w.if-skip-len.true)) c.loop-i.invariant in
          rw (w.links-is, w.skip-is, w.left-is, e) h
      | else-skip-len+in_ok-push w ↦
          let e = w.len-else-skip-len.ensures in
          let below : c.loop-i.skip < w.len-else-skip-len.result = omega (arith, len, e, w.if-skip-len.false) in
          let c0 = w.smaller-size.result in
          let h = left-here c.args.moved c.loop-i.links w.part_put.result whole rs c.loop-i.i c.loop-i.skip c0 c.loop-i.left r p.0 p.1
          (omega (arith, e, below, w.smaller-size.ensures.right)) w.smaller-size.ensures.left
          (one-of c0 c.loop-i.left c.loop-i.skip w.len-else-skip-len.result (length r) below e w.smaller-size.ensures.one)
          w.part_put.ensures c.loop-i.invariant in
          rw (w.links-is, w.skip-is, w.left-is, w.in_ok-push.ensures.pushed) h
    ]

pub returns : goal.returns
returns c =
    let rs = c.runs-runs.result.now in
    let whole = c.args.links.now ++ part_put c.args.moved (part_at c.args.old.now c.args.place c.args.count) in
    let g : c.in_ok-of.field-0 ≡ run_links (put_as c.args.moved Gone) c.loop-i.left = c.in_ok-of.ensures ∙ ap (λ o. run_links o c.loop-i.left) c.put_as.ensures in
    on-ok c.push-2.result (λ h. h ∙ left-end c.args.moved c.loop-i.links c.in_ok-of.field-0 whole rs c.loop-i.i c.loop-i.skip c.loop-i.left (omega (arith, c.loop-i-test.false)) g c.loop-i.invariant)
    c.push-2.ensures.pushed

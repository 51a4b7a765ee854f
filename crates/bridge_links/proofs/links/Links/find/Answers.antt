use Rattle.std.proofs.Common.{◌≡◌, ◌<◌, ◌≤◌, ◌+◌, ◌^◌, length, get_or, drop, rules, arith, sym, subst}
use Rattle.bridge_links.specs.Links.{all_links, IsWithin}
use Rattle.bridge_links.proofs.LinkLists.{length-from}
use Rattle.bridge_links.proofs.Found.{fits-within, some-within}
use Rattle.bridge_links.proofs.links.Links.find.Goals as goal

pub ahead-requires : goal.ahead-requires
ahead-requires c =
    let rs = c.runs-runs.result.now in let r = c.index-runs-i.result in
    let p : (c.loop-i.i < length rs) × (r ≡ get_or rs c.loop-i.i r) = search rules in
    let total = c.loop-i.invariant.count in
    let fits = c.runs-runs.ensures.fits in
    let same = c.runs-runs.ensures.value in
    let all : length (all_links rs) < 2 ^ 64 = subst (λ ls. length ls < 2 ^ 64) (sym same) fits in
    let n = length-from rs c.loop-i.i r p.0 p.1 in
    fits-within c.in-Some.link (length r) c.loop-i.before (some-within c.find-found.result.0 c.in-Some.link (length r) c.in-Some.is c.find-found.ensures.within) (omega (arith, total, n, all))

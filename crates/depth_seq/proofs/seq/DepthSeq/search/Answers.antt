use Rattle.std.proofs.Common.{◌≡◌, ◌+◌, ◌≤◌, length, drop, ap, ◌∙◌, arith}
use Rattle.depth_seq.specs.Searches.{search}
use Rattle.depth_seq.specs.Trees.{depths}
use Rattle.depth_seq.proofs.Searches.{found_between}
use Rattle.depth_seq.proofs.seq.DepthSeq.search.Goals as goal

pub returns-clause-between : goal.returns-clause-between
returns-clause-between g c =
    let root = depths c.self.inside.root in
    let none : 0 + c.args.from ≡ c.args.from = omega arith in
    let within : c.args.from ≤ length root = omega (arith, ap length c.self.view_is) in
    rw (← c.self.view_is)
    (found_between c.args.depth c.args.number c.args.from root c.find_from.result within
    (c.find_from.ensures.found ∙ ap (λ p. search c.args.depth c.args.number p 0 (drop c.args.from root)) none))

use Rattle.std.proofs.Common.{◌+◌, drop, length, sym, ◌∙◌, arith}
use Rattle.std.proofs.lemmas.List.{length-drop}
use Rattle.depth_seq.specs.Trees.{depths}
use Rattle.depth_seq.proofs.Searches.{stopped, ends_ahead, goes_behind}
use Rattle.depth_seq.proofs.walks.find_behind.Goals as goal

pub returns-in_default-clause-found : goal.returns-in_default-clause-found
returns-in_default-clause-found g c =
    ends_ahead c.args.depth c.args.number (c.args.at + c.args.first) c.args.passed (drop c.args.first c.args.chunk.now) (depths c.args.right.now)
    c.find_in-here.result c.find_in-here.ensures.found c.in_default.not-Behind

pub returns-in_default-clause-behind : goal.returns-in_default-clause-behind
returns-in_default-clause-behind g c = λ k. absurd (stopped c.find_in-here.result c.in_default.not-Behind k)

pub returns-clause-found : goal.returns-clause-found
returns-clause-found g c =
    c.find.ensures.found
    ∙ goes_behind c.args.depth c.args.number (c.args.at + c.args.first) c.args.passed _ c.in-Behind.children (drop c.args.first c.args.chunk.now) (depths c.args.right.now)
    (sym c.in-Behind.is ∙ c.find_in-here.ensures.found) (omega (arith, length-drop c.args.first c.args.chunk.now))

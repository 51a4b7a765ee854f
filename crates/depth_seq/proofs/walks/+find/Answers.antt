use Rattle.std.proofs.Common.{rules, ◌≡◌, ◌+◌, ◌++◌, sym, subst, ◌∙◌, arith}
use Rattle.depth_seq.specs.Searches.{search as sought, GoesOn}
use Rattle.depth_seq.specs.Trees.{depths}
use Rattle.depth_seq.specs.declared.found.Found.TheVariants.{Behind}
use Rattle.depth_seq.proofs.Searches.{stopped}
use Rattle.depth_seq.proofs.SearchParts.{ends_left, ends_here, ends_right}
use Rattle.depth_seq.proofs.walks.+find.Goals as goal

pub returns-in_default-ahead-clause-found : goal.returns-in_default-ahead-clause-found
returns-in_default-ahead-clause-found g t c =
    let s = c.look-seen.result in
    let is : depths c.args.tree.now ≡ depths s.left.now ++ (s.chunk.now ++ depths s.right.now) = search rules in
    rw is (ends_left c.args.depth c.args.number c.args.at c.args.passed s.left_size (depths s.left.now) s.chunk.now (depths s.right.now) c.look-seen.ensures.front
    c.find-ahead.result c.find-ahead.ensures.found c.in_default-ahead.not-Behind)

pub returns-in_default-ahead-clause-behind : goal.returns-in_default-ahead-clause-behind
returns-in_default-ahead-clause-behind g t c = λ k. absurd (stopped c.find-ahead.result c.in_default-ahead.not-Behind k)

pub returns-in_default-here-clause-found : goal.returns-in_default-here-clause-found
returns-in_default-here-clause-found g t c =
    let s = c.look-seen.result in
    let is : depths c.args.tree.now ≡ depths s.left.now ++ (s.chunk.now ++ depths s.right.now) = search rules in
    rw is (ends_here c.args.depth c.args.number c.args.at c.args.passed s.left_size (depths s.left.now) s.chunk.now (depths s.right.now) c.look-seen.ensures.front
    c.find_in-here.result c.in-Behind.before (c.args.at + s.left_size + 0) (sym c.in-Behind.is ∙ c.find-ahead.ensures.found) (omega arith)
    c.find_in-here.ensures.found c.in_default-here.not-Behind)

pub returns-in_default-here-clause-behind : goal.returns-in_default-here-clause-behind
returns-in_default-here-clause-behind g t c = λ k. absurd (stopped c.find_in-here.result c.in_default-here.not-Behind k)

pub returns-in-Behind-here-clause-found : goal.returns-in-Behind-here-clause-found
returns-in-Behind-here-clause-found g t c =
    let s = c.look-seen.result in
    let is : depths c.args.tree.now ≡ depths s.left.now ++ (s.chunk.now ++ depths s.right.now) = search rules in
    rw is (ends_right c.args.depth c.args.number c.args.at c.args.passed s.left_size (depths s.left.now) s.chunk.now (depths s.right.now) c.look-seen.ensures.front
    c.find.result c.in-Behind.before (c.args.at + s.left_size + 0) c.in-Behind-here.children _ (sym c.in-Behind.is ∙ c.find-ahead.ensures.found) (omega arith)
    (sym c.in-Behind-here.is ∙ c.find_in-here.ensures.found) (omega arith) c.find.ensures.found)

pub returns-in-Behind-here-clause-behind : goal.returns-in-Behind-here-clause-behind
returns-in-Behind-here-clause-behind g t c = λ k.
    let s = c.look-seen.result in
    let is : depths c.args.tree.now ≡ depths s.left.now ++ (s.chunk.now ++ depths s.right.now) = search rules in
    let found = ends_right c.args.depth c.args.number c.args.at c.args.passed s.left_size (depths s.left.now) s.chunk.now (depths s.right.now) c.look-seen.ensures.front
    c.find.result c.in-Behind.before (c.args.at + s.left_size + 0) c.in-Behind-here.children _ (sym c.in-Behind.is ∙ c.find-ahead.ensures.found) (omega arith)
    (sym c.in-Behind-here.is ∙ c.find_in-here.ensures.found) (omega arith) c.find.ensures.found in
    let same : c.find.result ≡ sought c.args.depth c.args.number c.args.at c.args.passed (depths c.args.tree.now) = rw is found in
    absurd (c.in_default.ensures.answer (depths c.args.tree.now) c.args.at (search rules) (subst GoesOn same k))

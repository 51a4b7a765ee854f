use Rattle.std.proofs.Common.{rules, ◌≡◌, ◌+◌, ◌-◌, ◌++◌, length, refl, sym, ◌∙◌, arith}
use Rattle.depth_seq.specs.Trees.{depths}
use Rattle.depth_seq.proofs.Searches.{stopped}
use Rattle.depth_seq.proofs.SearchParts.{from_left, from_behind, from_here, from_right}
use Rattle.depth_seq.proofs.walks.+find_from.Goals as goal

pub returns-in_default-clause-found : goal.returns-in_default-clause-found
returns-in_default-clause-found g t c =
    let s = c.look-seen.result in
    let is : depths c.args.tree.now ≡ depths s.left.now ++ (s.chunk.now ++ depths s.right.now) = search rules in
    rw is (from_left c.args.depth c.args.number c.args.at c.args.from s.left_size (depths s.left.now) s.chunk.now (depths s.right.now) c.look-seen.ensures.front
    c.find_from-ahead.result (omega arith) c.find_from-ahead.ensures.found c.in_default.not-Behind)

pub returns-in_default-clause-behind : goal.returns-in_default-clause-behind
returns-in_default-clause-behind g t c = λ k. absurd (stopped c.find_from-ahead.result c.in_default.not-Behind k)

pub returns-then-from-seen-clause-found : goal.returns-then-from-seen-clause-found
returns-then-from-seen-clause-found g t c =
    let s = c.look-seen.result in
    let is : depths c.args.tree.now ≡ depths s.left.now ++ (s.chunk.now ++ depths s.right.now) = search rules in
    rw is (from_behind c.args.depth c.args.number c.args.at c.args.from s.left_size (depths s.left.now) s.chunk.now (depths s.right.now) c.look-seen.ensures.front
    c.find_behind.result c.in-Behind.before (c.args.at + s.left_size + 0) (omega arith) (sym c.in-Behind.is ∙ c.find_from-ahead.ensures.found) (omega arith)
    c.find_behind.ensures.found)

pub returns-then-inner-seen-clause-found : goal.returns-then-inner-seen-clause-found
returns-then-inner-seen-clause-found g t c =
    let s = c.look-seen.result in
    let is : depths c.args.tree.now ≡ depths s.left.now ++ (s.chunk.now ++ depths s.right.now) = search rules in
    rw is (from_here c.args.depth c.args.number c.args.at c.args.from s.left_size (depths s.left.now) s.chunk.now (depths s.right.now) c.look-seen.ensures.front
    c.find_behind-then-inner-seen.result (c.args.from - s.left_size) (c.args.at + s.left_size + (c.args.from - s.left_size)) (omega arith) refl (omega arith) (omega arith)
    c.find_behind-then-inner-seen.ensures.found)

pub returns-else-inner-seen-clause-found : goal.returns-else-inner-seen-clause-found
returns-else-inner-seen-clause-found g t c =
    let s = c.look-seen.result in
    let is : depths c.args.tree.now ≡ depths s.left.now ++ (s.chunk.now ++ depths s.right.now) = search rules in
    let size = length s.chunk.now in
    rw is (from_right c.args.depth c.args.number c.args.at c.args.from s.left_size (depths s.left.now) s.chunk.now (depths s.right.now) c.look-seen.ensures.front
    c.find_from.result (c.args.from - s.left_size - size) (c.args.at + s.left_size + size + (c.args.from - s.left_size - size)) (omega arith) refl (omega arith)
    c.find_from.ensures.found)

use Rattle.std.proofs.Common.{rules, ◌≡◌, ◌++◌, ◌-◌, drop, length, refl, sym, subst, IfOk, arith}
use Rattle.depth_seq.specs.Trees.{depths}
use Rattle.depth_seq.proofs.Parts.{drop_here, drop_right}
use Rattle.depth_seq.proofs.node.cutting.+rest.Goals as goal

pub returns-then-inner-size : goal.returns-then-inner-size
returns-then-inner-size t c =
    let n = c.node.inside in
    let is : depths c.args.tree.now ≡ depths n.left ++ (n.chunk.value.items ++ depths n.right) = search rules in
    let size : c.len-size.result ≡ length n.chunk.value.items = search rules in
    let cut = drop_here (depths n.left) n.chunk.value.items (depths n.right) n.left_size c.args.count c.node.invariant.front (c.args.count - n.left_size) refl (omega arith) (omega arith) in
    let same : c.in_ok-chunk_of-in-Node.field-0.value.items ++ depths n.right ≡ drop c.args.count (depths c.args.tree.now) =
    rw is (cc (cut, c.in_ok-chunk_of-in-Node.ensures, c.split_at.ensures.back, c.as_slice.ensures.value)) in
    subst (λ ds. IfOk c.join-then-inner-size.result (λ t'. depths t' ≡ ds)) same c.join-then-inner-size.ensures

pub returns-else-inner-size : goal.returns-else-inner-size
returns-else-inner-size t c =
    let n = c.node.inside in
    let is : depths c.args.tree.now ≡ depths n.left ++ (n.chunk.value.items ++ depths n.right) = search rules in
    let size : c.len-size.result ≡ length n.chunk.value.items = search rules in
    let cut = drop_right (depths n.left) n.chunk.value.items (depths n.right) n.left_size c.args.count c.node.invariant.front (c.args.count - n.left_size - c.len-size.result) (omega arith) (omega arith) in
    let same : drop (c.args.count - n.left_size - c.len-size.result) (depths n.right) ≡ drop c.args.count (depths c.args.tree.now) = rw is (sym cut) in
    subst (λ ds. IfOk c.rest-in-Node.result (λ t'. depths t' ≡ ds)) same c.rest-in-Node.ensures

use Rattle.std.proofs.Common.{ℕ, Bool, List, true, false}
use Rattle.std.specs.Borrow.{Bor}
use Rattle.lens_types.proofs.RepeatedNames.{is_known, repeated_here, new_here, one_more_key, not_of, is_new_key}
use Rattle.lens_types.proofs.names.first_repeat.Goals as goal

pub returns-then-not-branch : goal.returns-then-not-branch
returns-then-not-branch c =
    let n = c.name-item.result in
    let v : Bool × Bor (List ℕ) = (c.is_left.result, c.as_str.result) in
    let found = not_of _ _ false c.in_ok-insert.ensures.added c.if-not-branch.true in
    let among = is_known c.loop-name.known.keys c.args.names.now c.loop-name.name-index n v true c.loop-name.invariant.so_far c.is_left.ensures c.as_str.ensures found in
    repeated_here c.args.names.now c.loop-name.name-index n _ c.loop-name-test.true c.name-item.is among c.loop-name.invariant.repeat

pub loop-name-preserved : goal.loop-name-preserved
loop-name-preserved c =
    let n = c.name-item.result in
    let v : Bool × Bor (List ℕ) = (c.is_left.result, c.as_str.result) in
    let found = not_of _ _ true c.in_ok-insert.ensures.added c.if-not-branch.false in
    let among = is_known c.loop-name.known.keys c.args.names.now c.loop-name.name-index n v false c.loop-name.invariant.so_far c.is_left.ensures c.as_str.ensures found in
    record {
      so_far =
          one_more_key c.loop-name.known.keys c.insert.new.self.keys c.args.names.now c.loop-name.name-index n v c.loop-name-test.true c.name-item.is
          c.loop-name.invariant.so_far c.is_left.ensures c.as_str.ensures (is_new_key _ _ _ _ c.in_ok-insert.ensures.keys found);
      repeat = new_here c.args.names.now c.loop-name.name-index n _ c.loop-name-test.true c.name-item.is among c.loop-name.invariant.repeat;
    }

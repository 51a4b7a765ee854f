use Rattle.std.proofs.Common.{◌≡◌, ℕ, List, [], ◌+◌, ◌-◌, ◌<◌, ◌≤◌, get_or, drop, length, refl, sym, subst, arith}
use Rattle.hold_shapes.proofs.SharedItems.{item-at}
use Rattle.hold_shapes.proofs.ValidDepths.{GoesOn}
use Rattle.edit_inverse.specs.Paths.{paths_after}
use Rattle.edit_inverse.proofs.Building.{goes-first, goes-next}
use Rattle.edit_inverse.proofs.Regrown.{path-next}
use Rattle.edit_inverse.proofs.old_shapes.path_before.Goals as goal

pub loop-i-init : goal.loop-i-init
loop-i-init c =
    let es = c.args.depths.now in
    let empty = c.new-path.ensures.items in
    let P : List ℕ → Type 0 = λ q. paths_after [] (drop 1 es) ≡ paths_after q (drop 1 es) in
    let G : List ℕ → Type 0 = λ q. GoesOn (length q) (drop 1 es) in
    let L : List ℕ → Type 0 = λ q. (k : ℕ) → get_or q k 0 < 1 in
    record {
      path = subst P (sym empty) refl;
      goes = subst G (sym empty) (goes-first es c.requires.valid);
      low = subst L (sym empty) (λ k. omega arith);
    }

pub next_path-requires-clause-some : goal.next_path-requires-clause-some
next_path-requires-clause-some c =
    let es = c.args.depths.now in
    let l = c.loop-i in
    let d = c.get.result.now in
    let there : l.i < length es = omega (arith, c.loop-i-test.true, c.requires.within) in
    (goes-next l.path.items es l.i d there (item-at es l.i d d c.get.ensures) l.invariant.goes).0

pub next_path-requires-clause-most : goal.next_path-requires-clause-most
next_path-requires-clause-most c =
    let es = c.args.depths.now in
    let l = c.loop-i in
    let d = c.get.result.now in
    let there : l.i < length es = omega (arith, c.loop-i-test.true, c.requires.within) in
    (goes-next l.path.items es l.i d there (item-at es l.i d d c.get.ensures) l.invariant.goes).1

pub loop-i-preserved : goal.loop-i-preserved
loop-i-preserved c =
    let es = c.args.depths.now in
    let l = c.loop-i in
    let d = c.get.result.now in
    let there : l.i < length es = omega (arith, c.loop-i-test.true, c.requires.within) in
    let some : 1 ≤ l.i = omega (arith, l.auto.i) in
    let is = item-at es l.i d d c.get.ensures in
    let next = goes-next l.path.items es l.i d there is l.invariant.goes in
    let made = c.in_ok-path.ensures.0 in
    let P : List ℕ → Type 0 = λ q. drop (l.i + 1 - 1) (paths_after [] (drop 1 es)) ≡ paths_after q (drop (l.i + 1) es) in
    let G : List ℕ → Type 0 = λ q. GoesOn (length q) (drop (l.i + 1) es) in
    record {
      path = subst P (sym made) (path-next l.path.items es l.i d some there is l.invariant.path);
      goes = subst G (sym made) next.2;
      low = c.in_ok-path.ensures.1;
    }

use Rattle.std.proofs.Common.{ℕ, ◌+◌, ◌<◌, suc, List, map, take, drop, length, sym, ap, ◌∙◌, arith}
use Rattle.texts.specs.Keys.{key_rank}
use Rattle.hold_shapes.proofs.SharedItems.{item-at}
use Rattle.edit_module.specs.Words.{WordTree, word_of, joined}
use Rattle.edit_module.specs.Views.{primitive_tree}
use Rattle.edit_between.specs.Between.{drop_keys}
use Rattle.edit_between.proofs.KeySteps.{rank-next, rank-stop}
use Rattle.edit_between.proofs.keys.drop_before.Goals as goal

pub returns-then-not-is_before-clause-dropped : goal.returns-then-not-is_before-clause-dropped
returns-then-not-is_before-clause-dropped c = λ rest.
    let l = c.loop-i in
    let keys = c.args.keys.now in
    let m = c.get-old.result.now in
    let within : l.i < length keys = omega (arith, c.len-i-end.ensures, c.loop-i-test.true) in
    let none = rank-stop c.args.key.now keys l.i m c.requires.rising within (item-at keys l.i m m c.get-old.ensures) (sym c.is_before.ensures ∙ c.if-not-is_before.true) in
    ap (λ (n : ℕ). joined (word_of (map primitive_tree l.out.items)) (drop_keys (take n (drop l.i keys)) rest)) (sym none) ∙ l.invariant.left rest

pub returns-then-not-is_before-clause-behind : goal.returns-then-not-is_before-clause-behind
returns-then-not-is_before-clause-behind c =
    let l = c.loop-i in
    let keys = c.args.keys.now in
    let m = c.get-old.result.now in
    let within : l.i < length keys = omega (arith, c.len-i-end.ensures, c.loop-i-test.true) in
    let none = rank-stop c.args.key.now keys l.i m c.requires.rising within (item-at keys l.i m m c.get-old.ensures) (sym c.is_before.ensures ∙ c.if-not-is_before.true) in
    omega (arith, none, l.invariant.count)

pub loop-i-preserved : goal.loop-i-preserved
loop-i-preserved c =
    let l = c.loop-i in
    let keys = c.args.keys.now in
    let key = c.args.key.now in
    let m = c.get-old.result.now in
    let within : l.i < length keys = omega (arith, c.len-i-end.ensures, c.loop-i-test.true) in
    let next = rank-next key keys l.i m within (item-at keys l.i m m c.get-old.ensures) (sym c.is_before.ensures ∙ c.if-not-is_before.false) in
    let before = joined (word_of (map primitive_tree l.out.items)) in
    let rank = key_rank key (drop (l.i + 1) keys) in
    let left = λ (rest : WordTree).
    let W : List (List ℕ) → WordTree = λ ks. before (drop_keys (take (suc rank) ks) rest) in
    c.in_ok-push_drop.ensures (drop_keys (take rank (drop (l.i + 1) keys)) rest)
    ∙ (ap W (sym next.0)
    ∙ (ap (λ (n : ℕ). before (drop_keys (take n (drop l.i keys)) rest)) (sym next.1) ∙ l.invariant.left rest)) in
    record { left = left; count = let k = l.invariant.count in omega (arith, k, next.1) }

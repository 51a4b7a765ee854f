use Rattle.std.proofs.Common.{◌≡◌, ℕ, ◌+◌, ◌<◌, ◌≤◌, List, ◌∷◌, map, drop, length, sym, ap, subst, ◌∙◌, arith}
use Rattle.std.proofs.lemmas.List.{drop_all, drop_more}
use Rattle.hold_shapes.proofs.SharedItems.{item-at}
use Rattle.edit_module.specs.Words.{word_of, joined}
use Rattle.edit_module.specs.Views.{primitive_tree}
use Rattle.edit_between.specs.Between.{drop_keys}
use Rattle.edit_between.proofs.keys.drop_rest.Goals as goal

pub loop-i-preserved : goal.loop-i-preserved
loop-i-preserved c = λ rest.
    let l = c.loop-i in
    let keys = c.args.keys.now in
    let m = c.get.result.now in
    let within : l.i < length keys = omega (arith, c.len-i-end.ensures, c.loop-i-test.true) in
    let P : List ℕ → Type 0 = λ n. drop l.i keys ≡ n ∷ drop (l.i + 1) keys in
    let next : P m = subst P (sym (item-at keys l.i m m c.get.ensures)) (drop_more keys l.i m within) in
    c.in_ok-push_drop.ensures (drop_keys (drop (l.i + 1) keys) rest)
    ∙ (ap (λ (ks : List (List ℕ)). joined (word_of (map primitive_tree l.out.items)) (drop_keys ks rest)) (sym next) ∙ l.invariant rest)

pub returns : goal.returns
returns c = λ rest.
    let l = c.loop-i in
    let keys = c.args.keys.now in
    let past : length keys ≤ l.i = omega (arith, c.len-i-end.ensures, c.loop-i-test.false) in
    ap (λ (ks : List (List ℕ)). joined (word_of (map primitive_tree l.out.items)) (drop_keys ks rest)) (sym (drop_all l.i keys past)) ∙ l.invariant rest

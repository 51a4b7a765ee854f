use Rattle.std.proofs.Common.{◌≡◌, ◌<◌, ◌≤◌, length, map, ap, subst, ◌∙◌, arith}
use Rattle.std.specs.Prelude.{IfOk}
use Rattle.std.proofs.lemmas.List.{take_all}
use Rattle.doc_values.specs.Documents.{unit, doc_tree, docs_tree, doc_list}
use Rattle.law_images.specs.Patterns.{PatternTrees, patterns_tree, patterns_from, pattern_of}
use Rattle.lens_check.proofs.Levels.{doc_at_levels}
use Rattle.lens_check.proofs.WholePatterns.{patterns_one_by_one}
use Rattle.lens_check.proofs.whole.+whole.Goals as goal

pub whole_each-whole-requires : goal.whole_each-whole-requires
whole_each-whole-requires t c =
    let contents = doc_list (docs_tree c.args.docs.now) in
    let within : c.loop-i.i < length contents = omega (arith, c.len-count.ensures, c.loop-i-test.true) in
    let low = doc_at_levels (docs_tree c.args.docs.now) c.loop-i.i (doc_tree c.get.result.now) unit within c.get.ensures in
    (omega (arith, low), tt)

pub whole_each-returns : goal.whole_each-returns
whole_each-returns t c =
    let contents = doc_list (docs_tree c.args.docs.now) in
    let past : length contents ≤ c.loop-i.i = omega (arith, c.len-count.ensures, c.loop-i-test.false) in
    let all = ap patterns_from (c.loop-i.invariant ∙ ap (map pattern_of) (take_all c.loop-i.i contents past)) ∙ patterns_one_by_one (docs_tree c.args.docs.now) in
    subst (λ (ps : PatternTrees). IfOk c.from_vec.result (λ p. patterns_tree p ≡ ps)) all c.from_vec.ensures

use Rattle.std.proofs.Common.{◌≡◌, ◌<◌, ◌≤◌, true, length, sym, ◌∙◌, arith}
use Rattle.doc_values.specs.Documents.{unit, doc_tree, docs_tree, doc_list}
use Rattle.law_images.specs.Patterns.{hole, pattern_tree, patterns_tree, pattern_count}
use Rattle.lens_check.specs.MatchTest.{is_match}
use Rattle.lens_check.proofs.FitLoops.{and_passes}
use Rattle.lens_check.proofs.Levels.{pattern_at_levels}
use Rattle.lens_check.proofs.MatchLoops.{match_all, match_next, match_done, match_apart}
use Rattle.lens_check.proofs.membership.+is_match.Goals as goal

pub match_each-returns-then-len : goal.match_each-returns-then-len
match_each-returns-then-len t c =
    match_apart (patterns_tree c.args.patterns.now) (docs_tree c.args.docs.now) (λ (e : pattern_count (patterns_tree c.args.patterns.now) ≡ length (doc_list (docs_tree c.args.docs.now))). absurd (omega (arith, e)))

pub match_each-loop-i-init : goal.match_each-loop-i-init
match_each-loop-i-init t c = match_all (patterns_tree c.args.patterns.now) (docs_tree c.args.docs.now)

pub match_each-is_match-requires : goal.match_each-is_match-requires
match_each-is_match-requires t c =
    let within : c.loop-i.i < pattern_count (patterns_tree c.args.patterns.now) = omega (arith, c.len-i-end.ensures, c.loop-i-test.true) in
    let low = pattern_at_levels (patterns_tree c.args.patterns.now) c.loop-i.i (pattern_tree c.get.result.now) hole within c.get.ensures in
    (omega (arith, low), tt)

pub match_each-loop-i-preserved : goal.match_each-loop-i-preserved
match_each-loop-i-preserved t c =
    let ps = patterns_tree c.args.patterns.now in
    let ds = docs_tree c.args.docs.now in
    let many : pattern_count ps ≡ length (doc_list ds) = omega arith in
    let within : c.loop-i.i < pattern_count ps = omega (arith, c.len-i-end.ensures, c.loop-i-test.true) in
    let good : is_match (pattern_tree c.get.result.now) (doc_tree c.get-in-loop-i.result.now) ≡ true = cc in
    let next = match_next ps ds c.loop-i.i (pattern_tree c.get.result.now) hole (doc_tree c.get-in-loop-i.result.now) unit many within c.get.ensures c.get-in-loop-i.ensures in
    and_passes _ _ _ _ good next c.loop-i.invariant

pub match_each-returns : goal.match_each-returns
match_each-returns t c =
    let ps = patterns_tree c.args.patterns.now in
    let ds = docs_tree c.args.docs.now in
    let many : pattern_count ps ≡ length (doc_list ds) = omega arith in
    let past : pattern_count ps ≤ c.loop-i.i = omega (arith, c.len-i-end.ensures, c.loop-i-test.false) in
    sym (match_done ps ds c.loop-i.i many past) ∙ c.loop-i.invariant

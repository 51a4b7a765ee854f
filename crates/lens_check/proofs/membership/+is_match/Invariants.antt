use Rattle.std.proofs.Common.{◌≡◌, ◌+◌, ◌*◌}
use Rattle.doc_values.specs.Documents.{docs_tree}
use Rattle.law_images.specs.Patterns.{pattern_tree, patterns_tree}
use Rattle.lens_check.specs.MatchTest.{match_each}
use Rattle.lens_check.proofs.Levels.{pattern_levels, patterns_levels}
use Rattle.lens_check.proofs.MatchLoops.{match_from}
use Rattle.lens_check.proofs.membership.+is_match.Given as goal

abbrev pub decreases-is_match : goal.decreases-is_match
decreases-is_match l = 2 * pattern_levels (pattern_tree l.pattern.now)

abbrev pub decreases-match_each : goal.decreases-match_each
decreases-match_each l = 2 * patterns_levels (patterns_tree l.patterns.now) + 1

abbrev pub invariant-match_each-loop-i : goal.invariant-match_each-loop-i
invariant-match_each-loop-i l =
    match_from (patterns_tree l.patterns) (docs_tree l.docs) l.i ≡ match_each (patterns_tree l.patterns) (docs_tree l.docs)

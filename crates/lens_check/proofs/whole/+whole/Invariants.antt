use Rattle.std.proofs.Common.{◌≡◌, ◌+◌, ◌*◌, map, take}
use Rattle.doc_values.specs.Documents.{doc_tree, docs_tree, doc_list}
use Rattle.law_images.specs.Patterns.{pattern_tree, pattern_of}
use Rattle.lens_check.proofs.Levels.{doc_levels, docs_levels}
use Rattle.lens_check.proofs.whole.+whole.Given as goal

abbrev pub decreases-whole : goal.decreases-whole
decreases-whole l = 2 * doc_levels (doc_tree l.document.now)

abbrev pub decreases-whole_each : goal.decreases-whole_each
decreases-whole_each l = 2 * docs_levels (docs_tree l.docs.now) + 1

abbrev pub invariant-whole_each-loop-i : goal.invariant-whole_each-loop-i
invariant-whole_each-loop-i l = map pattern_tree l.items.items ≡ map pattern_of (take l.i (doc_list (docs_tree l.docs)))

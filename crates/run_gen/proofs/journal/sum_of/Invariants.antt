use Rattle.doc_values.specs.Documents.{docs_tree, doc_list}
use Rattle.run_gen.proofs.Ends.{IsSummed}
use Rattle.run_gen.proofs.journal.sum_of.Given as goal

abbrev pub invariant-loop-place : goal.invariant-loop-place
invariant-loop-place l = IsSummed (doc_list (docs_tree l.fn.nums)) l.place l.sum

use Rattle.std.proofs.Common.{length}
use Rattle.doc_values.specs.Types.{fields_tree}
use Rattle.complement_file.proofs.TakenParts.{TagsSoFar}
use Rattle.complement_file.proofs.tokens.take_tag_numbers.Given as goal

abbrev pub invariant-loop-reader : goal.invariant-loop-reader
invariant-loop-reader l = TagsSoFar (fields_tree l.tags) l.depth l.initial.reader l.reader l.numbers.items

abbrev pub decreases-loop-reader : goal.decreases-loop-reader
decreases-loop-reader l = length l.reader

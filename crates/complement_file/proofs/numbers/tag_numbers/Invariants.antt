use Rattle.std.proofs.Common.{drop}
use Rattle.serde_json.specs.View.{items_view}
use Rattle.doc_values.specs.Types.{fields_tree}
use Rattle.complement_file.specs.Reading.{AreTags}
use Rattle.complement_file.proofs.ReadSoFar.{NumbersRead}
use Rattle.complement_file.proofs.numbers.tag_numbers.Given as goal

-- what has been read, and what is left
abbrev pub invariant-loop-item : goal.invariant-loop-item
invariant-loop-item l = NumbersRead (AreTags (fields_tree l.tags) (items_view l.items)) (AreTags (fields_tree l.tags) (items_view (drop l.item-index l.items))) l.numbers.items

use Rattle.std.proofs.Common.{◌≡◌, [], map, drop, get_or}
use Rattle.std.specs.Prelude.{vec_items}
use Rattle.doc_values.specs.Types.{type_fields_of, field_tree, fields_tree}
use Rattle.edit_module.specs.Words.{joined}
use Rattle.edit_module.specs.Views.{word_tree}
use Rattle.lens_core.specs.Partition.{at_each_tag, reorder}
use Rattle.partition_lens.proofs.orders.reorders.Given as goal

abbrev pub invariant-loop-number : goal.invariant-loop-number
invariant-loop-number l =
    joined (word_tree l.word) (at_each_tag (type_fields_of (map field_tree (drop l.number l.fields))) l.number (λ t. reorder (get_or (map vec_items l.ranks) t [])))
    ≡ at_each_tag (fields_tree l.tags) 0 (λ t. reorder (get_or (map vec_items l.ranks) t []))

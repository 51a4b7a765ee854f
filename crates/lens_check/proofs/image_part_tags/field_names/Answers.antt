use Rattle.std.proofs.Common.{rules}
use Rattle.std.proofs.lemmas.List.Sorted.{answers_always}
use Rattle.doc_values.specs.Types.{fields_tree}
use Rattle.lens_check.proofs.PartNames.{name_before, by_bytes, sorted_names}
use Rattle.lens_check.proofs.image_part_tags.field_names.Goals as goal

pub returns : goal.returns
returns c =
    sorted_names (fields_tree c.args.tags.now) _ _ c.in_ok-names.ensures (c.in_ok-sort_by.ensures.sorted name_before by_bytes (answers_always _ _ _ (λ f a r g h. search rules)))
    (c.sort_by.ensures.stable name_before by_bytes (answers_always _ _ _ (λ f a r g h. search rules)))

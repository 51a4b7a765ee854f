use Rattle.std.proofs.Common.{rules}
use Rattle.std.proofs.lemmas.List.Sorted.{answers_always}
use Rattle.lens_types.proofs.StableSort.{name_before, by_name, sorted_fields}
use Rattle.lens_types.proofs.expansion.sorted.Goals as goal

pub returns : goal.returns
returns c =
    sorted_fields _ _ (c.in_ok-sort_by.ensures.sorted name_before by_name (answers_always _ _ _ (λ f a r g h. search rules)))
    (c.sort_by.ensures.stable name_before by_name (answers_always _ _ _ (λ f a r g h. search rules)))

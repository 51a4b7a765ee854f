use Rattle.std.proofs.Common.{ap, ◌∙◌}
use Rattle.file_patches.specs.Places.{is_index}
use Rattle.file_patches.proofs.Indexes.{long_index}
use Rattle.file_patches.proofs.places.is_index.Goals as goal

pub returns-else-bytes-eq1 : goal.returns-else-bytes-eq1
returns-else-bytes-eq1 c =
    long_index c.as_bytes-bytes.result.now c.if-is_empty.ensures c.if-not-are_digits.ensures c.if-bytes-eq1.false ∙ ap is_index c.as_bytes-bytes.ensures.value

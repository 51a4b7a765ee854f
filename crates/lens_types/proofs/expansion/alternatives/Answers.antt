use Rattle.std.proofs.Common.{sym, ◌∙◌}
use Rattle.lens_types.proofs.Lists.{form_tree-alt, some_arms}
use Rattle.lens_types.proofs.expansion.alternatives.Goals as goal

pub returns-else-is_empty : goal.returns-else-is_empty
returns-else-is_empty c =
    rw (form_tree-alt, ← c.as_slice.ensures) (some_arms c.as_slice.result.now (sym c.is_empty.ensures ∙ c.if-is_empty.false))

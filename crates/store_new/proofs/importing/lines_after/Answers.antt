use Rattle.std.proofs.Common.{◌++◌, ◌∙◌, ap₂}
use Rattle.store_new.proofs.importing.lines_after.Goals as goal

pub returns : goal.returns
returns g c = c.in_ok-extend_from_slice.ensures.items ∙ ap₂ (λ x y. x ++ y) (c.into_vec-lines.ensures ∙ c.in_ok-answer.ensures.line) (c.deref.ensures.value ∙ c.in_ok-state.ensures.lines)

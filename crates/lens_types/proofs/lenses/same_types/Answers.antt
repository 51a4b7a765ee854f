use Rattle.std.proofs.Common.{sym, ◌∙◌}
use Rattle.lens_types.proofs.SideTypes.{same_middles, other_middles}
use Rattle.lens_types.proofs.lenses.same_types.Goals as goal

pub returns-then-not-is_same : goal.returns-then-not-is_same
returns-then-not-is_same c = λ l k e f. other_middles l k _ _ e f (sym c.is_same.ensures.test ∙ c.if-not-is_same.true)

pub returns : goal.returns
returns c = λ l k e f. same_middles l k _ _ e f (sym c.is_same.ensures.test ∙ c.if-not-is_same.false)

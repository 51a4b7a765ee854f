use Rattle.lens_check.proofs.MatchTests.{same_shape_test}
use Rattle.lens_check.proofs.membership.is_same_shape.Goals as goal

pub returns : goal.returns
returns c = same_shape_test _ _ _ c.is_same.ensures

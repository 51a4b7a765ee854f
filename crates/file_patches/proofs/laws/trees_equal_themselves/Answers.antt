use Rattle.std.proofs.Common.{ap, ◌∙◌}
use Rattle.file_patches.specs.Patching.{tested}
use Rattle.file_patches.specs.Results.{and_then}
use Rattle.file_patches.proofs.SelfEqual.{equal_self, test_self}
use Rattle.file_patches.proofs.laws.trees_equal_themselves.Goals as goal

pub returns-clause-equal : goal.returns-clause-equal
returns-clause-equal c = λ j h. equal_self j h

pub returns-clause-tested : goal.returns-clause-tested
returns-clause-tested c = λ p j k e h. ap (and_then (tested j k)) e ∙ test_self j k h

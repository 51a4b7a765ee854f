-- What a patch can and can not write: whether each number in it has the text of one.
use Rattle.std.specs.Prelude.{List, [], ◌∷◌, ⊤}
use Rattle.json.specs.Tree.{HasNumbers}
use Rattle.file_patches.specs.Operations.{OperationTree, add, remove, replace, move, copy, test}

-- the value that an operation brings has the texts of numbers
abbrev pub BringsNumbers : OperationTree → Type 0
BringsNumbers (add p k) = HasNumbers k
BringsNumbers (remove p) = ⊤
BringsNumbers (replace p k) = HasNumbers k
BringsNumbers (move f p) = ⊤
BringsNumbers (copy f p) = ⊤
BringsNumbers (test p k) = ⊤

abbrev pub PatchHasNumbers : List OperationTree → Type 0
PatchHasNumbers [] = ⊤
PatchHasNumbers (o ∷ os) = BringsNumbers o × PatchHasNumbers os

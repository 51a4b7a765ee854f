-- The values of a patch, and what holds for each of them.
use Rattle.std.specs.Prelude.{List, [], ◌∷◌, ⊤}
use Rattle.json.specs.Json.{Json}
use Rattle.file_patches.specs.Operations.{OperationTree, add, remove, replace, move, copy, test}

-- it holds for the value of an operation, if this has one
abbrev pub ValueHas : (Json → Type 0) → OperationTree → Type 0
ValueHas Holds (add p k) = Holds k
ValueHas Holds (remove p) = ⊤
ValueHas Holds (replace p k) = Holds k
ValueHas Holds (move f p) = ⊤
ValueHas Holds (copy f p) = ⊤
ValueHas Holds (test p k) = Holds k

-- it holds for each value of a patch
abbrev pub ValuesHave : (Json → Type 0) → List OperationTree → Type 0
ValuesHave Holds [] = ⊤
ValuesHave Holds (o ∷ os) = ValueHas Holds o × ValuesHave Holds os

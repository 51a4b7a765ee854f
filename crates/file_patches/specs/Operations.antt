-- The operations of a patch as contracts see them.
use Rattle.std.specs.Prelude.{ℕ, List, map}
use Rattle.json.specs.Json.{Json}
use Rattle.file_trees.specs.FileTrees.{file_tree}
use Rattle.file_patches.specs.declared.operations.Operation.{Operation}
use Rattle.file_patches.specs.declared.operations.Operation.TheVariants as made

-- a place, and a value or the place that a value comes from: that one is first
pub data OperationTree : Type 0 where
  add : List (List ℕ) → Json → OperationTree
  remove : List (List ℕ) → OperationTree
  replace : List (List ℕ) → Json → OperationTree
  move : List (List ℕ) → List (List ℕ) → OperationTree
  copy : List (List ℕ) → List (List ℕ) → OperationTree
  test : List (List ℕ) → Json → OperationTree

abbrev pub operation_tree : Operation → OperationTree
operation_tree (made.Add p t) = add p (file_tree t)
operation_tree (made.Remove p) = remove p
operation_tree (made.Replace p t) = replace p (file_tree t)
operation_tree (made.Move f p) = move f p
operation_tree (made.Copy f p) = copy f p
operation_tree (made.Test p t) = test p (file_tree t)

abbrev pub patch_view : List Operation → List OperationTree
patch_view os = map operation_tree os

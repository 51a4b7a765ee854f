-- What holds for the tree of a patch's document holds for the values of the patch, if it holds for what is in it.
use Rattle.std.proofs.Common.{ℕ, ◌+◌, cond, Bool, true, false, List, ◌∷◌, Option, Some, None, Result, Ok, Err}
use Rattle.std.specs.Prelude.{codes}
use Rattle.json.specs.Json.{Json, null, boolean, number, string, array, object, Items, no_items, item, Members}
use Rattle.file_patches.specs.declared.fault.Misread.{Misread}
use Rattle.file_patches.specs.declared.fault.Misread.TheVariants.{NoValue}
use Rattle.file_patches.specs.declared.kinds.Kind.{Kind}
use Rattle.file_patches.specs.declared.kinds.Kind.TheVariants as kinds
use Rattle.file_patches.specs.Results.{and_then, on_ok}
use Rattle.file_patches.specs.Equality.{named}
use Rattle.file_patches.specs.Operations.{add, replace, move, copy, test}
use Rattle.file_patches.specs.Reading.{or_misread, kind_in, path_in, from_in, value_in, operation_with, operation_of, misread_in, operations_from, patch_of}
use Rattle.file_patches.specs.Values.{ValueHas, ValuesHave}
use Rattle.file_patches.proofs.Keeps.{OkHas, on_held, on_both, then_held, then_both}

-- what holds for a content, if there is one
abbrev pub SomeHas : (Json → Type 0) → Option Json → Type 0
SomeHas Holds None = Unit {0}
SomeHas Holds (Some j) = Holds j

or_held : (Holds : Json → Type 0) (why : Misread) (o : Option Json) → SomeHas Holds o → OkHas Holds (or_misread why o)
or_held Holds why None h = tt
or_held Holds why (Some j) h = h

misread_held : {A : Type 0} (Holds : A → Type 0) (n : ℕ) (r : Result A Misread) → OkHas Holds r → OkHas Holds (misread_in n r)
misread_held Holds n (Ok a) h = h
misread_held Holds n (Err why) h = tt

pub chosen : (Holds : Json → Type 0) (b : Bool) (o p : Option Json) → SomeHas Holds o → SomeHas Holds p → SomeHas Holds (cond b o p)
chosen Holds true o p h g = h
chosen Holds false o p h g = g

module _
    (Holds : Json → Type 0)
    (of_named : (n : List ℕ) (ms : Members) → Holds (object ms) → SomeHas Holds (named n ms))
    (of_first : (j : Json) (js : Items) → Holds (array (item j js)) → Holds j)
    (of_rest : (j : Json) (js : Items) → Holds (array (item j js)) → Holds (array js)) where
  value_held : (ms : Members) → Holds (object ms) → OkHas Holds (value_in ms)
  value_held ms h = or_held Holds NoValue (named (codes "value") ms) (of_named (codes "value") ms h)

  with_held : (kind : Kind) (p : List (List ℕ)) (ms : Members) → Holds (object ms) → OkHas (ValueHas Holds) (operation_with kind p ms)
  with_held kinds.Add p ms h = on_both Holds (ValueHas Holds) (λ k. add p k) (value_in ms) (value_held ms h) (λ k g. g)
  with_held kinds.Remove p ms h = tt
  with_held kinds.Replace p ms h = on_both Holds (ValueHas Holds) (λ k. replace p k) (value_in ms) (value_held ms h) (λ k g. g)
  with_held kinds.Move p ms h = on_held (ValueHas Holds) (λ f. move f p) (from_in ms) (λ f. tt)
  with_held kinds.Copy p ms h = on_held (ValueHas Holds) (λ f. copy f p) (from_in ms) (λ f. tt)
  with_held kinds.Test p ms h = on_both Holds (ValueHas Holds) (λ k. test p k) (value_in ms) (value_held ms h) (λ k g. g)

  operation_held : (j : Json) → Holds j → OkHas (ValueHas Holds) (operation_of j)
  operation_held null h = tt
  operation_held (boolean b) h = tt
  operation_held (number s) h = tt
  operation_held (string s) h = tt
  operation_held (array js) h = tt
  operation_held (object ms) h =
      then_held (ValueHas Holds) (λ kind. and_then (λ p. operation_with kind p ms) (path_in ms)) (kind_in ms)
      (λ kind. then_held (ValueHas Holds) (λ p. operation_with kind p ms) (path_in ms) (λ p. with_held kind p ms h))

  operations_held : (n : ℕ) (js : Items) → Holds (array js) → OkHas (ValuesHave Holds) (operations_from n js)
  operations_held n no_items h = tt
  operations_held n (item j js) h =
      then_both (ValueHas Holds) (ValuesHave Holds)
      (λ o. on_ok (λ os. o ∷ os) (operations_from (n + 1) js)) (misread_in n (operation_of j))
      (misread_held (ValueHas Holds) n (operation_of j) (operation_held j (of_first j js h)))
      (λ o g. on_both (ValuesHave Holds) (ValuesHave Holds) (λ os. o ∷ os) (operations_from (n + 1) js)
      (operations_held (n + 1) js (of_rest j js h)) (λ os e. (g, e)))

  pub patch_held : (j : Json) → Holds j → OkHas (ValuesHave Holds) (patch_of j)
  patch_held null h = tt
  patch_held (boolean b) h = tt
  patch_held (number s) h = tt
  patch_held (string s) h = tt
  patch_held (array js) h = operations_held 0 js h
  patch_held (object ms) h = tt

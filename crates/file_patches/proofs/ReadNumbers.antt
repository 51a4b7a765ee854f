-- A patch that is read from a tree of texts of numbers brings such texts alone.
use Rattle.std.proofs.Common.{ℕ, ◌+◌, Bool, true, false, cond, List, ◌∷◌, Option, Some, None, IfSome, Result, Ok, Err, IfOk}
use Rattle.std.specs.Prelude.{bytes_eq, codes}
use Rattle.json.specs.Json.{Json, null, boolean, number, string, array, object, Items, no_items, item, Members, no_members, member}
use Rattle.json.specs.Tree.{HasNumbers, ItemsHaveNumbers, MembersHaveNumbers}
use Rattle.file_patches.specs.declared.fault.Misread.{Misread}
use Rattle.file_patches.specs.declared.fault.Misread.TheVariants.{NoValue}
use Rattle.file_patches.specs.declared.kinds.Kind.{Kind}
use Rattle.file_patches.specs.declared.kinds.Kind.TheVariants as kinds
use Rattle.file_patches.specs.Equality.{named}
use Rattle.file_patches.specs.Operations.{OperationTree, add, replace, move, copy, test}
use Rattle.file_patches.specs.Kept.{BringsNumbers, PatchHasNumbers}
use Rattle.file_patches.specs.Reading.{or_misread, kind_in, path_in, from_in, value_in, operation_with, operation_of, misread_in, operations_from, patch_of}
use Rattle.file_patches.specs.Results.{on_ok}
use Rattle.file_patches.proofs.IfDone.{if_then, if_on, any_then, any_on}

named_by : (b : Bool) (j : Json) (o : Option Json) → HasNumbers j → IfSome o HasNumbers → IfSome (cond b (Some j) o) HasNumbers
named_by true j o h g = h
named_by false j o h g = g

named_numbers : (n : List ℕ) (ms : Members) → MembersHaveNumbers ms → IfSome (named n ms) HasNumbers
named_numbers n no_members h = tt
named_numbers n (member k j ms) h = named_by (bytes_eq n k) j (named n ms) h.0 (named_numbers n ms h.1)

or_numbers : (why : Misread) (o : Option Json) → IfSome o HasNumbers → IfOk (or_misread why o) HasNumbers
or_numbers why None h = tt
or_numbers why (Some j) h = h

value_numbers : (ms : Members) → MembersHaveNumbers ms → IfOk (value_in ms) HasNumbers
value_numbers ms h = or_numbers NoValue (named (codes "value") ms) (named_numbers (codes "value") ms h)

with_numbers : (kind : Kind) (p : List (List ℕ)) (ms : Members) → MembersHaveNumbers ms → IfOk (operation_with kind p ms) BringsNumbers
with_numbers kinds.Add p ms h = if_on HasNumbers BringsNumbers (λ k. add p k) (value_in ms) (value_numbers ms h) (λ k n. n)
with_numbers kinds.Remove p ms h = tt
with_numbers kinds.Replace p ms h = if_on HasNumbers BringsNumbers (λ k. replace p k) (value_in ms) (value_numbers ms h) (λ k n. n)
with_numbers kinds.Move p ms h = any_on BringsNumbers (λ f. move f p) (from_in ms) (λ f. tt)
with_numbers kinds.Copy p ms h = any_on BringsNumbers (λ f. copy f p) (from_in ms) (λ f. tt)
with_numbers kinds.Test p ms h = any_on BringsNumbers (λ k. test p k) (value_in ms) (λ k. tt)

operation_numbers : (j : Json) → HasNumbers j → IfOk (operation_of j) BringsNumbers
operation_numbers (object ms) h =
    any_then BringsNumbers _ (kind_in ms) (λ kind. any_then BringsNumbers (λ p. operation_with kind p ms) (path_in ms) (λ p. with_numbers kind p ms h))
operation_numbers null h = tt
operation_numbers (boolean b) h = tt
operation_numbers (number s) h = tt
operation_numbers (string s) h = tt
operation_numbers (array js) h = tt

misread_ok : (n : ℕ) (r : Result OperationTree Misread) → IfOk r BringsNumbers → IfOk (misread_in n r) BringsNumbers
misread_ok n (Ok o) h = h
misread_ok n (Err why) h = tt

read_numbers : (n : ℕ) (js : Items) → ItemsHaveNumbers js → IfOk (operations_from n js) PatchHasNumbers
read_numbers n no_items h = tt
read_numbers n (item j js) h =
    if_then BringsNumbers PatchHasNumbers (λ o. on_ok (λ os. o ∷ os) (operations_from (n + 1) js)) (misread_in n (operation_of j)) (misread_ok n (operation_of j) (operation_numbers j h.0))
    (λ o b. if_on PatchHasNumbers PatchHasNumbers (λ os. o ∷ os) (operations_from (n + 1) js) (read_numbers (n + 1) js h.1) (λ os q. (b, q)))

pub patch_numbers : (j : Json) → HasNumbers j → IfOk (patch_of j) PatchHasNumbers
patch_numbers (array js) h = read_numbers 0 js h
patch_numbers null h = tt
patch_numbers (boolean b) h = tt
patch_numbers (number s) h = tt
patch_numbers (string s) h = tt
patch_numbers (object ms) h = tt

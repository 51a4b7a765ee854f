-- The patch that a tree is: `patch_of`, at the end.
use Rattle.std.specs.Prelude.{ℕ, ◌+◌, if◌then◌else◌, List, [], ◌∷◌, bytes_eq, codes, Option, Some, None, Result}
use Rattle.std.specs.Prelude.{Ok, Err}
use Rattle.json.specs.Json.{Json, string, array, object, Items, no_items, item, Members}
use Rattle.file_patches.specs.declared.fault.Misread.{Misread}
use Rattle.file_patches.specs.declared.fault.Misread.TheVariants.{NotAnObject, NoKind, UnknownKind, NoPath}
use Rattle.file_patches.specs.declared.fault.Misread.TheVariants.{BadPath, NoFrom}
use Rattle.file_patches.specs.declared.fault.Misread.TheVariants.{BadFrom, NoValue}
use Rattle.file_patches.specs.declared.fault.ReadRefusal.{ReadRefusal}
use Rattle.file_patches.specs.declared.fault.ReadRefusal.TheVariants.{NotAList, At}
use Rattle.file_patches.specs.declared.kinds.Kind.{Kind}
use Rattle.file_patches.specs.declared.kinds.Kind.TheVariants as kinds
use Rattle.file_patches.specs.Results.{and_then, on_ok}
use Rattle.file_patches.specs.Pointers.{pointer}
use Rattle.file_patches.specs.Equality.{named}
use Rattle.file_patches.specs.Operations.{OperationTree, add, remove, replace, move, copy, test}

-- the kind of an operation, by its text
abbrev pub kind_of : List ℕ → Option Kind
kind_of s =
    if bytes_eq s (codes "add") then Some kinds.Add else
    if bytes_eq s (codes "remove") then Some kinds.Remove else
    if bytes_eq s (codes "replace") then Some kinds.Replace else
    if bytes_eq s (codes "move") then Some kinds.Move else
    if bytes_eq s (codes "copy") then Some kinds.Copy else
    if bytes_eq s (codes "test") then Some kinds.Test else None

abbrev pub or_misread : {A : Type 0} → Misread → Option A → Result A Misread
or_misread why None = Err why
or_misread why (Some a) = Ok a

-- the text of a member, and the cause where it is no text
abbrev pub text_in : Misread → Option Json → Result (List ℕ) Misread
text_in why (Some (string s)) = Ok s
text_in why _ = Err why

abbrev pub kind_in : Members → Result Kind Misread
kind_in ms = and_then (λ s. or_misread UnknownKind (kind_of s)) (text_in NoKind (named (codes "op") ms))

-- the pointer that a member is, and the causes where it is no text and where it is no pointer
abbrev pub pointer_in : Misread → Misread → Option Json → Result (List (List ℕ)) Misread
pointer_in missing bad o = and_then (λ s. or_misread bad (pointer s)) (text_in missing o)

abbrev pub path_in : Members → Result (List (List ℕ)) Misread
path_in ms = pointer_in NoPath BadPath (named (codes "path") ms)

abbrev pub from_in : Members → Result (List (List ℕ)) Misread
from_in ms = pointer_in NoFrom BadFrom (named (codes "from") ms)

abbrev pub value_in : Members → Result Json Misread
value_in ms = or_misread NoValue (named (codes "value") ms)

-- the operation of a kind at a place, with the other members that this kind needs
abbrev pub operation_with : Kind → List (List ℕ) → Members → Result OperationTree Misread
operation_with kinds.Add p ms = on_ok (λ k. add p k) (value_in ms)
operation_with kinds.Remove p ms = Ok (remove p)
operation_with kinds.Replace p ms = on_ok (λ k. replace p k) (value_in ms)
operation_with kinds.Move p ms = on_ok (λ f. move f p) (from_in ms)
operation_with kinds.Copy p ms = on_ok (λ f. copy f p) (from_in ms)
operation_with kinds.Test p ms = on_ok (λ k. test p k) (value_in ms)

-- the operation that an object is: members may be in any order, and others are ignored
abbrev pub operation_of : Json → Result OperationTree Misread
operation_of (object ms) = and_then (λ kind. and_then (λ p. operation_with kind p ms) (path_in ms)) (kind_in ms)
operation_of _ = Err NotAnObject

abbrev pub misread_in : {A : Type 0} → ℕ → Result A Misread → Result A ReadRefusal
misread_in n (Ok a) = Ok a
misread_in n (Err why) = Err (At n why)

-- the operations that items are, of which the first has this number
abbrev pub operations_from : ℕ → Items → Result (List OperationTree) ReadRefusal
operations_from n no_items = Ok []
operations_from n (item j js) =
    and_then (λ o. on_ok (λ os. o ∷ os) (operations_from (n + 1) js)) (misread_in n (operation_of j))

-- the patch that an array is, or the first operation that is misread, by its number, and the cause
abbrev pub patch_of : Json → Result (List OperationTree) ReadRefusal
patch_of (array js) = operations_from 0 js
patch_of _ = Err NotAList

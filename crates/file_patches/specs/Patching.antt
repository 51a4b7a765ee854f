-- What a patch makes of a tree (RFC 6902): `patched`, at the end.
use Rattle.std.specs.Prelude.{ℕ, ◌+◌, Bool, true, false, ◌&&◌, ◌==◌, nat_le, if◌then◌else◌, List, [], ◌∷◌}
use Rattle.std.specs.Prelude.{length, bytes_eq}
use Rattle.std.specs.Prelude.{Result, Ok, Err}
use Rattle.json.specs.Json.{Json, max_depth}
use Rattle.json.specs.Tree.{depth}
use Rattle.file_patches.specs.declared.fault.Cause.{Cause}
use Rattle.file_patches.specs.declared.fault.Cause.TheVariants.{TestFailed, IntoItself, TooDeep}
use Rattle.file_patches.specs.Results.{and_then}
use Rattle.file_patches.specs.Equality.{equal}
use Rattle.file_patches.specs.Places.{content_at}
use Rattle.file_patches.specs.Changes.{adds, replaces, removes, changed}
use Rattle.file_patches.specs.Operations.{OperationTree, add, remove, replace, move, copy, test}

-- a place begins with the parts of another one, or is that place
abbrev pub begins_with : List (List ℕ) → List (List ℕ) → Bool
begins_with [] ps = true
begins_with (f ∷ fs) [] = false
begins_with (f ∷ fs) (p ∷ ps) = bytes_eq f p && begins_with fs ps

abbrev pub is_same_place : List (List ℕ) → List (List ℕ) → Bool
is_same_place fs ps = (length fs == length ps) && begins_with fs ps

-- at this place a value nests no deeper than a file may
abbrev pub is_shallow : List (List ℕ) → Json → Bool
is_shallow p k = nat_le (length p + depth k) max_depth

abbrev pub if_shallow : Bool → Json → Result Json Cause
if_shallow shallow j = if shallow then Ok j else Err TooDeep

-- a value is added at a place, or put in the place of another one
abbrev pub added : List (List ℕ) → Json → Json → Result Json Cause
added p k j = and_then (if_shallow (is_shallow p k)) (changed (adds k) p j)

abbrev pub replaced : List (List ℕ) → Json → Json → Result Json Cause
replaced p k j = and_then (if_shallow (is_shallow p k)) (changed (replaces k) p j)

-- the content k of the place f is moved to the place p: it stays where both are one, and is not moved into itself
abbrev pub moved : List (List ℕ) → List (List ℕ) → Json → Json → Result Json Cause
moved f p j k =
    if is_same_place f p then Ok j else
    if begins_with f p then Err IntoItself else and_then (added p k) (changed removes f j)

abbrev pub tested : Json → Json → Json → Result Json Cause
tested j v k = if equal k v then Ok j else Err TestFailed

-- what an operation makes of a tree
abbrev pub operated : OperationTree → Json → Result Json Cause
operated (add p k) j = added p k j
operated (remove p) j = changed removes p j
operated (replace p k) j = replaced p k j
operated (move f p) j = and_then (moved f p j) (content_at f j)
operated (copy f p) j = and_then (λ k. added p k j) (content_at f j)
operated (test p v) j = and_then (tested j v) (content_at p j)

-- what the operations make of it one after another, of which the first has this number; or the number of the first
-- that cannot be done, and the cause
abbrev pub numbered : {A : Type 0} → ℕ → Result A Cause → Result A (ℕ × Cause)
numbered n (Ok a) = Ok a
numbered n (Err cause) = Err (n, cause)

abbrev pub patched_from : ℕ → List OperationTree → Json → Result Json (ℕ × Cause)
patched_from n [] j = Ok j
patched_from n (o ∷ os) j = and_then (patched_from (n + 1) os) (numbered n (operated o j))

abbrev pub patched : List OperationTree → Json → Result Json (ℕ × Cause)
patched os j = patched_from 0 os j

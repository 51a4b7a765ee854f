-- A patch of texts of numbers keeps a tree of texts of numbers.
use Rattle.std.proofs.Common.{ℕ, zero, suc, ◌+◌, Bool, true, false, List, [], ◌∷◌, Option, Some, None, Result, Ok, Err, IfOk, ◌≡◌, refl}
use Rattle.std.specs.Bool.{⊤}
use Rattle.json.specs.Json.{Json, null, boolean, number, string, array, object, Items, no_items, item, Members, no_members, member}
use Rattle.json.specs.Strict.{keys}
use Rattle.json.specs.Tree.{HasNumbers, ItemsHaveNumbers, MembersHaveNumbers}
use Rattle.texts.specs.Keys.{key_place}
use Rattle.file_patches.specs.declared.fault.Cause.{Cause}
use Rattle.file_patches.specs.Equality.{equal, item_count}
use Rattle.file_patches.specs.Results.{and_then, on_ok}
use Rattle.file_patches.specs.Places.{item_at, member_at, child, position, free_position, content_at}
use Rattle.file_patches.specs.Changes.{ChangeTree, adds, replaces, removes, put_item, put_content, insert_item, cut_item, cut_member, append_member, put, cut, with_member, with_added, changed_whole, changed_child, changed}
use Rattle.file_patches.specs.Operations.{OperationTree, add, remove, replace, move, copy, test}
use Rattle.file_patches.specs.Patching.{if_shallow, is_shallow, is_same_place, begins_with, moved, tested, operated, numbered, patched_from}
use Rattle.file_patches.specs.Kept.{BringsNumbers, PatchHasNumbers}
use Rattle.file_patches.proofs.IfDone.{if_then, if_on, any_then, any_on}

-- ---- contents

item_numbers : (i : ℕ) (js : Items) → ItemsHaveNumbers js → HasNumbers (item_at i js)
item_numbers i no_items h = tt
item_numbers zero (item j js) h = h.0
item_numbers (suc i) (item j js) h = item_numbers i js h.1

member_numbers : (i : ℕ) (ms : Members) → MembersHaveNumbers ms → HasNumbers (member_at i ms)
member_numbers i no_members h = tt
member_numbers zero (member n j ms) h = h.0
member_numbers (suc i) (member n j ms) h = member_numbers i ms h.1

child_numbers : (i : ℕ) (j : Json) → HasNumbers j → HasNumbers (child i j)
child_numbers i (array js) h = item_numbers i js h
child_numbers i (object ms) h = member_numbers i ms h
child_numbers i null h = tt
child_numbers i (boolean b) h = tt
child_numbers i (number s) h = tt
child_numbers i (string s) h = tt

content_numbers : (p : List (List ℕ)) (j : Json) → HasNumbers j → IfOk (content_at p j) HasNumbers
content_numbers [] j h = h
content_numbers (s ∷ ss) j h =
    any_then HasNumbers (λ i. content_at ss (child i j)) (position s j) (λ i. content_numbers ss (child i j) (child_numbers i j h))

-- ---- items and members with one changed

put_items : (i : ℕ) (k : Json) (js : Items) → HasNumbers k → ItemsHaveNumbers js → ItemsHaveNumbers (put_item i k js)
put_items i k no_items h g = tt
put_items zero k (item j js) h g = (h, g.1)
put_items (suc i) k (item j js) h g = (g.0, put_items i k js h g.1)

put_members : (i : ℕ) (k : Json) (ms : Members) → HasNumbers k → MembersHaveNumbers ms → MembersHaveNumbers (put_content i k ms)
put_members i k no_members h g = tt
put_members zero k (member n j ms) h g = (h, g.1)
put_members (suc i) k (member n j ms) h g = (g.0, put_members i k ms h g.1)

insert_numbers : (i : ℕ) (k : Json) (js : Items) → HasNumbers k → ItemsHaveNumbers js → ItemsHaveNumbers (insert_item i k js)
insert_numbers zero k js h g = (h, g)
insert_numbers (suc i) k no_items h g = (h, g)
insert_numbers (suc i) k (item j js) h g = (g.0, insert_numbers i k js h g.1)

cut_items : (i : ℕ) (js : Items) → ItemsHaveNumbers js → ItemsHaveNumbers (cut_item i js)
cut_items i no_items g = tt
cut_items zero (item j js) g = g.1
cut_items (suc i) (item j js) g = (g.0, cut_items i js g.1)

cut_members : (i : ℕ) (ms : Members) → MembersHaveNumbers ms → MembersHaveNumbers (cut_member i ms)
cut_members i no_members g = tt
cut_members zero (member n j ms) g = g.1
cut_members (suc i) (member n j ms) g = (g.0, cut_members i ms g.1)

append_numbers : (n : List ℕ) (k : Json) (ms : Members) → HasNumbers k → MembersHaveNumbers ms → MembersHaveNumbers (append_member n k ms)
append_numbers n k no_members h g = (h, tt)
append_numbers n k (member m j ms) h g = (g.0, append_numbers n k ms h g.1)

with_member_numbers : (o : Option ℕ) (n : List ℕ) (k : Json) (ms : Members) → HasNumbers k → MembersHaveNumbers ms → MembersHaveNumbers (with_member o n k ms)
with_member_numbers (Some i) n k ms h g = put_members i k ms h g
with_member_numbers None n k ms h g = append_numbers n k ms h g

-- ---- trees with a change

put_numbers : (i : ℕ) (k j : Json) → HasNumbers k → HasNumbers j → HasNumbers (put i k j)
put_numbers i k (array js) h g = put_items i k js h g
put_numbers i k (object ms) h g = put_members i k ms h g
put_numbers i k null h g = tt
put_numbers i k (boolean b) h g = tt
put_numbers i k (number s) h g = g
put_numbers i k (string s) h g = tt

cut_numbers : (i : ℕ) (j : Json) → HasNumbers j → HasNumbers (cut i j)
cut_numbers i (array js) g = cut_items i js g
cut_numbers i (object ms) g = cut_members i ms g
cut_numbers i null g = tt
cut_numbers i (boolean b) g = tt
cut_numbers i (number s) g = g
cut_numbers i (string s) g = tt

added_numbers : (s : List ℕ) (k j : Json) → HasNumbers k → HasNumbers j → IfOk (with_added s k j) HasNumbers
added_numbers s k (object ms) h g = with_member_numbers (key_place s (keys ms)) s k ms h g
added_numbers s k (array js) h g =
    any_on HasNumbers (λ i. array (insert_item i k js)) (free_position s (item_count js)) (λ i. insert_numbers i k js h g)
added_numbers s k null h g = tt
added_numbers s k (boolean b) h g = tt
added_numbers s k (number t) h g = tt
added_numbers s k (string t) h g = tt

abbrev pub ChangeNumbers : ChangeTree → Type 0
ChangeNumbers (adds k) = HasNumbers k
ChangeNumbers (replaces k) = HasNumbers k
ChangeNumbers removes = ⊤

whole_numbers : (c : ChangeTree) → ChangeNumbers c → IfOk (changed_whole c) HasNumbers
whole_numbers (adds k) h = h
whole_numbers (replaces k) h = h
whole_numbers removes h = tt

last_numbers : (c : ChangeTree) (s : List ℕ) (j : Json) → ChangeNumbers c → HasNumbers j → IfOk (changed_child c s j) HasNumbers
last_numbers (adds k) s j h g = added_numbers s k j h g
last_numbers (replaces k) s j h g = any_on HasNumbers (λ i. put i k j) (position s j) (λ i. put_numbers i k j h g)
last_numbers removes s j h g = any_on HasNumbers (λ i. cut i j) (position s j) (λ i. cut_numbers i j g)

pub changed_numbers : (c : ChangeTree) (p : List (List ℕ)) (j : Json) → ChangeNumbers c → HasNumbers j → IfOk (changed c p j) HasNumbers
changed_numbers c [] j h g = whole_numbers c h
changed_numbers c (s ∷ []) j h g = last_numbers c s j h g
changed_numbers c (s ∷ r ∷ rs) j h g =
    any_then HasNumbers (λ i. on_ok (λ k. put i k j) (changed c (r ∷ rs) (child i j))) (position s j)
    (λ i. if_on HasNumbers HasNumbers (λ k. put i k j) (changed c (r ∷ rs) (child i j)) (changed_numbers c (r ∷ rs) (child i j) h (child_numbers i j g)) (λ k n. put_numbers i k j n g))

-- ---- operations

shallow_numbers : (b : Bool) (j : Json) → HasNumbers j → IfOk (if_shallow b j) HasNumbers
shallow_numbers true j h = h
shallow_numbers false j h = tt

bounded_numbers : (b : Bool) (c : ChangeTree) (p : List (List ℕ)) (j : Json) → ChangeNumbers c → HasNumbers j → IfOk (and_then (if_shallow b) (changed c p j)) HasNumbers
bounded_numbers b c p j h g = if_then HasNumbers HasNumbers (if_shallow b) (changed c p j) (changed_numbers c p j h g) (shallow_numbers b)

moved_numbers : (same inside : Bool) (f p : List (List ℕ)) (j k : Json) → HasNumbers j → HasNumbers k → is_same_place f p ≡ same → begins_with f p ≡ inside → IfOk (moved f p j k) HasNumbers
moved_numbers true inside f p j k g h e i = rw e g
moved_numbers false true f p j k g h e i = rw (e, i) tt
moved_numbers false false f p j k g h e i = rw (e, i)
    (if_then HasNumbers HasNumbers (λ t. and_then (if_shallow (is_shallow p k)) (changed (adds k) p t)) (changed removes f j) (changed_numbers removes f j tt g) (λ t n. bounded_numbers (is_shallow p k) (adds k) p t h n))

tested_numbers : (b : Bool) (j v k : Json) → HasNumbers j → equal k v ≡ b → IfOk (tested j v k) HasNumbers
tested_numbers true j v k g e = rw e g
tested_numbers false j v k g e = rw e tt

operated_numbers : (o : OperationTree) (j : Json) → BringsNumbers o → HasNumbers j → IfOk (operated o j) HasNumbers
operated_numbers (add p k) j h g = bounded_numbers (is_shallow p k) (adds k) p j h g
operated_numbers (remove p) j h g = changed_numbers removes p j tt g
operated_numbers (replace p k) j h g = bounded_numbers (is_shallow p k) (replaces k) p j h g
operated_numbers (move f p) j h g =
    if_then HasNumbers HasNumbers (moved f p j) (content_at f j) (content_numbers f j g) (λ k n. moved_numbers _ _ f p j k g n refl refl)
operated_numbers (copy f p) j h g =
    if_then HasNumbers HasNumbers (λ k. and_then (if_shallow (is_shallow p k)) (changed (adds k) p j)) (content_at f j) (content_numbers f j g) (λ k n. bounded_numbers (is_shallow p k) (adds k) p j n g)
operated_numbers (test p v) j h g = any_then HasNumbers (tested j v) (content_at p j) (λ k. tested_numbers _ j v k g refl)

numbered_ok : {A : Type 0} (P : A → Type 0) (n : ℕ) (r : Result A Cause) → IfOk r P → IfOk (numbered n r) P
numbered_ok P n (Ok a) h = h
numbered_ok P n (Err c) h = tt

pub patched_numbers : (n : ℕ) (os : List OperationTree) (j : Json) → PatchHasNumbers os → HasNumbers j → IfOk (patched_from n os j) HasNumbers
patched_numbers n [] j h g = g
patched_numbers n (o ∷ os) j h g =
    if_then HasNumbers HasNumbers (patched_from (n + 1) os) (numbered n (operated o j)) (numbered_ok HasNumbers n (operated o j) (operated_numbers o j h.0 g)) (λ t k. patched_numbers (n + 1) os t h.1 k)

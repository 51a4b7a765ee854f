-- A patch keeps a tree as shallow as a file may be.
use Rattle.std.proofs.Common.{◌≡◌, ℕ, zero, suc, ◌+◌, ◌≤◌, Bool, true, false, List, [], ◌∷◌, length, Option, Some, None, Result, Ok, Err, IfOk, refl, arith, leb-true}
use Rattle.std.specs.Bool.{⊤}
use Rattle.json.specs.Json.{Json, null, boolean, number, string, array, object, Items, no_items, item, Members, no_members, member}
use Rattle.json.specs.Strict.{keys}
use Rattle.json.specs.Tree.{depth, items_depth, members_depth}
use Rattle.texts.specs.Keys.{key_place}
use Rattle.file_patches.specs.declared.fault.Cause.{Cause}
use Rattle.file_patches.specs.Equality.{equal, item_count}
use Rattle.file_patches.specs.Results.{and_then, on_ok}
use Rattle.file_patches.specs.Places.{item_at, member_at, child, position, free_position, content_at}
use Rattle.file_patches.specs.Changes.{ChangeTree, adds, replaces, removes, put_item, put_content, insert_item, cut_item, cut_member, append_member, put, cut, with_member, with_added, changed_whole, changed_child, changed}
use Rattle.file_patches.specs.Operations.{OperationTree, add, remove, replace, move, copy, test}
use Rattle.file_patches.specs.Patching.{if_shallow, is_shallow, is_same_place, begins_with, added, replaced, moved, tested, operated, numbered, patched_from}
use Rattle.file_patches.proofs.IfDone.{if_then, if_on, any_then, any_on}

-- no deeper than this
abbrev pub Within : ℕ → Json → Type 0
Within n j = depth j ≤ n

-- ---- contents

item_within : (i n : ℕ) (js : Items) → items_depth js ≤ n → depth (item_at i js) ≤ n
item_within i n no_items h = omega arith
item_within zero n (item j js) h = omega (arith, h)
item_within (suc i) n (item j js) h = item_within i n js (omega (arith, h))

member_within : (i n : ℕ) (ms : Members) → members_depth ms ≤ n → depth (member_at i ms) ≤ n
member_within i n no_members h = omega arith
member_within zero n (member m j ms) h = omega (arith, h)
member_within (suc i) n (member m j ms) h = member_within i n ms (omega (arith, h))

-- a content is one level less deep
child_within : (i n : ℕ) (j : Json) → depth j ≤ suc n → depth (child i j) ≤ n
child_within i n (array js) h = item_within i n js (omega (arith, h))
child_within i n (object ms) h = member_within i n ms (omega (arith, h))
child_within i n null h = omega arith
child_within i n (boolean b) h = omega arith
child_within i n (number s) h = omega arith
child_within i n (string s) h = omega arith

-- ---- items and members with one changed

put_items : (i n : ℕ) (k : Json) (js : Items) → depth k ≤ n → items_depth js ≤ n → items_depth (put_item i k js) ≤ n
put_items i n k no_items h g = g
put_items zero n k (item j js) h g = omega (arith, h, g)
put_items (suc i) n k (item j js) h g =
    let more = put_items i n k js h (omega (arith, g)) in
    omega (arith, g, more)

put_members : (i n : ℕ) (k : Json) (ms : Members) → depth k ≤ n → members_depth ms ≤ n → members_depth (put_content i k ms) ≤ n
put_members i n k no_members h g = g
put_members zero n k (member m j ms) h g = omega (arith, h, g)
put_members (suc i) n k (member m j ms) h g =
    let more = put_members i n k ms h (omega (arith, g)) in
    omega (arith, g, more)

insert_within : (i n : ℕ) (k : Json) (js : Items) → depth k ≤ n → items_depth js ≤ n → items_depth (insert_item i k js) ≤ n
insert_within zero n k js h g = omega (arith, h, g)
insert_within (suc i) n k no_items h g = omega (arith, h, g)
insert_within (suc i) n k (item j js) h g =
    let more = insert_within i n k js h (omega (arith, g)) in
    omega (arith, g, more)

cut_items : (i n : ℕ) (js : Items) → items_depth js ≤ n → items_depth (cut_item i js) ≤ n
cut_items i n no_items g = g
cut_items zero n (item j js) g = omega (arith, g)
cut_items (suc i) n (item j js) g =
    let more = cut_items i n js (omega (arith, g)) in
    omega (arith, g, more)

cut_members : (i n : ℕ) (ms : Members) → members_depth ms ≤ n → members_depth (cut_member i ms) ≤ n
cut_members i n no_members g = g
cut_members zero n (member m j ms) g = omega (arith, g)
cut_members (suc i) n (member m j ms) g =
    let more = cut_members i n ms (omega (arith, g)) in
    omega (arith, g, more)

append_within : (n : ℕ) (s : List ℕ) (k : Json) (ms : Members) → depth k ≤ n → members_depth ms ≤ n → members_depth (append_member s k ms) ≤ n
append_within n s k no_members h g = omega (arith, h, g)
append_within n s k (member m j ms) h g =
    let more = append_within n s k ms h (omega (arith, g)) in
    omega (arith, g, more)

with_within : (o : Option ℕ) (n : ℕ) (s : List ℕ) (k : Json) (ms : Members) → depth k ≤ n → members_depth ms ≤ n → members_depth (with_member o s k ms) ≤ n
with_within (Some i) n s k ms h g = put_members i n k ms h g
with_within None n s k ms h g = append_within n s k ms h g

-- ---- trees with a change

put_within : (i n : ℕ) (k j : Json) → depth k ≤ n → depth j ≤ suc n → depth (put i k j) ≤ suc n
put_within i n k (array js) h g =
    let more = put_items i n k js h (omega (arith, g)) in
    omega (arith, more)
put_within i n k (object ms) h g =
    let more = put_members i n k ms h (omega (arith, g)) in
    omega (arith, more)
put_within i n k null h g = g
put_within i n k (boolean b) h g = g
put_within i n k (number s) h g = g
put_within i n k (string s) h g = g

cut_within : (i n : ℕ) (j : Json) → depth j ≤ suc n → depth (cut i j) ≤ suc n
cut_within i n (array js) g =
    let more = cut_items i n js (omega (arith, g)) in
    omega (arith, more)
cut_within i n (object ms) g =
    let more = cut_members i n ms (omega (arith, g)) in
    omega (arith, more)
cut_within i n null g = g
cut_within i n (boolean b) g = g
cut_within i n (number s) g = g
cut_within i n (string s) g = g

added_within : (s : List ℕ) (n : ℕ) (k j : Json) → depth k ≤ n → depth j ≤ suc n → IfOk (with_added s k j) (Within (suc n))
added_within s n k (object ms) h g =
    let more = with_within (key_place s (keys ms)) n s k ms h (omega (arith, g)) in
    omega (arith, more)
added_within s n k (array js) h g =
    any_on (Within (suc n)) (λ i. array (insert_item i k js)) (free_position s (item_count js))
    (λ i. let more = insert_within i n k js h (omega (arith, g)) in omega (arith, more))
added_within s n k null h g = tt
added_within s n k (boolean b) h g = tt
added_within s n k (number t) h g = tt
added_within s n k (string t) h g = tt

-- a value that a change brings fits below so many parts
abbrev pub ChangeWithin : ℕ → ℕ → ChangeTree → Type 0
ChangeWithin m n (adds k) = m + depth k ≤ n
ChangeWithin m n (replaces k) = m + depth k ≤ n
ChangeWithin m n removes = ⊤

below : (m n : ℕ) (c : ChangeTree) → ChangeWithin (suc m) (suc n) c → ChangeWithin m n c
below m n (adds k) h = omega (arith, h)
below m n (replaces k) h = omega (arith, h)
below m n removes h = tt

whole_within : (n : ℕ) (c : ChangeTree) → ChangeWithin 0 n c → IfOk (changed_whole c) (Within n)
whole_within n (adds k) h = omega (arith, h)
whole_within n (replaces k) h = omega (arith, h)
whole_within n removes h = tt

last_within : (n : ℕ) (c : ChangeTree) (s : List ℕ) (j : Json) → ChangeWithin 1 (suc n) c → depth j ≤ suc n → IfOk (changed_child c s j) (Within (suc n))
last_within n (adds k) s j h g = added_within s n k j (omega (arith, h)) g
last_within n (replaces k) s j h g =
    any_on (Within (suc n)) (λ i. put i k j) (position s j) (λ i. put_within i n k j (omega (arith, h)) g)
last_within n removes s j h g = any_on (Within (suc n)) (λ i. cut i j) (position s j) (λ i. cut_within i n j g)

-- what nests in nothing has no place in it
no_place : (P : Json → Type 0) (c : ChangeTree) (s : List ℕ) (ss : List (List ℕ)) (j : Json) → depth j ≤ 0 → IfOk (changed c (s ∷ ss) j) P
no_place P (adds k) s [] null h = tt
no_place P (adds k) s [] (boolean b) h = tt
no_place P (adds k) s [] (number t) h = tt
no_place P (adds k) s [] (string t) h = tt
no_place P (replaces k) s [] null h = tt
no_place P (replaces k) s [] (boolean b) h = tt
no_place P (replaces k) s [] (number t) h = tt
no_place P (replaces k) s [] (string t) h = tt
no_place P removes s [] null h = tt
no_place P removes s [] (boolean b) h = tt
no_place P removes s [] (number t) h = tt
no_place P removes s [] (string t) h = tt
no_place P c s (r ∷ rs) null h = tt
no_place P c s (r ∷ rs) (boolean b) h = tt
no_place P c s (r ∷ rs) (number t) h = tt
no_place P c s (r ∷ rs) (string t) h = tt
no_place P c s ss (array js) h = absurd (omega (arith, h))
no_place P c s ss (object ms) h = absurd (omega (arith, h))

pub changed_within : (n : ℕ) (c : ChangeTree) (p : List (List ℕ)) (j : Json) → ChangeWithin (length p) n c → depth j ≤ n → IfOk (changed c p j) (Within n)
changed_within n c [] j h g = whole_within n c h
changed_within zero c (s ∷ ss) j h g = no_place (Within 0) c s ss j g
changed_within (suc n) c (s ∷ []) j h g = last_within n c s j h g
changed_within (suc n) c (s ∷ r ∷ rs) j h g =
    any_then (Within (suc n)) (λ i. on_ok (λ k. put i k j) (changed c (r ∷ rs) (child i j))) (position s j)
    (λ i. if_on (Within n) (Within (suc n)) (λ k. put i k j) (changed c (r ∷ rs) (child i j)) (changed_within n c (r ∷ rs) (child i j) (below (length (r ∷ rs)) n c h) (child_within i n j g)) (λ k w. put_within i n k j w g))

-- ---- operations

within_of : (p : List (List ℕ)) (k : Json) → is_shallow p k ≡ true → length p + depth k ≤ 128
within_of p k e = leb-true (length p + depth k) 128 e

bounded_by : (b : Bool) (c : ChangeTree) (p : List (List ℕ)) (j : Json) → (b ≡ true → ChangeWithin (length p) 128 c) → depth j ≤ 128 → IfOk (and_then (if_shallow b) (changed c p j)) (Within 128)
bounded_by true c p j h g = if_then (Within 128) (Within 128) (if_shallow true) (changed c p j) (changed_within 128 c p j (h refl) g) (λ t w. w)
bounded_by false c p j h g = any_then (Within 128) (if_shallow false) (changed c p j) (λ t. tt)

added_shallow : (p : List (List ℕ)) (k j : Json) → depth j ≤ 128 → IfOk (added p k j) (Within 128)
added_shallow p k j g = bounded_by (is_shallow p k) (adds k) p j (within_of p k) g

replaced_shallow : (p : List (List ℕ)) (k j : Json) → depth j ≤ 128 → IfOk (replaced p k j) (Within 128)
replaced_shallow p k j g = bounded_by (is_shallow p k) (replaces k) p j (within_of p k) g

moved_shallow : (same inside : Bool) (f p : List (List ℕ)) (j k : Json) → depth j ≤ 128 → is_same_place f p ≡ same → begins_with f p ≡ inside → IfOk (moved f p j k) (Within 128)
moved_shallow true inside f p j k g e i = rw e g
moved_shallow false true f p j k g e i = rw (e, i) tt
moved_shallow false false f p j k g e i = rw (e, i)
    (if_then (Within 128) (Within 128) (added p k) (changed removes f j) (changed_within 128 removes f j tt g) (λ t w. added_shallow p k t w))

tested_shallow : (b : Bool) (j v k : Json) → depth j ≤ 128 → equal k v ≡ b → IfOk (tested j v k) (Within 128)
tested_shallow true j v k g e = rw e g
tested_shallow false j v k g e = rw e tt

operated_shallow : (o : OperationTree) (j : Json) → depth j ≤ 128 → IfOk (operated o j) (Within 128)
operated_shallow (add p k) j g = added_shallow p k j g
operated_shallow (remove p) j g = changed_within 128 removes p j tt g
operated_shallow (replace p k) j g = replaced_shallow p k j g
operated_shallow (move f p) j g = any_then (Within 128) (moved f p j) (content_at f j) (λ k. moved_shallow _ _ f p j k g refl refl)
operated_shallow (copy f p) j g = any_then (Within 128) (λ k. added p k j) (content_at f j) (λ k. added_shallow p k j g)
operated_shallow (test p v) j g = any_then (Within 128) (tested j v) (content_at p j) (λ k. tested_shallow _ j v k g refl)

numbered_shallow : (n : ℕ) (r : Result Json Cause) → IfOk r (Within 128) → IfOk (numbered n r) (Within 128)
numbered_shallow n (Ok a) h = h
numbered_shallow n (Err c) h = tt

pub patched_shallow : (n : ℕ) (os : List OperationTree) (j : Json) → depth j ≤ 128 → IfOk (patched_from n os j) (Within 128)
patched_shallow n [] j g = g
patched_shallow n (o ∷ os) j g =
    if_then (Within 128) (Within 128) (patched_from (n + 1) os) (numbered n (operated o j)) (numbered_shallow n (operated o j) (operated_shallow o j g)) (λ t w. patched_shallow (n + 1) os t w)

-- What a patch makes has no object in which a key comes twice, where the tree and the values of the patch have none.
use Rattle.std.proofs.Common.{◌≡◌, ◌≢◌, ℕ, zero, suc, ◌+◌, ◌<◌, cond, bytes_eq, Bool, true, false, List, length, slice_index_or, Option, Some, None, Result, Ok, IfOk, Vec, Global, refl, sym, arith}
use Rattle.std.proofs.lemmas.Slice.Eq.{bytes_eq-Decides}
use Rattle.json.specs.Json.{Json, null, boolean, number, string, array, object, Items, no_items, item, Members, no_members, member}
use Rattle.json.specs.Strict.{keys, AreDistinct, HasUniqueKeys, ItemsHaveUniqueKeys, MembersHaveUniqueKeys}
use Rattle.texts.specs.Keys.{key_from, key_place}
use Rattle.file_trees.specs.FileTrees.{file_tree}
use Rattle.file_trees.specs.declared.tree.FileTree.{FileTree}
use Rattle.file_patches.specs.declared.fault.Cause.{Cause}
use Rattle.file_patches.specs.declared.fault.Fault.{Fault}
use Rattle.file_patches.specs.declared.fault.ReadRefusal.{ReadRefusal}
use Rattle.file_patches.specs.declared.operations.Operation.{Operation}
use Rattle.file_patches.specs.Results.{Gives}
use Rattle.file_patches.specs.Equality.{item_count, named}
use Rattle.file_patches.specs.Places.{free_position, item_at, member_at, child}
use Rattle.file_patches.specs.Changes.{put_item, put_content, insert_item, cut_item, cut_member, append_member, put, cut, with_member, with_added}
use Rattle.file_patches.specs.Operations.{OperationTree, patch_view}
use Rattle.file_patches.specs.Patching.{patched}
use Rattle.file_patches.specs.Reading.{patch_of}
use Rattle.file_patches.specs.Values.{ValuesHave}
use Rattle.file_patches.proofs.Keeps.{OkHas, of_ok, on_held, patched_held}
use Rattle.file_patches.proofs.ReadsValues.{SomeHas, chosen, patch_held}
use Rattle.file_patches.proofs.Returned.{returned_has}

-- ---- items

item_there : (i : ℕ) (js : Items) → ItemsHaveUniqueKeys js → HasUniqueKeys (item_at i js)
item_there i no_items h = tt
item_there zero (item j js) h = h.0
item_there (suc i) (item j js) h = item_there i js h.1

item_put : (i : ℕ) (k : Json) (js : Items) → HasUniqueKeys k → ItemsHaveUniqueKeys js → ItemsHaveUniqueKeys (put_item i k js)
item_put i k no_items g h = tt
item_put zero k (item j js) g h = (g, h.1)
item_put (suc i) k (item j js) g h = (h.0, item_put i k js g h.1)

item_inserted : (i : ℕ) (k : Json) (js : Items) → HasUniqueKeys k → ItemsHaveUniqueKeys js → ItemsHaveUniqueKeys (insert_item i k js)
item_inserted zero k js g h = (g, h)
item_inserted (suc i) k no_items g h = (g, tt)
item_inserted (suc i) k (item j js) g h = (h.0, item_inserted i k js g h.1)

item_cut : (i : ℕ) (js : Items) → ItemsHaveUniqueKeys js → ItemsHaveUniqueKeys (cut_item i js)
item_cut i no_items h = tt
item_cut zero (item j js) h = h.1
item_cut (suc i) (item j js) h = (h.0, item_cut i js h.1)

-- ---- members

member_there : (i : ℕ) (ms : Members) → MembersHaveUniqueKeys ms → HasUniqueKeys (member_at i ms)
member_there i no_members h = tt
member_there zero (member n j ms) h = h.0
member_there (suc i) (member n j ms) h = member_there i ms h.1

content_put : (i : ℕ) (k : Json) (ms : Members) → HasUniqueKeys k → MembersHaveUniqueKeys ms → MembersHaveUniqueKeys (put_content i k ms)
content_put i k no_members g h = tt
content_put zero k (member n j ms) g h = (g, h.1)
content_put (suc i) k (member n j ms) g h = (h.0, content_put i k ms g h.1)

member_appended : (s : List ℕ) (k : Json) (ms : Members) → HasUniqueKeys k → MembersHaveUniqueKeys ms → MembersHaveUniqueKeys (append_member s k ms)
member_appended s k no_members g h = (g, tt)
member_appended s k (member n j ms) g h = (h.0, member_appended s k ms g h.1)

member_cut : (i : ℕ) (ms : Members) → MembersHaveUniqueKeys ms → MembersHaveUniqueKeys (cut_member i ms)
member_cut i no_members h = tt
member_cut zero (member n j ms) h = h.1
member_cut (suc i) (member n j ms) h = (h.0, member_cut i ms h.1)

-- ---- keys

-- no member has this key
abbrev Apart : List ℕ → Members → Type 0
Apart n no_members = Unit {0}
Apart n (member m j ms) = (n ≢ m) × Apart n ms

-- no key comes twice, member by member
abbrev Distinct : Members → Type 0
Distinct no_members = Unit {0}
Distinct (member n j ms) = Apart n ms × Distinct ms

apart_of : (n : List ℕ) (ms : Members) → ((i : ℕ) → i < length (keys ms) → n ≢ slice_index_or (keys ms) i n) → Apart n ms
apart_of n no_members h = tt
apart_of n (member m j ms) h = (h 0 (omega arith), apart_of n ms (λ i l. h (suc i) (omega arith)))

distinct_of : (ms : Members) → AreDistinct (keys ms) → Distinct ms
distinct_of no_members h = tt
distinct_of (member n j ms) h = (
  apart_of n ms (λ i l. h 0 (suc i) n (omega arith) (omega arith)),
  distinct_of ms (λ i k d l w. h (suc i) (suc k) d (omega arith) (omega arith)),
)

each_apart : (n : List ℕ) (ms : Members) → Apart n ms → (i : ℕ) (d : List ℕ) → i < length (keys ms) → n ≢ slice_index_or (keys ms) i d
each_apart n no_members h i d l = absurd (omega arith)
each_apart n (member m j ms) h zero d l = h.0
each_apart n (member m j ms) h (suc i) d l = each_apart n ms h.1 i d (omega arith)

are_distinct : (ms : Members) → Distinct ms → AreDistinct (keys ms)
are_distinct no_members h i k d l w = absurd (omega arith)
are_distinct (member n j ms) h i zero d l w = absurd (omega arith)
are_distinct (member n j ms) h zero (suc k) d l w = each_apart n ms h.0 k d (omega arith)
are_distinct (member n j ms) h (suc i) (suc k) d l w = are_distinct ms h.1 i k d (omega arith) (omega arith)

apart_put : (n : List ℕ) (i : ℕ) (k : Json) (ms : Members) → Apart n ms → Apart n (put_content i k ms)
apart_put n i k no_members h = tt
apart_put n zero k (member m j ms) h = h
apart_put n (suc i) k (member m j ms) h = (h.0, apart_put n i k ms h.1)

distinct_put : (i : ℕ) (k : Json) (ms : Members) → Distinct ms → Distinct (put_content i k ms)
distinct_put i k no_members h = tt
distinct_put zero k (member n j ms) h = h
distinct_put (suc i) k (member n j ms) h = (apart_put n i k ms h.0, distinct_put i k ms h.1)

apart_cut : (n : List ℕ) (i : ℕ) (ms : Members) → Apart n ms → Apart n (cut_member i ms)
apart_cut n i no_members h = tt
apart_cut n zero (member m j ms) h = h.1
apart_cut n (suc i) (member m j ms) h = (h.0, apart_cut n i ms h.1)

distinct_cut : (i : ℕ) (ms : Members) → Distinct ms → Distinct (cut_member i ms)
distinct_cut i no_members h = tt
distinct_cut zero (member n j ms) h = h.1
distinct_cut (suc i) (member n j ms) h = (apart_cut n i ms h.0, distinct_cut i ms h.1)

apart_appended : (n s : List ℕ) (k : Json) (ms : Members) → n ≢ s → Apart n ms → Apart n (append_member s k ms)
apart_appended n s k no_members g h = (g, tt)
apart_appended n s k (member m j ms) g h = (h.0, apart_appended n s k ms g h.1)

-- each key differs from this one
abbrev Away : List ℕ → Members → Type 0
Away s no_members = Unit {0}
Away s (member n j ms) = (n ≢ s) × Away s ms

distinct_appended : (s : List ℕ) (k : Json) (ms : Members) → Away s ms → Distinct ms → Distinct (append_member s k ms)
distinct_appended s k no_members g h = (tt, tt)
distinct_appended s k (member n j ms) g h = (apart_appended n s k ms g.0 h.0, distinct_appended s k ms g.1 h.1)

away_by : (b : Bool) (at : ℕ) (s n : List ℕ) (ms : Members) → bytes_eq s n ≡ b → cond b (Some at) (key_from (at + 1) s (keys ms)) ≡ None → (key_from (at + 1) s (keys ms) ≡ None → Away s ms) → (n ≢ s) × Away s ms
away_by true at s n ms e h k = cc
away_by false at s n ms e h k = (λ same. let yes = (bytes_eq-Decides s n).1 (sym same) in cc, k h)

away : (at : ℕ) (s : List ℕ) (ms : Members) → key_from at s (keys ms) ≡ None → Away s ms
away at s no_members h = tt
away at s (member n j ms) h = away_by (bytes_eq s n) at s n ms refl h (away (at + 1) s ms)

-- ---- trees

of_child : (i : ℕ) (j : Json) → HasUniqueKeys j → HasUniqueKeys (child i j)
of_child i null h = tt
of_child i (boolean b) h = tt
of_child i (number s) h = tt
of_child i (string s) h = tt
of_child i (array js) h = item_there i js h
of_child i (object ms) h = member_there i ms h.1

put_in : (i : ℕ) (k : Json) (ms : Members) → HasUniqueKeys k → HasUniqueKeys (object ms) → HasUniqueKeys (object (put_content i k ms))
put_in i k ms g h =
    (are_distinct (put_content i k ms) (distinct_put i k ms (distinct_of ms h.0)), content_put i k ms g h.1)

of_put : (i : ℕ) (k j : Json) → HasUniqueKeys k → HasUniqueKeys j → HasUniqueKeys (put i k j)
of_put i k null g h = h
of_put i k (boolean b) g h = h
of_put i k (number s) g h = h
of_put i k (string s) g h = h
of_put i k (array js) g h = item_put i k js g h
of_put i k (object ms) g h = put_in i k ms g h

of_cut : (i : ℕ) (j : Json) → HasUniqueKeys j → HasUniqueKeys (cut i j)
of_cut i null h = h
of_cut i (boolean b) h = h
of_cut i (number s) h = h
of_cut i (string s) h = h
of_cut i (array js) h = item_cut i js h
of_cut i (object ms) h =
    (are_distinct (cut_member i ms) (distinct_cut i ms (distinct_of ms h.0)), member_cut i ms h.1)

member_with : (o : Option ℕ) (s : List ℕ) (k : Json) (ms : Members) → key_place s (keys ms) ≡ o → HasUniqueKeys k → HasUniqueKeys (object ms) → HasUniqueKeys (object (with_member o s k ms))
member_with (Some i) s k ms e g h = put_in i k ms g h
member_with None s k ms e g h =
    (are_distinct (append_member s k ms) (distinct_appended s k ms (away 0 s ms e) (distinct_of ms h.0)), member_appended s k ms g h.1)

of_added : (s : List ℕ) (k j : Json) → HasUniqueKeys k → HasUniqueKeys j → OkHas HasUniqueKeys (with_added s k j)
of_added s k null g h = tt
of_added s k (boolean b) g h = tt
of_added s k (number t) g h = tt
of_added s k (string t) g h = tt
of_added s k (array js) g h =
    on_held HasUniqueKeys (λ i. array (insert_item i k js)) (free_position s (item_count js)) (λ i. item_inserted i k js g h)
of_added s k (object ms) g h = member_with (key_place s (keys ms)) s k ms refl g h

unique_held : (os : List OperationTree) (j : Json) → ValuesHave HasUniqueKeys os → HasUniqueKeys j → OkHas HasUniqueKeys (patched os j)
unique_held = patched_held HasUniqueKeys of_child of_put of_cut of_added

pub unique_kept : (os : List OperationTree) (j m : Json) → ValuesHave HasUniqueKeys os → HasUniqueKeys j → patched os j ≡ Ok m → HasUniqueKeys m
unique_kept os j m h g e = of_ok HasUniqueKeys (patched os j) m e (unique_held os j h g)

pub unique_made : (r : Result FileTree (Fault (ℕ × Cause))) (os : List OperationTree) (j : Json) → Gives file_tree r (patched os j) → ValuesHave HasUniqueKeys os → HasUniqueKeys j → IfOk r (λ t. HasUniqueKeys (file_tree t))
unique_made r os j e h g = returned_has HasUniqueKeys file_tree r (patched os j) e (unique_held os j h g)

-- ---- the values of a patch that is read

of_named : (n : List ℕ) (ms : Members) → MembersHaveUniqueKeys ms → SomeHas HasUniqueKeys (named n ms)
of_named n no_members h = tt
of_named n (member k j ms) h = chosen HasUniqueKeys (bytes_eq n k) (Some j) (named n ms) h.0 (of_named n ms h.1)

values_held : (j : Json) → HasUniqueKeys j → OkHas (ValuesHave HasUniqueKeys) (patch_of j)
values_held = patch_held HasUniqueKeys (λ n ms h. of_named n ms h.1) (λ j js h. h.0) (λ j js h. h.1)

pub unique_read : (j : Json) (os : List OperationTree) → HasUniqueKeys j → patch_of j ≡ Ok os → ValuesHave HasUniqueKeys os
unique_read j os h e = of_ok (ValuesHave HasUniqueKeys) (patch_of j) os e (values_held j h)

pub values_unique : (r : Result (Vec Operation Global) (Fault ReadRefusal)) (j : Json) → Gives (λ v. patch_view v.items) r (patch_of j) → HasUniqueKeys j → IfOk r (λ v. ValuesHave HasUniqueKeys (patch_view v.items))
values_unique r j e h = returned_has (ValuesHave HasUniqueKeys) (λ v. patch_view v.items) r (patch_of j) e (values_held j h)

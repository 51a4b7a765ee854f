-- Changes of the content at a place: `changed`, at the end.
use Rattle.std.specs.Prelude.{ℕ, zero, suc, List, [], ◌∷◌, Option, Some, None, Result, Ok, Err}
use Rattle.json.specs.Json.{Json, array, object, Items, no_items, item, Members, no_members, member}
use Rattle.json.specs.Strict.{keys}
use Rattle.texts.specs.Keys.{key_place}
use Rattle.file_trees.specs.FileTrees.{file_tree}
use Rattle.file_patches.specs.declared.fault.Cause.{Cause}
use Rattle.file_patches.specs.declared.fault.Cause.TheVariants.{NotAPlace, WholeFile}
use Rattle.file_patches.specs.declared.changes.Change as rust
use Rattle.file_patches.specs.declared.changes.Change.TheVariants as made
use Rattle.file_patches.specs.Results.{and_then, on_ok}
use Rattle.file_patches.specs.Equality.{item_count}
use Rattle.file_patches.specs.Places.{position, free_position, child}

-- a content is added, put in the place of one, or removed
pub data ChangeTree : Type 0 where
  adds : Json → ChangeTree
  replaces : Json → ChangeTree
  removes : ChangeTree

abbrev pub change_tree : rust.Change → ChangeTree
change_tree (made.Add t) = adds (file_tree t)
change_tree (made.Replace t) = replaces (file_tree t)
change_tree made.Remove = removes

-- ---- items and members

abbrev pub put_item : ℕ → Json → Items → Items
put_item i k no_items = no_items
put_item zero k (item j js) = item k js
put_item (suc i) k (item j js) = item j (put_item i k js)

abbrev pub put_content : ℕ → Json → Members → Members
put_content i k no_members = no_members
put_content zero k (member n j ms) = member n k ms
put_content (suc i) k (member n j ms) = member n j (put_content i k ms)

-- an item in front of the one at an index, or at the end
abbrev pub insert_item : ℕ → Json → Items → Items
insert_item zero k js = item k js
insert_item (suc i) k no_items = item k no_items
insert_item (suc i) k (item j js) = item j (insert_item i k js)

abbrev pub cut_item : ℕ → Items → Items
cut_item i no_items = no_items
cut_item zero (item j js) = js
cut_item (suc i) (item j js) = item j (cut_item i js)

abbrev pub cut_member : ℕ → Members → Members
cut_member i no_members = no_members
cut_member zero (member n j ms) = ms
cut_member (suc i) (member n j ms) = member n j (cut_member i ms)

abbrev pub append_member : List ℕ → Json → Members → Members
append_member n k no_members = member n k no_members
append_member n k (member m j ms) = member m j (append_member n k ms)

-- ---- trees

-- another content at a position
abbrev pub put : ℕ → Json → Json → Json
put i k (object ms) = object (put_content i k ms)
put i k (array js) = array (put_item i k js)
put i k j = j

-- none at a position, and those behind it move up
abbrev pub cut : ℕ → Json → Json
cut i (object ms) = object (cut_member i ms)
cut i (array js) = array (cut_item i js)
cut i j = j

-- a member in the place of the one that has its name, or behind the others
abbrev pub with_member : Option ℕ → List ℕ → Json → Members → Members
with_member (Some i) s k ms = put_content i k ms
with_member None s k ms = append_member s k ms

abbrev pub with_added : List ℕ → Json → Json → Result Json Cause
with_added s k (object ms) = Ok (object (with_member (key_place s (keys ms)) s k ms))
with_added s k (array js) = on_ok (λ i. array (insert_item i k js)) (free_position s (item_count js))
with_added s k _ = Err NotAPlace

-- ---- changes

-- the whole tree is changed
abbrev pub changed_whole : ChangeTree → Result Json Cause
changed_whole (adds k) = Ok k
changed_whole (replaces k) = Ok k
changed_whole removes = Err WholeFile

-- what a part leads to is changed
abbrev pub changed_child : ChangeTree → List ℕ → Json → Result Json Cause
changed_child (adds k) s j = with_added s k j
changed_child (replaces k) s j = on_ok (λ i. put i k j) (position s j)
changed_child removes s j = on_ok (λ i. cut i j) (position s j)

-- what a place leads to is changed
abbrev pub changed : ChangeTree → List (List ℕ) → Json → Result Json Cause
changed c [] j = changed_whole c
changed c (s ∷ []) j = changed_child c s j
changed c (s ∷ r ∷ rs) j =
    and_then (λ i. on_ok (λ k. put i k j) (changed c (r ∷ rs) (child i j))) (position s j)

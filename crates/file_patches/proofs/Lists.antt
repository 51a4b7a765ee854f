-- Lists of trees and of members, and what definitions make of their items and members.
use Rattle.std.proofs.Common.{◌≡◌, ℕ, zero, suc, ◌<◌, List, [], ◌∷◌, ◌++◌, take, drop, set, length, get_or, refl, sym, ap, ◌∙◌, arith, Vec, Global}
use Rattle.json.specs.Json.{Json, null, boolean, number, string, array, object, Items, no_items, item, Members, no_members, member}
use Rattle.file_trees.specs.FileTrees.{file_tree, items_view, members_view}
use Rattle.file_trees.specs.declared.tree.FileTree.{FileTree, Array, Object}
use Rattle.file_trees.proofs.Owned.{tree-Array, tree-Object}
use Rattle.file_patches.specs.Equality.{item_count, member_count}
use Rattle.file_patches.specs.Places.{item_at, member_at, child}
use Rattle.file_patches.specs.Counts.{child_count}
use Rattle.file_patches.specs.Changes.{put_item, put_content, insert_item, cut_item, cut_member, append_member, put}

pub count_items : (ts : List FileTree) → item_count (items_view ts) ≡ length ts
count_items [] = refl
count_items (t ∷ ts) = ap suc (count_items ts)

pub count_members : (ms : List (List ℕ × FileTree)) → member_count (members_view ms) ≡ length ms
count_members [] = refl
count_members (m ∷ ms) = ap suc (count_members ms)

pub ruleset count_rules = (count_items, count_members)

-- ---- the content at a position

pub item_there : (ts : List FileTree) (i : ℕ) (t : FileTree) → i < length ts → t ≡ get_or ts i t → item_at i (items_view ts) ≡ file_tree t
item_there [] i t h e = absurd (omega arith)
item_there (u ∷ ts) zero t h e = ap file_tree (sym e)
item_there (u ∷ ts) (suc i) t h e = item_there ts i t (omega arith) e

pub member_there : (ms : List (List ℕ × FileTree)) (i : ℕ) (m : List ℕ × FileTree) → i < length ms → m ≡ get_or ms i m → member_at i (members_view ms) ≡ file_tree m.1
member_there [] i m h e = absurd (omega arith)
member_there (k ∷ ms) zero m h e = ap (λ x. file_tree x.1) (sym e)
member_there (k ∷ ms) (suc i) m h e = member_there ms i m (omega arith) e

-- ---- lists with one content changed

pub set_item : (ts : List FileTree) (i : ℕ) (t : FileTree) → items_view (set ts i t) ≡ put_item i (file_tree t) (items_view ts)
set_item [] i t = refl
set_item (u ∷ ts) zero t = refl
set_item (u ∷ ts) (suc i) t = ap (item (file_tree u)) (set_item ts i t)

pub set_member : (ms : List (List ℕ × FileTree)) (i : ℕ) (n : List ℕ) (t : FileTree) (d : List ℕ × FileTree) → n ≡ (get_or ms i d).0 → members_view (set ms i (n, t)) ≡ put_content i (file_tree t) (members_view ms)
set_member [] i n t d e = refl
set_member (m ∷ ms) zero n t d e = ap (λ k. member k (file_tree t) (members_view ms)) e
set_member (m ∷ ms) (suc i) n t d e = ap (member m.0 (file_tree m.1)) (set_member ms i n t d e)

pub inserted : (ts : List FileTree) (i : ℕ) (t : FileTree) → items_view (take i ts ++ t ∷ drop i ts) ≡ insert_item i (file_tree t) (items_view ts)
inserted ts zero t = refl
inserted [] (suc i) t = refl
inserted (u ∷ ts) (suc i) t = ap (item (file_tree u)) (inserted ts i t)

pub items_cut : (ts : List FileTree) (i : ℕ) → items_view (take i ts ++ drop (suc i) ts) ≡ cut_item i (items_view ts)
items_cut [] zero = refl
items_cut [] (suc i) = refl
items_cut (u ∷ ts) zero = refl
items_cut (u ∷ ts) (suc i) = ap (item (file_tree u)) (items_cut ts i)

pub members_cut : (ms : List (List ℕ × FileTree)) (i : ℕ) → members_view (take i ms ++ drop (suc i) ms) ≡ cut_member i (members_view ms)
members_cut [] zero = refl
members_cut [] (suc i) = refl
members_cut (m ∷ ms) zero = refl
members_cut (m ∷ ms) (suc i) = ap (member m.0 (file_tree m.1)) (members_cut ms i)

pub appended : (ms : List (List ℕ × FileTree)) (n : List ℕ) (t : FileTree) → members_view (ms ++ (n, t) ∷ []) ≡ append_member n (file_tree t) (members_view ms)
appended [] n t = refl
appended (m ∷ ms) n t = ap (member m.0 (file_tree m.1)) (appended ms n t)

-- ---- a content that is put twice

items_twice : (i : ℕ) (k n : Json) (js : Items) → put_item i k (put_item i n js) ≡ put_item i k js
items_twice i k n no_items = refl
items_twice zero k n (item j js) = refl
items_twice (suc i) k n (item j js) = ap (item j) (items_twice i k n js)

contents_twice : (i : ℕ) (k n : Json) (ms : Members) → put_content i k (put_content i n ms) ≡ put_content i k ms
contents_twice i k n no_members = refl
contents_twice zero k n (member m j ms) = refl
contents_twice (suc i) k n (member m j ms) = ap (member m j) (contents_twice i k n ms)

pub put_twice : (i : ℕ) (k n j : Json) → put i k (put i n j) ≡ put i k j
put_twice i k n null = refl
put_twice i k n (boolean b) = refl
put_twice i k n (number s) = refl
put_twice i k n (string s) = refl
put_twice i k n (array js) = ap array (items_twice i k n js)
put_twice i k n (object ms) = ap object (contents_twice i k n ms)

items_stay : (i : ℕ) (n : Json) (js : Items) → item_count (put_item i n js) ≡ item_count js
items_stay i n no_items = refl
items_stay zero n (item j js) = refl
items_stay (suc i) n (item j js) = ap suc (items_stay i n js)

members_stay : (i : ℕ) (n : Json) (ms : Members) → member_count (put_content i n ms) ≡ member_count ms
members_stay i n no_members = refl
members_stay zero n (member m j ms) = refl
members_stay (suc i) n (member m j ms) = ap suc (members_stay i n ms)

pub count_stays : (i : ℕ) (n j : Json) → child_count (put i n j) ≡ child_count j
count_stays i n null = refl
count_stays i n (boolean b) = refl
count_stays i n (number s) = refl
count_stays i n (string s) = refl
count_stays i n (array js) = items_stay i n js
count_stays i n (object ms) = members_stay i n ms

-- ---- trees that are arrays and objects

pub array_count : (t : FileTree) (v : Vec FileTree Global) → t ≡ Array v → child_count (file_tree t) ≡ length v.items
array_count t v e = ap (λ x. child_count (file_tree x)) e ∙ ap child_count (tree-Array v) ∙ count_items v.items

pub object_count : (t : FileTree) (v : Vec (List ℕ × FileTree) Global) → t ≡ Object v → child_count (file_tree t) ≡ length v.items
object_count t v e = ap (λ x. child_count (file_tree x)) e ∙ ap child_count (tree-Object v) ∙ count_members v.items

pub array_child : (t : FileTree) (v : Vec FileTree Global) (i : ℕ) (r : FileTree) → t ≡ Array v → i < length v.items → r ≡ get_or v.items i r → file_tree r ≡ child i (file_tree t)
array_child t v i r e h is =
    sym (ap (λ x. child i (file_tree x)) e ∙ ap (child i) (tree-Array v) ∙ item_there v.items i r h is)

pub object_child : (t : FileTree) (v : Vec (List ℕ × FileTree) Global) (i : ℕ) (r : List ℕ × FileTree) → t ≡ Object v → i < length v.items → r ≡ get_or v.items i r → file_tree r.1 ≡ child i (file_tree t)
object_child t v i r e h is =
    sym (ap (λ x. child i (file_tree x)) e ∙ ap (child i) (tree-Object v) ∙ member_there v.items i r h is)

pub array_seen : (t : FileTree) (v : Vec FileTree Global) → t ≡ Array v → file_tree t ≡ array (items_view v.items)
array_seen t v e = ap file_tree e ∙ tree-Array v

pub object_seen : (t : FileTree) (v : Vec (List ℕ × FileTree) Global) → t ≡ Object v → file_tree t ≡ object (members_view v.items)
object_seen t v e = ap file_tree e ∙ tree-Object v

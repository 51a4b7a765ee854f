-- Trees that are equal part by part.
use Rattle.std.proofs.Common.{◌≡◌, ℕ, ◌≤◌, true, false, List, length, drop, refl, ap, ap₂, ◌∙◌, ne_eqb, eq-eqb, Vec, Global}
use Rattle.std.proofs.lemmas.List.{drop_all}
use Rattle.json.specs.Json.{array, object, Items, no_items, item}
use Rattle.file_trees.specs.FileTrees.{file_tree, items_view, members_view}
use Rattle.file_trees.specs.declared.tree.FileTree.{FileTree, Array, Object}
use Rattle.file_patches.specs.Equality.{equal, items_equal, members_equal}
use Rattle.file_patches.proofs.Lists.{count_items, count_members, array_seen, object_seen}

all_end : (js : Items) → items_equal js no_items ≡ true
all_end no_items = refl
all_end (item j js) = refl

pub items_ended : (ts us : List FileTree) (i : ℕ) → length us ≤ i → items_equal (items_view (drop i ts)) (items_view (drop i us)) ≡ true
items_ended ts us i h =
    ap (λ xs. items_equal (items_view (drop i ts)) (items_view xs)) (drop_all i us h) ∙ all_end (items_view (drop i ts))

both_arrays : (s t : FileTree) (v w : Vec FileTree Global) → s ≡ Array v → t ≡ Array w → equal (file_tree s) (file_tree t) ≡ equal (array (items_view v.items)) (array (items_view w.items))
both_arrays s t v w e f = ap₂ equal (array_seen s v e) (array_seen t w f)

pub arrays_differ : (s t : FileTree) (v w : Vec FileTree Global) → s ≡ Array v → t ≡ Array w → (length v.items ≡ length w.items → ⊥) → false ≡ equal (file_tree s) (file_tree t)
arrays_differ s t v w e f n =
    rw (both_arrays s t v w e f, count_items v.items, count_items w.items, ne_eqb (length v.items) (length w.items) n) refl

pub arrays_same : (s t : FileTree) (v w : Vec FileTree Global) → s ≡ Array v → t ≡ Array w → length v.items ≡ length w.items → items_equal (items_view v.items) (items_view w.items) ≡ equal (file_tree s) (file_tree t)
arrays_same s t v w e f n =
    rw (both_arrays s t v w e f, count_items v.items, count_items w.items, eq-eqb (length v.items) (length w.items) n) refl

both_objects : (s t : FileTree) (v w : Vec (List ℕ × FileTree) Global) → s ≡ Object v → t ≡ Object w → equal (file_tree s) (file_tree t) ≡ equal (object (members_view v.items)) (object (members_view w.items))
both_objects s t v w e f = ap₂ equal (object_seen s v e) (object_seen t w f)

pub objects_differ : (s t : FileTree) (v w : Vec (List ℕ × FileTree) Global) → s ≡ Object v → t ≡ Object w → (length v.items ≡ length w.items → ⊥) → false ≡ equal (file_tree s) (file_tree t)
objects_differ s t v w e f n =
    rw (both_objects s t v w e f, count_members v.items, count_members w.items, ne_eqb (length v.items) (length w.items) n) refl

pub objects_same : (s t : FileTree) (v w : Vec (List ℕ × FileTree) Global) → s ≡ Object v → t ≡ Object w → length v.items ≡ length w.items → members_equal (members_view v.items) (members_view w.items) ≡ equal (file_tree s) (file_tree t)
objects_same s t v w e f n =
    rw (both_objects s t v w e f, count_members v.items, count_members w.items, eq-eqb (length v.items) (length w.items) n) refl

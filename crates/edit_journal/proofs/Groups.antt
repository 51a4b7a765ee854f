-- The change that a tree is, and the tree of a change: groups by their entries.
use Rattle.std.proofs.Common.{◌≡◌, ℕ, ◌+◌, ◌*◌, ◌≤◌, Bool, true, false, List, [], ◌∷◌, cond, codes, bytes_eq, Option, Some, None, Result, Ok, Err, refl, sym, ap, ap₂, subst, ◌∙◌, arith}
use Rattle.std.specs.Prelude.{is_some}
use Rattle.std.specs.List.{All, AllByRecursion}
use Rattle.std.proofs.lemmas.List.Elements.{recursion_from_All}
use Rattle.serde_json.specs.Data.{Data, array, object, Items, no_items, item, no_members, member, depth, items_depth}
use Rattle.serde_json.specs.Written.{has_float, items_have_float}
use Rattle.texts.proofs.Conjunction.{first as left, second as right, both}
use Rattle.texts.specs.declared.side.Side.{Side}
use Rattle.value_json.proofs.Facts.{if_then}
use Rattle.edit_module.specs.Words.{WordTree}
use Rattle.edit_module.specs.Changes.{ChangeTree, one, group, entries_of}
use Rattle.edit_json.specs.WordJson.{counts_fit, numbers_fit}
use Rattle.edit_json.specs.Depths.{word_depth}
use Rattle.edit_journal.specs.EntryJson.{LineFault, not_an_entry, tree_of_entry, items_of_entries, tree_of_change, entries_counts_fit, entries_numbers_fit, change_counts_fit, change_numbers_fit, parts_of, entry_of_tree, array_items, group_items, are_entries, in_front, entries_of_items, group_of_items, as_change, change_of_parts, change_of_tree}
use Rattle.edit_journal.proofs.Entries.{parts_read_back, reads_back, writes_back, whole, shallow}
use Rattle.texts.proofs.Tests.{bytes_eq-is}

-- ---- from a change to its tree and back

all_are_entries : (es : List (Side × WordTree)) → are_entries (items_of_entries es) ≡ true
all_are_entries [] = refl
all_are_entries (e ∷ es) = both (is_some (parts_of (tree_of_entry e))) (are_entries (items_of_entries es)) (ap is_some (parts_read_back e)) (all_are_entries es)

all_read_back : (es : List (Side × WordTree)) → entries_counts_fit es ≡ true → entries_numbers_fit es ≡ true → entries_of_items (items_of_entries es) ≡ Ok es
all_read_back [] counts numbers = refl
all_read_back (e ∷ es) counts numbers =
    let front = reads_back e (left (counts_fit e.1) (entries_counts_fit es) counts) (left (numbers_fit e.1) (entries_numbers_fit es) numbers) in
    let others = all_read_back es (right (counts_fit e.1) (entries_counts_fit es) counts) (right (numbers_fit e.1) (entries_numbers_fit es) numbers) in
    ap₂ in_front front others

group_reads_back : (es : List (Side × WordTree)) → entries_counts_fit es ≡ true → entries_numbers_fit es ≡ true → group_of_items (items_of_entries es) ≡ Ok es
group_reads_back es counts numbers = rw (all_are_entries es) (all_read_back es counts numbers)

pub change_reads_back : (change : ChangeTree) → change_counts_fit change ≡ true → change_numbers_fit change ≡ true → change_of_tree (tree_of_change change) ≡ Ok change
change_reads_back (one e) counts numbers = ap (as_change one) (reads_back e (left (counts_fit e.1) true counts) (left (numbers_fit e.1) true numbers))
change_reads_back (group es) counts numbers = ap (as_change group) (group_reads_back es counts numbers)

-- ---- from a tree to its change and back

in_front_is : (r : Result (Side × WordTree) LineFault) (o : Result (List (Side × WordTree)) LineFault) (all : List (Side × WordTree)) → in_front r o ≡ Ok all
    → (e : Side × WordTree) × (es : List (Side × WordTree)) × (r ≡ Ok e) × (o ≡ Ok es) × (e ∷ es ≡ all)
in_front_is (Ok e) (Ok es) all h = (e, es, refl, refl, let same : e ∷ es ≡ all = cc in same)
in_front_is (Ok e) (Err fault) all h = cc
in_front_is (Err fault) o all h = cc

-- these entries have these trees, and their counts and numbers fit
abbrev pub AreOf : Items → List (Side × WordTree) → Type 0
AreOf ds es = (entries_counts_fit es ≡ true) × (entries_numbers_fit es ≡ true) × (items_of_entries es ≡ ds)

front_of : (d : Data) (ds : Items) (e : Side × WordTree) (es : List (Side × WordTree)) → entry_of_tree d ≡ Ok e → AreOf ds es → AreOf (item d ds) (e ∷ es)
front_of d ds e es is h =
    let w = writes_back d e is in
    (both (counts_fit e.1) (entries_counts_fit es) w.0 h.0, both (numbers_fit e.1) (entries_numbers_fit es) w.1 h.1, ap₂ item w.2 h.2)

all_write_back : (ds : Items) (es : List (Side × WordTree)) → entries_of_items ds ≡ Ok es → AreOf ds es
all_write_back no_items es h = let none : [] ≡ es = cc in subst (AreOf no_items) none (refl, refl, refl)
all_write_back (item d ds) es h =
    let p = in_front_is (entry_of_tree d) (entries_of_items ds) es h in
    subst (AreOf (item d ds)) p.4 (front_of d ds p.0 p.1 p.2 (all_write_back ds p.1 p.3))

group_writes_back : (ds : Items) (es : List (Side × WordTree)) → group_of_items ds ≡ Ok es → AreOf ds es
group_writes_back ds es h = by_test (are_entries ds) h where
  by_test : (b : Bool) → cond b (entries_of_items ds) (Err not_an_entry) ≡ Ok es → AreOf ds es
  by_test true h = all_write_back ds es h
  by_test false h = cc

array_is : (d : Data) (ds : Items) → array_items d ≡ Some ds → array ds ≡ d
array_is (array es) ds h = let same : es ≡ ds = cc in ap array (sym same)
array_is d ds h = cc

group_is : (d : Data) (ds : Items) → group_items d ≡ Some ds → object (member (codes "group") (array ds) no_members) ≡ d
group_is (object (member k d no_members)) ds h =
    let named = if_then (bytes_eq k (codes "group")) (array_items d) ds h in
    ap₂ (λ (l : List ℕ) (e : Data). object (member l e no_members)) (sym (bytes_eq-is k (codes "group") named.0)) (array_is d ds named.1)
group_is d ds h = cc

as_change_is : {X : Type 0} (change : X → ChangeTree) (r : Result X LineFault) (c : ChangeTree) → as_change change r ≡ Ok c → (x : X) × (r ≡ Ok x) × (change x ≡ c)
as_change_is change (Ok x) c h = (x, refl, let same : change x ≡ c = cc in same)
as_change_is change (Err fault) c h = cc

-- this change has this tree, and its counts and numbers fit
abbrev pub IsOf : Data → ChangeTree → Type 0
IsOf d change = (change_counts_fit change ≡ true) × (change_numbers_fit change ≡ true) × (tree_of_change change ≡ d)

pub change_writes_back : (d : Data) (change : ChangeTree) → change_of_tree d ≡ Ok change → IsOf d change
change_writes_back d change h = by_items (group_items d) refl h where
  by_items : (o : Option Items) → o ≡ group_items d → change_of_parts o d ≡ Ok change → IsOf d change
  by_items (Some ds) is h =
      let p = as_change_is group (group_of_items ds) change h in
      let w = group_writes_back ds p.0 p.1 in
      subst (IsOf d) p.2 (w.0, w.1, ap (λ es. object (member (codes "group") (array es) no_members)) w.2 ∙ group_is d ds (sym is))
  by_items None is h =
      let p = as_change_is one (entry_of_tree d) change h in
      let w = writes_back d p.0 p.1 in
      subst (IsOf d) p.2 (both (counts_fit p.0.1) true w.0 refl, both (numbers_fit p.0.1) true w.1 refl, w.2)

-- ---- floats and depth

pub entries_whole : (es : List (Side × WordTree)) → items_have_float (items_of_entries es) ≡ false
entries_whole [] = refl
entries_whole (e ∷ es) = rw (whole e) (entries_whole es)

pub change_whole : (change : ChangeTree) → has_float (tree_of_change change) ≡ false
change_whole (one e) = whole e
change_whole (group es) = rw (entries_whole es) refl

entries_shallow : (n : ℕ) (es : List (Side × WordTree)) → AllByRecursion (λ (e : Side × WordTree). word_depth e.1 ≤ n) es → items_depth (items_of_entries es) ≤ 3 * n + 2
entries_shallow n [] h = omega arith
entries_shallow n (e ∷ es) h = omega (arith, shallow e, h.0, entries_shallow n es h.1)

change_depth : (n : ℕ) (change : ChangeTree) → AllByRecursion (λ (e : Side × WordTree). word_depth e.1 ≤ n) (entries_of change) → depth (tree_of_change change) ≤ 3 * n + 4
change_depth n (one e) h = omega (arith, shallow e, h.0)
change_depth n (group es) h = omega (arith, entries_shallow n es h)

pub change_shallow : (change : ChangeTree) (n : ℕ) → All (λ (e : Side × WordTree). word_depth e.1 ≤ n) (entries_of change) → depth (tree_of_change change) ≤ 3 * n + 4
change_shallow change n h = change_depth n change (recursion_from_All (λ (e : Side × WordTree). word_depth e.1 ≤ n) (entries_of change) h)

-- The entry that a tree is, and the tree of an entry; `Groups` has the same of changes.
use Rattle.std.proofs.Common.{◌≡◌, ℕ, ◌+◌, ◌*◌, ◌≤◌, Bool, true, false, ◌&&◌, List, cond, codes, bytes_eq, Option, Some, None, option_map, Ok, refl, sym, ap, ap₂, ◌∙◌, arith}
use Rattle.serde_json.specs.Data.{Data, string, object, no_members, member, depth}
use Rattle.serde_json.specs.Written.{has_float}
use Rattle.texts.proofs.Conjunction.{first as left, second as right}
use Rattle.value_json.proofs.Facts.{if_then}
use Rattle.edit_module.specs.Words.{WordTree}
use Rattle.texts.specs.declared.side.Side.{Side}
use Rattle.texts.specs.declared.side.Side.TheVariants.{Left, Right}
use Rattle.edit_json.specs.WordJson.{tree_of_word, word_of_tree, counts_fit, numbers_fit}
use Rattle.edit_json.specs.Depths.{word_depth}
use Rattle.edit_json.proofs.WritingReadsBack.{again as word_reads}
use Rattle.edit_json.proofs.ReadingHasTree.{takes as word_writes_back}
use Rattle.edit_json.proofs.TreeDepths.{whole as word_whole, shallow as word_shallow}
use Rattle.edit_journal.specs.EntryJson.{side_text, side_of, tree_of_entry, parts_of, entry_with, entry_of_parts, entry_of_tree}
use Rattle.texts.proofs.Tests.{bytes_eq-is}

-- ---- sides

side_reads_back : (side : Side) → side_of (side_text side) ≡ Some side
side_reads_back Left = refl
side_reads_back Right = refl

pub side_writes_back : (s : List ℕ) (side : Side) → side_of s ≡ Some side → side_text side ≡ s
side_writes_back s side h = by_tests (bytes_eq s (codes "left")) (bytes_eq s (codes "right")) refl refl h where
  by_tests : (l r : Bool) → l ≡ bytes_eq s (codes "left") → r ≡ bytes_eq s (codes "right") → cond l (Some Left) (cond r (Some Right) None) ≡ Some side → side_text side ≡ s
  by_tests true r is other h = let same : Left ≡ side = cc in ap side_text (sym same) ∙ sym (bytes_eq-is s (codes "left") (sym is))
  by_tests false true is other h = let same : Right ≡ side = cc in ap side_text (sym same) ∙ sym (bytes_eq-is s (codes "right") (sym other))
  by_tests false false is other h = cc

-- ---- the parts of a tree

pub parts_read_back : (e : Side × WordTree) → parts_of (tree_of_entry e) ≡ Some (e.0, tree_of_word e.1)
parts_read_back e = ap (option_map (λ side. (side, tree_of_word e.1))) (side_reads_back e.0)

-- the tree of a side and of the tree of an edit
abbrev of_parts : Side × Data → Data
of_parts p = object (member (codes "edit") p.1 (member (codes "side") (string (side_text p.0)) no_members))

side_some : (s : List ℕ) (d : Data) (p : Side × Data) (o : Option Side) → ((side : Side) → o ≡ Some side → side_text side ≡ s) → option_map (λ side. (side, d)) o ≡ Some p → (side_text p.0 ≡ s) × (p.1 ≡ d)
side_some s d p None writes_back h = cc
side_some s d p (Some side) writes_back h =
    let first : p.0 ≡ side = cc in
    let second : p.1 ≡ d = cc in
    (ap side_text first ∙ writes_back side refl, second)

parts_write_back : (d : Data) (p : Side × Data) → parts_of d ≡ Some p → of_parts p ≡ d
parts_write_back (object (member k edit (member l (string s) no_members))) p h =
    let named = if_then (bytes_eq k (codes "edit") && bytes_eq l (codes "side")) (option_map (λ side. (side, edit)) (side_of s)) p h in
    let first = bytes_eq-is k (codes "edit") (left (bytes_eq k (codes "edit")) (bytes_eq l (codes "side")) named.0) in
    let second = bytes_eq-is l (codes "side") (right (bytes_eq k (codes "edit")) (bytes_eq l (codes "side")) named.0) in
    let inner = side_some s edit p (side_of s) (side_writes_back s) named.1 in
    rw (first, second, inner.0, inner.1) refl
parts_write_back d p h = cc

-- ---- entries

pub reads_back : (e : Side × WordTree) → counts_fit e.1 ≡ true → numbers_fit e.1 ≡ true → entry_of_tree (tree_of_entry e) ≡ Ok e
reads_back e counts numbers = ap entry_of_parts (parts_read_back e) ∙ ap (entry_with e.0) (word_reads e.1 counts numbers)

with_writes_back : (side : Side) (o : Option WordTree) (e : Side × WordTree) → entry_with side o ≡ Ok e → (side ≡ e.0) × (o ≡ Some e.1)
with_writes_back side None e h = cc
with_writes_back side (Some w) e h =
    let first : side ≡ e.0 = cc in
    let second : w ≡ e.1 = cc in
    (first, ap Some second)

parts_of_entry : (o : Option (Side × Data)) (e : Side × WordTree) → entry_of_parts o ≡ Ok e → (p : Side × Data) × (o ≡ Some p) × (p.0 ≡ e.0) × (word_of_tree p.1 ≡ Some e.1)
parts_of_entry None e h = cc
parts_of_entry (Some p) e h = let t = with_writes_back p.0 (word_of_tree p.1) e h in (p, refl, t.0, t.1)

pub writes_back : (d : Data) (e : Side × WordTree) → entry_of_tree d ≡ Ok e → (counts_fit e.1 ≡ true) × (numbers_fit e.1 ≡ true) × (tree_of_entry e ≡ d)
writes_back d e h =
    let p = parts_of_entry (parts_of d) e h in
    let w = word_writes_back p.0.1 e.1 p.3 in
    let whole : tree_of_entry e ≡ of_parts p.0 = ap₂ (λ t s. object (member (codes "edit") t (member (codes "side") (string (side_text s)) no_members))) w.0 (sym p.2) in
    (w.1, w.2, whole ∙ parts_write_back d p.0 p.1)

-- ---- floats and depth

pub whole : (e : Side × WordTree) → has_float (tree_of_entry e) ≡ false
whole e = rw (word_whole e.1) refl

pub shallow : (e : Side × WordTree) → depth (tree_of_entry e) ≤ 3 * word_depth e.1 + 2
shallow e = omega (arith, word_shallow e.1)

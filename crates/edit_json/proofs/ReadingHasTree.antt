-- What is read has counts and numbers that fit, and has the tree that was read.
use Rattle.std.proofs.Common.{◌≡◌, ℕ, ◌^◌, ℤ, Bool, true, false, ◌&&◌, List, [], ◌∷◌, Option, Some, None, option_map, option_and_then, codes, bytes_eq, cond, refl, sym, ap, subst, ◌∙◌}
use Rattle.std.specs.Prelude.{nat_lt}
use Rattle.hold_shapes.specs.Plans.{is_count}
use Rattle.hold_shapes.specs.declared.edit.Place.{Place}
use Rattle.hold_shapes.specs.declared.edit.Place.TheVariants as places
use Rattle.hold_shapes.specs.declared.edit.ShapeEdit.TheVariants as edits
use Rattle.edit_module.specs.declared.atom.Atom.{Atom}
use Rattle.edit_module.specs.declared.atom.Atom.TheVariants as atoms
use Rattle.serde_json.specs.Data.{Num, unsigned, negative, float, Data, boolean, number, string, array, object, Items, no_items, item, no_members, member}
use Rattle.serde_json.specs.Find.{as_str}
use Rattle.edit_module.specs.Words.{PrimitiveTree, set, add, splice, at, stay, switch, modify, shape, WordTree, no_primitives, more_primitives}
use Rattle.doc_values.specs.Integers.{fits_i64}
use Rattle.value_json.specs.Numbers.{int_in, int_of, count_in, count_of, counts_of, int_tree, count_tree}
use Rattle.texts.proofs.Conjunction.{both}
use Rattle.value_json.proofs.Facts.{bind_some, map_some, if_some}
use Rattle.value_json.proofs.ReadingHasTree.{int_takes, count_takes, counts_take}
use Rattle.edit_json.specs.declared.kind.Kind.{Kind}
use Rattle.edit_json.specs.declared.kind.Kind.TheVariants.{Set, Add, Splice, At, Stay, Switch, Mod, Ins, Del, Move, Reorder, Put, Drop, Rename, Graft, Prune, Shift, Hang}
use Rattle.edit_json.specs.Kinds.{kind_of}
use Rattle.edit_json.specs.Values.{tree_of_counts, tree_of_atom, tree_of_place, atom_of, numbers_of, data_place, if_count, item_count_of, fits_u64, all_fit_u64, atom_fits, place_fits}
use Rattle.edit_json.specs.WordJson.{tree_of_primitive, items_of_word, tree_of_word, leaf_of, primitive_of, content_of, word_of_tree, word_of_items, primitive_counts_fit, counts_fit, primitive_numbers_fit, numbers_fit}
use Rattle.value_json.specs.SmallTrees.{one_member}
use Rattle.texts.proofs.Tests.{bytes_eq-is}

-- ---- values

text_takes : (d : Data) (s : List ℕ) → as_str d ≡ Some s → string s ≡ d
text_takes (string r) s h = let e : r ≡ s = cc in ap string (sym e)
text_takes d s h = cc

int_takes_tree : (d : Data) (z : ℤ) → int_of d ≡ Some z → (int_tree z ≡ d) × (fits_i64 z ≡ true)
int_takes_tree (number x) z h = let p = int_takes x z h in (ap number p.0, p.1)
int_takes_tree d z h = cc

in_range : (x : Num) (n : ℕ) → count_in x ≡ Some n → fits_u64 n ≡ true
in_range (unsigned m) n h = let p = if_some (nat_lt m (2 ^ 64)) m n h in ap fits_u64 (sym p.1) ∙ p.0
in_range (negative z) n h = cc
in_range (float f) n h = cc

pub count_fits : (d : Data) (n : ℕ) → count_of d ≡ Some n → fits_u64 n ≡ true
count_fits (number x) n h = in_range x n h
count_fits d n h = cc

counts_all_fit : (ds : Items) (ns : List ℕ) → counts_of ds ≡ Some ns → all_fit_u64 ns ≡ true
counts_all_fit no_items ns h = let e : [] ≡ ns = cc in ap all_fit_u64 (sym e)
counts_all_fit (item d ds) ns h =
    let b = bind_some (λ n. option_map (λ ns. n ∷ ns) (counts_of ds)) (count_of d) ns h in
    let m = map_some (λ ns. b.0 ∷ ns) (counts_of ds) ns b.2 in
    ap all_fit_u64 (sym m.2) ∙ both (fits_u64 b.0) (all_fit_u64 m.0) (count_fits d b.0 b.1) (counts_all_fit ds m.0 m.1)

numbers_take : (d : Data) (ns : List ℕ) → numbers_of d ≡ Some ns → (tree_of_counts ns ≡ d) × (all_fit_u64 ns ≡ true)
numbers_take (array ds) ns h = (ap array (counts_take ds ns h), counts_all_fit ds ns h)
numbers_take d ns h = cc

atom_takes : (d : Data) (v : Atom) → atom_of d ≡ Some v → (tree_of_atom v ≡ d) × (atom_fits v ≡ true)
atom_takes (boolean b) v h = let e : atoms.Truth b ≡ v = cc in (ap tree_of_atom (sym e), ap atom_fits (sym e))
atom_takes (number x) v h =
    let m = map_some atoms.Number (int_in x) v h in
    let p = int_takes x m.0 m.1 in
    (ap tree_of_atom (sym m.2) ∙ ap number p.0, ap atom_fits (sym m.2) ∙ p.1)
atom_takes (string s) v h = let e : atoms.Letters s ≡ v = cc in (ap tree_of_atom (sym e), ap atom_fits (sym e))
atom_takes d v h = cc

place_takes : (d : Data) (p : Place) → data_place d ≡ Some p → (tree_of_place p ≡ d) × (place_fits p ≡ true)
place_takes (number x) p h =
    let m = map_some places.Index (count_of (number x)) p h in
    (ap tree_of_place (sym m.2) ∙ count_takes (number x) m.0 m.1, ap place_fits (sym m.2) ∙ count_fits (number x) m.0 m.1)
place_takes (string s) p h = let e : places.Key s ≡ p = cc in (ap tree_of_place (sym e), ap place_fits (sym e))
place_takes (array ds) p h =
    let m = map_some places.Node (counts_of ds) p h in
    (ap tree_of_place (sym m.2) ∙ ap array (counts_take ds m.0 m.1), ap place_fits (sym m.2) ∙ counts_all_fit ds m.0 m.1)
place_takes d p h = cc

item_count_takes : (d : Data) (n : ℕ) → item_count_of d ≡ Some n → (count_tree n ≡ d) × (is_count n ≡ true)
item_count_takes d n h =
    let b = bind_some if_count (count_of d) n h in
    let p = if_some (is_count b.0) b.0 n b.2 in
    (ap count_tree (sym p.1) ∙ count_takes d b.0 b.1, ap is_count (sym p.1) ∙ p.0)

-- ---- names of members

abbrev pub name_of : Kind → List ℕ
name_of Set = codes "set"
name_of Add = codes "add"
name_of Splice = codes "splice"
name_of At = codes "at"
name_of Stay = codes "stay"
name_of Switch = codes "switch"
name_of Mod = codes "mod"
name_of Ins = codes "ins"
name_of Del = codes "del"
name_of Move = codes "move"
name_of Reorder = codes "reorder"
name_of Put = codes "put"
name_of Drop = codes "drop"
name_of Rename = codes "rename"
name_of Graft = codes "graft"
name_of Prune = codes "prune"
name_of Shift = codes "shift"
name_of Hang = codes "hang"

-- a name that is this one, or one of the rest
or_rest : (k : List ℕ) (x kind : Kind) (rest : Option Kind) → cond (bytes_eq k (name_of x)) (Some x) rest ≡ Some kind → (rest ≡ Some kind → k ≡ name_of kind) → k ≡ name_of kind
or_rest k x kind rest h later = by_test (bytes_eq k (name_of x)) refl h where
  by_test : (b : Bool) → bytes_eq k (name_of x) ≡ b → cond b (Some x) rest ≡ Some kind → k ≡ name_of kind
  by_test true is h = let e : x ≡ kind = cc in bytes_eq-is k (name_of x) is ∙ ap name_of e
  by_test false is h = later h

kind_found : (k : List ℕ) (kind : Kind) → kind_of k ≡ Some kind → k ≡ name_of kind
kind_found k kind h =
    or_rest k Set kind _ h (λ h. or_rest k Add kind _ h (λ h. or_rest k Splice kind _ h (λ h. or_rest k At kind _ h (λ h. or_rest k Stay kind _ h (λ h.
    or_rest k Switch kind _ h (λ h. or_rest k Mod kind _ h (λ h. or_rest k Ins kind _ h (λ h. or_rest k Del kind _ h (λ h. or_rest k Move kind _ h (λ h.
    or_rest k Reorder kind _ h (λ h. or_rest k Put kind _ h (λ h. or_rest k Drop kind _ h (λ h. or_rest k Rename kind _ h (λ h. or_rest k Graft kind _ h (λ h.
    or_rest k Prune kind _ h (λ h. or_rest k Shift kind _ h (λ h. or_rest k Hang kind _ h (λ (none : None ≡ Some kind). cc))))))))))))))))))

-- ---- primitives and words

-- a primitive that is read from an object with the member
pub record IsRead (d : Data) (p : PrimitiveTree) : Type 0 where
  pub tree : tree_of_primitive p ≡ d
  pub counts : primitive_counts_fit p ≡ true
  pub numbers : primitive_numbers_fit p ≡ true

read_as : (d : Data) (p q : PrimitiveTree) → p ≡ q → IsRead d p → IsRead d q
read_as d p q e r = record { tree = ap tree_of_primitive (sym e) ∙ r.tree; counts = ap primitive_counts_fit (sym e) ∙ r.counts; numbers = ap primitive_numbers_fit (sym e) ∙ r.numbers }

-- a word that is read from items
pub record WordRead (ds : Items) (w : WordTree) : Type 0 where
  pub tree : items_of_word w ≡ ds
  pub counts : counts_fit w ≡ true
  pub numbers : numbers_fit w ≡ true

leaf_takes : (kind : Kind) (d : Data) (p : PrimitiveTree) → leaf_of kind d ≡ Some p → IsRead (one_member (name_of kind) d) p
leaf_takes Set d p h =
    let m = map_some set (atom_of d) p h in
    let r = atom_takes d m.0 m.1 in
    read_as _ _ p m.2 (record { tree = ap (one_member (codes "set")) r.0; counts = refl; numbers = r.1 })
leaf_takes Add d p h =
    let m = map_some add (int_of d) p h in
    let r = int_takes_tree d m.0 m.1 in
    read_as _ _ p m.2 (record { tree = ap (one_member (codes "add")) r.0; counts = refl; numbers = r.1 })
leaf_takes Splice (array (item i (item k (item s no_items)))) p h =
    let a = bind_some (λ i. option_and_then (λ k. option_map (splice i k) (as_str s)) (count_of k)) (count_of i) p h in
    let b = bind_some (λ k. option_map (splice a.0 k) (as_str s)) (count_of k) p a.2 in
    let m = map_some (splice a.0 b.0) (as_str s) p b.2 in
    read_as _ _ p m.2 (record {
      tree = rw (count_takes i a.0 a.1, count_takes k b.0 b.1, text_takes s m.0 m.1) refl;
      counts = refl;
      numbers = both (fits_u64 a.0) (fits_u64 b.0) (count_fits i a.0 a.1) (count_fits k b.0 b.1);
    })
leaf_takes Ins d p h =
    let m = map_some (λ n. shape (edits.Ins n)) (item_count_of d) p h in
    let r = item_count_takes d m.0 m.1 in
    read_as _ _ p m.2 (record { tree = ap (one_member (codes "ins")) r.0; counts = r.1; numbers = refl })
leaf_takes Del d p h =
    let m = map_some (λ n. shape (edits.Del n)) (item_count_of d) p h in
    let r = item_count_takes d m.0 m.1 in
    read_as _ _ p m.2 (record { tree = ap (one_member (codes "del")) r.0; counts = r.1; numbers = refl })
leaf_takes Move (array (item i (item j no_items))) p h =
    let a = bind_some (λ i. option_map (λ j. shape (edits.MoveItem i j)) (count_of j)) (count_of i) p h in
    let m = map_some (λ j. shape (edits.MoveItem a.0 j)) (count_of j) p a.2 in
    read_as _ _ p m.2 (record {
      tree = rw (count_takes i a.0 a.1, count_takes j m.0 m.1) refl;
      counts = refl;
      numbers = both (fits_u64 a.0) (fits_u64 m.0) (count_fits i a.0 a.1) (count_fits j m.0 m.1);
    })
leaf_takes Reorder d p h =
    let m = map_some (λ ns. shape (edits.Reorder ns)) (numbers_of d) p h in
    let r = numbers_take d m.0 m.1 in
    read_as _ _ p m.2 (record { tree = ap (one_member (codes "reorder")) r.0; counts = refl; numbers = r.1 })
leaf_takes Put d p h =
    let m = map_some (λ k. shape (edits.PutKey k)) (as_str d) p h in
    read_as _ _ p m.2 (record { tree = ap (one_member (codes "put")) (text_takes d m.0 m.1); counts = refl; numbers = refl })
leaf_takes Drop d p h =
    let m = map_some (λ k. shape (edits.DropKey k)) (as_str d) p h in
    read_as _ _ p m.2 (record { tree = ap (one_member (codes "drop")) (text_takes d m.0 m.1); counts = refl; numbers = refl })
leaf_takes Rename (array (item k (item m no_items))) p h =
    let a = bind_some (λ k. option_map (λ m. shape (edits.RenameKey k m)) (as_str m)) (as_str k) p h in
    let b = map_some (λ m. shape (edits.RenameKey a.0 m)) (as_str m) p a.2 in
    read_as _ _ p b.2 (record { tree = rw (text_takes k a.0 a.1, text_takes m b.0 b.1) refl; counts = refl; numbers = refl })
leaf_takes Graft d p h =
    let m = map_some (λ q. shape (edits.Graft q)) (numbers_of d) p h in
    let r = numbers_take d m.0 m.1 in
    read_as _ _ p m.2 (record { tree = ap (one_member (codes "graft")) r.0; counts = refl; numbers = r.1 })
leaf_takes Prune d p h =
    let m = map_some (λ q. shape (edits.Prune q)) (numbers_of d) p h in
    let r = numbers_take d m.0 m.1 in
    read_as _ _ p m.2 (record { tree = ap (one_member (codes "prune")) r.0; counts = refl; numbers = r.1 })
leaf_takes Shift (array (item q (item i (item j no_items)))) p h =
    let a = bind_some (λ q. option_and_then (λ i. option_map (λ j. shape (edits.Shift q i j)) (count_of j)) (count_of i)) (numbers_of q) p h in
    let b = bind_some (λ i. option_map (λ j. shape (edits.Shift a.0 i j)) (count_of j)) (count_of i) p a.2 in
    let m = map_some (λ j. shape (edits.Shift a.0 b.0 j)) (count_of j) p b.2 in
    let r = numbers_take q a.0 a.1 in
    read_as _ _ p m.2 (record {
      tree = rw (r.0, count_takes i b.0 b.1, count_takes j m.0 m.1) refl;
      counts = refl;
      numbers = both (all_fit_u64 a.0) (fits_u64 b.0 && fits_u64 m.0) r.1 (both (fits_u64 b.0) (fits_u64 m.0) (count_fits i b.0 b.1) (count_fits j m.0 m.1));
    })
leaf_takes Hang (array (item q (item r no_items))) p h =
    let a = bind_some (λ q. option_map (λ r. shape (edits.Hang q r)) (numbers_of r)) (numbers_of q) p h in
    let m = map_some (λ r. shape (edits.Hang a.0 r)) (numbers_of r) p a.2 in
    let first = numbers_take q a.0 a.1 in
    let second = numbers_take r m.0 m.1 in
    read_as _ _ p m.2 (record {
      tree = rw (first.0, second.0) refl;
      counts = refl;
      numbers = both (all_fit_u64 a.0) (all_fit_u64 m.0) first.1 second.1;
    })
leaf_takes kind d p h = cc

mutual
  unfolding primitive_of

  primitive_takes : (d : Data) (p : PrimitiveTree) → primitive_of d ≡ Some p → IsRead d p
  primitive_takes (object (member k d no_members)) p h =
      let b = bind_some (λ kind. content_of kind d) (kind_of k) p h in
      subst (λ name. IsRead (one_member name d) p) (sym (kind_found k b.0 b.1)) (content_takes b.0 d p b.2)
  primitive_takes d p h = cc

  content_takes : (kind : Kind) (d : Data) (p : PrimitiveTree) → content_of kind d ≡ Some p → IsRead (one_member (name_of kind) d) p
  content_takes At (array (item f (item w no_items))) p h =
      let b = bind_some (λ f. option_map (at f) (word_of_tree w)) (as_str f) p h in
      let m = map_some (at b.0) (word_of_tree w) p b.2 in
      let r = word_takes w m.0 m.1 in
      read_as _ _ p m.2 (record { tree = rw (text_takes f b.0 b.1, r.0) refl; counts = r.1; numbers = r.2 })
  content_takes Stay (array (item t (item w no_items))) p h =
      let b = bind_some (λ t. option_map (stay t) (word_of_tree w)) (as_str t) p h in
      let m = map_some (stay b.0) (word_of_tree w) p b.2 in
      let r = word_takes w m.0 m.1 in
      read_as _ _ p m.2 (record { tree = rw (text_takes t b.0 b.1, r.0) refl; counts = r.1; numbers = r.2 })
  content_takes Switch (array (item a (item b (item w no_items)))) p h =
      let first = bind_some (λ a. option_and_then (λ b. option_map (switch a b) (word_of_tree w)) (as_str b)) (as_str a) p h in
      let second = bind_some (λ b. option_map (switch first.0 b) (word_of_tree w)) (as_str b) p first.2 in
      let m = map_some (switch first.0 second.0) (word_of_tree w) p second.2 in
      let r = word_takes w m.0 m.1 in
      read_as _ _ p m.2 (record { tree = rw (text_takes a first.0 first.1, text_takes b second.0 second.1, r.0) refl; counts = r.1; numbers = r.2 })
  content_takes Mod (array (item q (item w no_items))) p h =
      let b = bind_some (λ q. option_map (modify q) (word_of_tree w)) (data_place q) p h in
      let m = map_some (modify b.0) (word_of_tree w) p b.2 in
      let place = place_takes q b.0 b.1 in
      let r = word_takes w m.0 m.1 in
      read_as _ _ p m.2 (record { tree = rw (place.0, r.0) refl; counts = r.1; numbers = both (place_fits b.0) (numbers_fit m.0) place.1 r.2 })
  content_takes kind d p h = leaf_takes kind d p h

  word_takes : (d : Data) (w : WordTree) → word_of_tree d ≡ Some w → (tree_of_word w ≡ d) × (counts_fit w ≡ true) × (numbers_fit w ≡ true)
  word_takes (array ds) w h = let r = items_take ds w h in (ap array r.tree, r.counts, r.numbers)
  word_takes d w h = cc

  items_take : (ds : Items) (w : WordTree) → word_of_items ds ≡ Some w → WordRead ds w
  items_take no_items w h = let e : no_primitives ≡ w = cc in rw (← e) (record { tree = refl; counts = refl; numbers = refl })
  items_take (item d ds) w h =
      let b = bind_some (λ p. option_map (more_primitives p) (word_of_items ds)) (primitive_of d) w h in
      let m = map_some (more_primitives b.0) (word_of_items ds) w b.2 in
      let r = primitive_takes d b.0 b.1 in
      let s = items_take ds m.0 m.1 in
      rw (← m.2) (record {
        tree = rw (r.tree, s.tree) refl;
        counts = both (primitive_counts_fit b.0) (counts_fit m.0) r.counts s.counts;
        numbers = both (primitive_numbers_fit b.0) (numbers_fit m.0) r.numbers s.numbers;
      })

-- a word that is read from a tree
pub takes : (d : Data) (w : WordTree) → word_of_tree d ≡ Some w → (tree_of_word w ≡ d) × (counts_fit w ≡ true) × (numbers_fit w ≡ true)
takes = word_takes

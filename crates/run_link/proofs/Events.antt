-- The event that a tree is, and the tree of an event.
use Rattle.std.proofs.Common.{◌≡◌, ℕ, Bool, true, false, List, cond, codes, bytes_eq, Option, Some, None, option_map, Ok, Err, refl, sym, ap, ap₂, subst, ◌∙◌}
use Rattle.std.specs.Prelude.{ok_or}
use Rattle.serde_json.specs.Data.{Data, string, array, object, no_items, item, no_members, member}
use Rattle.value_json.proofs.Facts.{map_some}
use Rattle.value_json.specs.Numbers.{count_of}
use Rattle.value_json.proofs.ReadingHasTree.{count_takes}
use Rattle.texts.specs.declared.side.Side.{Side}
use Rattle.texts.specs.declared.side.Side.TheVariants.{Left, Right}
use Rattle.edit_json.specs.WordJson.{word_of_tree}
use Rattle.edit_json.proofs.WritingReadsBack.{again as word_reads}
use Rattle.edit_json.proofs.ReadingHasTree.{count_fits, takes as word_writes_back}
use Rattle.turn_link.specs.Links.{EventTree, edit, seal, send, deliver, restart}
use Rattle.run_link.specs.EventJson.{EventCause, not_an_event, not_an_edit, tree_of_side, tree_of_event, event_counts_fit, event_numbers_fit, side_of_tree, side_and_edit, edit_of_parts, event_of_side, delivery_of, event_of_member, event_of_tree}
use Rattle.value_json.specs.SmallTrees.{one_member}
use Rattle.texts.proofs.Tests.{bytes_eq-is}
use Rattle.edit_journal.proofs.Entries.{side_writes_back}

-- ---- sides

tree_side_writes : (d : Data) (side : Side) → side_of_tree d ≡ Some side → tree_of_side side ≡ d
tree_side_writes (string s) side h = ap string (side_writes_back s side h)
tree_side_writes d side h = cc

-- ---- what a tree reads as has this tree

-- the counts and the numbers of an event fit, and it has this tree
abbrev pub Has : Data → EventTree → Type 0
Has d e = (event_counts_fit e ≡ true) × (event_numbers_fit e ≡ true) × (tree_of_event e ≡ d)

ok_map : {X : Type 0} (f : X → EventTree) (o : Option X) (fault : EventCause) (e : EventTree) → ok_or (option_map f o) fault ≡ Ok e → (x : X) × (o ≡ Some x) × (f x ≡ e)
ok_map f None fault e h = cc
ok_map f (Some x) fault e h = (x, refl, let same : f x ≡ e = cc in same)

-- an event of a side, whose tree is that of the side under a name
side_event_writes : (name : List ℕ) (event : Side → EventTree) (k : List ℕ) (d : Data) (e : EventTree) → k ≡ name
    → ((side : Side) → Has (one_member name (tree_of_side side)) (event side)) → event_of_side event d ≡ Ok e → Has (one_member k d) e
side_event_writes name event k d e same forms h =
    let o = ok_map event (side_of_tree d) not_an_event e h in
    let f = forms o.0 in
    subst (λ x. Has (one_member k d) x) o.2 (f.0, f.1, f.2 ∙ ap₂ one_member (sym same) (tree_side_writes d o.0 o.1))

-- an array of a side and of the tree of an edit
abbrev pair : Side → Data → Data
pair side d = array (item (tree_of_side side) (item d no_items))

pair_writes : (d : Data) (p : Side × Data) → side_and_edit d ≡ Some p → pair p.0 p.1 ≡ d
pair_writes (array (item a (item b no_items))) p h =
    let m = map_some (λ (side : Side). (side, b)) (side_of_tree a) p h in
    ap₂ (λ x y. array (item x (item y no_items))) (ap tree_of_side (sym (ap (λ (q : Side × Data). q.0) m.2)) ∙ tree_side_writes a m.0 m.1) (sym (ap (λ (q : Side × Data). q.1) m.2))
pair_writes d p h = cc

edit_writes : (k : List ℕ) (d : Data) (e : EventTree) (o : Option (Side × Data)) → ((p : Side × Data) → o ≡ Some p → pair p.0 p.1 ≡ d)
    → k ≡ codes "edit" → edit_of_parts o ≡ Ok e → Has (one_member k d) e
edit_writes k d e None pairs same h = cc
edit_writes k d e (Some p) pairs same h =
    let w = ok_map (edit p.0) (word_of_tree p.1) not_an_edit e h in
    let t = word_writes_back p.1 w.0 w.1 in
    subst (λ x. Has (one_member k d) x) w.2 (t.1, t.2, ap₂ one_member (sym same) (ap (pair p.0) t.0 ∙ pairs p refl))

delivery_writes : (k : List ℕ) (d : Data) (e : EventTree) → k ≡ codes "deliver" → delivery_of d ≡ Ok e → Has (one_member k d) e
delivery_writes k d e same h =
    let o = ok_map deliver (count_of d) not_an_event e h in
    subst (λ x. Has (one_member k d) x) o.2 (refl, count_fits d o.0 o.1, ap₂ one_member (sym same) (count_takes d o.0 o.1))

member_writes : (k : List ℕ) (d : Data) (e : EventTree) → event_of_member k d ≡ Ok e → Has (one_member k d) e
member_writes k d e h = by_tests (bytes_eq k (codes "edit")) (bytes_eq k (codes "seal")) (bytes_eq k (codes "send")) (bytes_eq k (codes "deliver")) (bytes_eq k (codes "restart")) refl refl refl refl refl h where
  by_tests : (a b c f g : Bool) → a ≡ bytes_eq k (codes "edit") → b ≡ bytes_eq k (codes "seal") → c ≡ bytes_eq k (codes "send")
      → f ≡ bytes_eq k (codes "deliver") → g ≡ bytes_eq k (codes "restart")
      → cond a (edit_of_parts (side_and_edit d)) (cond b (event_of_side seal d) (cond c (event_of_side send d) (cond f (delivery_of d) (cond g (event_of_side restart d) (Err not_an_event))))) ≡ Ok e
      → Has (one_member k d) e
  by_tests true b c f g is1 is2 is3 is4 is5 h = edit_writes k d e (side_and_edit d) (pair_writes d) (bytes_eq-is k (codes "edit") (sym is1)) h
  by_tests false true c f g is1 is2 is3 is4 is5 h = side_event_writes (codes "seal") seal k d e (bytes_eq-is k (codes "seal") (sym is2)) (λ side. (refl, refl, refl)) h
  by_tests false false true f g is1 is2 is3 is4 is5 h = side_event_writes (codes "send") send k d e (bytes_eq-is k (codes "send") (sym is3)) (λ side. (refl, refl, refl)) h
  by_tests false false false true g is1 is2 is3 is4 is5 h = delivery_writes k d e (bytes_eq-is k (codes "deliver") (sym is4)) h
  by_tests false false false false true is1 is2 is3 is4 is5 h = side_event_writes (codes "restart") restart k d e (bytes_eq-is k (codes "restart") (sym is5)) (λ side. (refl, refl, refl)) h
  by_tests false false false false false is1 is2 is3 is4 is5 h = cc

pub writes_back : (d : Data) (e : EventTree) → event_of_tree d ≡ Ok e → Has d e
writes_back (object (member k c no_members)) e h = member_writes k c e h
writes_back d e h = cc

-- ---- an event is what its tree reads as

pub reads_back : (e : EventTree) → event_counts_fit e ≡ true → event_numbers_fit e ≡ true → event_of_tree (tree_of_event e) ≡ Ok e
reads_back (edit Left w) counts numbers = ap (λ o. ok_or (option_map (edit Left) o) not_an_edit) (word_reads w counts numbers)
reads_back (edit Right w) counts numbers = ap (λ o. ok_or (option_map (edit Right) o) not_an_edit) (word_reads w counts numbers)
reads_back (seal Left) counts numbers = refl
reads_back (seal Right) counts numbers = refl
reads_back (send Left) counts numbers = refl
reads_back (send Right) counts numbers = refl
reads_back (deliver p) counts numbers = ap (λ b. ok_or (option_map deliver (cond b (Some p) None)) not_an_event) numbers
reads_back (restart Left) counts numbers = refl
reads_back (restart Right) counts numbers = refl

-- Partition from the right: each primitive of the record, with a word of any length inside one list, is translated.
use Rattle.std.proofs.Common.{◌≡◌, ℕ, ◌+◌, ◌<◌, Bool, true, false, List, [], ◌∷◌, ◌++◌, length, Option, Some, None, option_map, Ok, refl, ap, sym, ◌∙◌, subst, arith, length-append}
use Rattle.std.specs.Prelude.{nat_eq, nat_lt, nat_le, bytes_eq, cond}
use Rattle.std.proofs.lemmas.Bool.{eqb-true, lt-ltb, leb-true, ltb-true}
use Rattle.hold_shapes.specs.declared.edit.Place.TheVariants.{Index, Key, Node}
use Rattle.hold_shapes.specs.declared.edit.ShapeEdit.{ShapeEdit}
use Rattle.hold_shapes.specs.declared.edit.ShapeEdit.TheVariants.{Ins, Del, MoveItem, Reorder, PutKey, DropKey, RenameKey, Graft, Prune, Shift, Hang}
use Rattle.hold_shapes.specs.Plans.{is_count, is_each_new}
use Rattle.texts.proofs.Conjunction.{first, second}
use Rattle.doc_values.specs.Documents.{DocTree, rec, DocTrees}
use Rattle.doc_values.specs.Types.{TyTree, ty_rec, ty_alt, ty_list, FieldTrees}
use Rattle.doc_values.specs.Typing.{has, lookup_field, lookup_type}
use Rattle.doc_values.specs.Initial.{initial}
use Rattle.edit_module.specs.Words.{PrimitiveTree, set as set_to, add, splice, at, stay, switch, modify, shape, WordTree, no_primitives, more_primitives, joined}
use Rattle.edit_module.specs.Action.{act, act_primitive, put_at, doc_at}
use Rattle.lens_core.specs.Emitted.{one_by_one}
use Rattle.lens_core.specs.Tags.{tag_count, tag_number, tag_name}
use Rattle.tag_seq.specs.Tags.{are_below, count}
use Rattle.lens_core.specs.Consistency.{content, list_doc}
use Rattle.lens_core.specs.Partition.{Parted, part_occurrence, part_right}
use Rattle.lens_core.proofs.Results.{after_ok}
use Rattle.edit_module.proofs.ActionKeepsTypes.{has_primitive}
use Rattle.lens_core.proofs.RecordFields.{content-found, content-put, ActsOnField, acts_on_field}
use Rattle.lens_core.proofs.ItemLists.{Item, tags_of, contents_at, length-contents}
use Rattle.partition_lens.proofs.ListEdits.{Allowed, edited, edit_back, mod_back}
use Rattle.lens_core.proofs.RightLists.{tag_type, right_lists, IsPartition, tag_found, names_as_numbers, right_type_is, HasLists, item_docs, lists_by_tag}
use Rattle.partition_lens.proofs.TagOrders.{IsOrder}
use Rattle.partition_lens.proofs.FromRight.{RightStep, mod_step, ins_step, del_step, move_step}
use Rattle.partition_lens.proofs.Reorderings.{reorder_step}
use Rattle.edit_module.proofs.JoinedWords.{acts_joined}
use Rattle.std.proofs.lemmas.Option.{same_Some}

-- ---- the primitives of one list

-- the list of the tag becomes the document x
record ListStep (fs : FieldTrees) (t : ℕ) (ps : List Item) (o : Option Parted) (x : DocTree) : Type 0 where
  list : List DocTree
  is : x ≡ list_doc list
  step : RightStep fs t ps o list

-- what is known of a tag and of the items
record IsReady (fs : FieldTrees) (t : ℕ) (ps : List Item) : Type 0 where
  part : IsPartition fs
  some : 0 < tag_count fs
  tag : t < tag_count fs
  low : are_below (tag_count fs) (tags_of ps) ≡ true

edit_row : (fs : FieldTrees) (t : ℕ) (ps : List Item) → IsReady fs t ps → (e : ShapeEdit) → Allowed (count t (tags_of ps)) e
    → RightStep fs t ps (part_occurrence (tag_name fs 0) (tag_name fs t) t (tags_of ps) (shape e)) (edited (initial (tag_type fs t)) e (contents_at t ps))
edit_row fs t ps r (Ins c) h = rw h (ins_step fs r.part r.some t ps c r.tag r.low h)
edit_row fs t ps r (Del c) h =
    let n = length-contents t ps in
    let few = leb-true c (count t (tags_of ps)) (second (is_count c) (nat_le c (count t (tags_of ps))) h) in
    rw h (del_step fs t c ps r.low (omega arith))
edit_row fs t ps r (MoveItem i j) h =
    let n = length-contents t ps in
    let hi = ltb-true i (count t (tags_of ps)) (first (nat_lt i (count t (tags_of ps))) (nat_lt j (count t (tags_of ps))) h) in
    let hj = ltb-true j (count t (tags_of ps)) (second (nat_lt i (count t (tags_of ps))) (nat_lt j (count t (tags_of ps))) h) in
    rw h (move_step fs t i j ps (initial (tag_type fs t)) r.low (omega arith) (omega arith))
edit_row fs t ps r (Reorder f) h =
    let n = length-contents t ps in
    let order : IsOrder (length (contents_at t ps)) f = record {
      long = eqb-true (length f) (count t (tags_of ps)) h.0 ∙ sym n;
      new = subst (λ z. is_each_new z [] f ≡ true) (sym n) h.1;
    } in
    rw (h.0, h.1) (reorder_step fs r.some t ps f (initial (tag_type fs t)) r.low order)
edit_row fs t ps r (PutKey k) h = absurd h
edit_row fs t ps r (DropKey k) h = absurd h
edit_row fs t ps r (RenameKey k m) h = absurd h
edit_row fs t ps r (Graft q) h = absurd h
edit_row fs t ps r (Prune q) h = absurd h
edit_row fs t ps r (Shift q i j) h = absurd h
edit_row fs t ps r (Hang q s) h = absurd h

modify_row : (fs : FieldTrees) (t : ℕ) (ps : List Item) → IsReady fs t ps → (q : ℕ) (u : WordTree) (x : DocTree) → act_primitive (ty_list (tag_type fs t)) (modify (Index q) u) (list_doc (contents_at t ps)) ≡ Ok x
    → ListStep fs t ps (part_occurrence (tag_name fs 0) (tag_name fs t) t (tags_of ps) (modify (Index q) u)) x
modify_row fs t ps r q u x e =
    let m = mod_back (tag_type fs t) u (contents_at t ps) q x e in
    let whole : length (contents_at t ps) ≡ length m.split.before + length (m.split.here ∷ m.split.after) = ap length m.split.is ∙ length-append m.split.before (m.split.here ∷ m.split.after) in
    let at_q = m.split.long in
    let n = length-contents t ps in
    let low : nat_lt q (count t (tags_of ps)) ≡ true = lt-ltb q (count t (tags_of ps)) (omega arith) in
    record { list = m.split.before ++ m.content ∷ m.split.after; is = m.is; step = rw low (mod_step fs r.part t ps q u x r.low m) }

one_row : (fs : FieldTrees) (t : ℕ) (ps : List Item) → IsReady fs t ps → (q : PrimitiveTree) (x : DocTree) → act_primitive (ty_list (tag_type fs t)) q (list_doc (contents_at t ps)) ≡ Ok x
    → ListStep fs t ps (part_occurrence (tag_name fs 0) (tag_name fs t) t (tags_of ps) q) x
one_row fs t ps r (modify (Index i) u) x e = modify_row fs t ps r i u x e
one_row fs t ps r (modify (Key k) u) x e = cc
one_row fs t ps r (modify (Node k) u) x e = cc
one_row fs t ps r (shape a) x e =
    let back = edit_back (tag_type fs t) a (contents_at t ps) x e in
    record {
      list = edited (initial (tag_type fs t)) a (contents_at t ps);
      is = back.1;
      step = edit_row fs t ps r a (subst (λ n. Allowed n a) (length-contents t ps) back.0);
    }
one_row fs t ps r (set_to a) x e = cc
one_row fs t ps r (add n) x e = cc
one_row fs t ps r (splice i k s) x e = cc
one_row fs t ps r (at f u) x e = cc
one_row fs t ps r (stay n u) x e = cc
one_row fs t ps r (switch n m u) x e = cc

-- ---- the words of one list

more_rows : (fs : FieldTrees) (t : ℕ) (ps : List Item) (q : PrimitiveTree) (w : WordTree) (y x : DocTree)
    → (i : ListStep fs t ps (part_occurrence (tag_name fs 0) (tag_name fs t) t (tags_of ps) q) y)
    → ListStep fs t i.step.items (one_by_one (part_occurrence (tag_name fs 0) (tag_name fs t) t) (tags_of i.step.items) w) x
    → ListStep fs t ps (one_by_one (part_occurrence (tag_name fs 0) (tag_name fs t) t) (tags_of ps) (more_primitives q w)) x
more_rows fs t ps q w y x i k = record {
  list = k.list;
  is = k.is;
  step = record {
    items = k.step.items;
    word = joined i.step.word k.step.word;
    carried = rw i.step.carried (rw k.step.carried refl);
    column = k.step.column;
    others = λ l e. k.step.others l e ∙ i.step.others l e;
    turns = acts_joined (ty_list (ty_alt fs)) i.step.word k.step.word (list_doc (item_docs fs ps)) (list_doc (item_docs fs i.step.items)) (list_doc (item_docs fs k.step.items)) i.step.turns k.step.turns;
    low = k.step.low;
  };
}

all_rows : (fs : FieldTrees) (t : ℕ) (w : WordTree) (ps : List Item) → IsReady fs t ps → (x : DocTree) → act (ty_list (tag_type fs t)) w (list_doc (contents_at t ps)) ≡ Ok x
    → ListStep fs t ps (one_by_one (part_occurrence (tag_name fs 0) (tag_name fs t) t) (tags_of ps) w) x
all_rows fs t no_primitives ps r x e = record {
  list = contents_at t ps;
  is = let same : list_doc (contents_at t ps) ≡ x = cc in sym same;
  step = record { items = ps; word = no_primitives; carried = refl; column = refl; others = λ l q. refl; turns = refl; low = r.low };
}
all_rows fs t (more_primitives q w) ps r x e =
    let a = after_ok (act_primitive (ty_list (tag_type fs t)) q (list_doc (contents_at t ps))) (λ y. act (ty_list (tag_type fs t)) w y) x e in
    let i = one_row fs t ps r q a.0 a.1 in
    let next : IsReady fs t i.step.items = record { part = r.part; some = r.some; tag = r.tag; low = i.step.low } in
    let now : a.0 ≡ list_doc (contents_at t i.step.items) = i.is ∙ ap list_doc (sym i.step.column) in
    more_rows fs t ps q w a.0 x i (all_rows fs t w i.step.items next x (subst (λ z. act (ty_list (tag_type fs t)) w z ≡ Ok x) now a.2))

-- ---- the record

-- the step: the new items, whose lists the new record has, and the word that turns the list of alternatives
pub record RecordStep (fs : FieldTrees) (ps : List Item) (o : Option Parted) (y : DocTree) : Type 0 where
  pub items : List Item
  pub word : WordTree
  pub carried : o ≡ Some (word, tags_of items)
  pub fields : DocTrees
  pub right : y ≡ rec fields
  pub lists : HasLists fs fields (lists_by_tag items)
  pub turns : act (ty_list (ty_alt fs)) word (list_doc (item_docs fs ps)) ≡ Ok (list_doc (item_docs fs items))
  pub low : are_below (tag_count fs) (tags_of items) ≡ true

-- the tag whose list a field of the record is
record IsList (fs : FieldTrees) (n : List ℕ) (ty : TyTree) : Type 0 where
  number : ℕ
  named : tag_name fs number ≡ n
  found : tag_number fs n ≡ Some number
  typed : ty ≡ ty_list (tag_type fs number)
  low : number < tag_count fs

list_field : (fs : FieldTrees) (n : List ℕ) (ty : TyTree) → lookup_type (right_lists fs) n ≡ Some ty → IsList fs n ty
list_field fs n ty e = go (lookup_field fs n) refl (sym (right_type_is fs n) ∙ e)
  where
    go : (o : Option (ℕ × TyTree)) → lookup_field fs n ≡ o → option_map ty_list (option_map (λ (f : ℕ × TyTree). f.1) o) ≡ Some ty → IsList fs n ty
    go None f h = cc
    go (Some s) f h =
        let tag = tag_found fs n s f in
        let same : ty_list s.1 ≡ ty = cc in
        record { number = s.0; named = tag.named; found = ap (option_map (λ (z : ℕ × TyTree). z.0)) f; typed = sym same ∙ ap ty_list (sym tag.typed); low = tag.low }

field_step : (fs : FieldTrees) → IsPartition fs → 0 < tag_count fs → (ps : List Item) (ys : DocTrees) (q : PrimitiveTree) (y : DocTree) → are_below (tag_count fs) (tags_of ps) ≡ true → HasLists fs ys (lists_by_tag ps)
    → act_primitive (ty_rec (right_lists fs)) q (rec ys) ≡ Ok y → (k : ActsOnField (right_lists fs) ys q y) → RecordStep fs ps (part_right fs (tags_of ps) (at k.field k.word)) y
field_step fs p some ps ys q y b lists e k =
    let tag = list_field fs k.field k.place.1 (ap (option_map (λ (z : ℕ × TyTree). z.1)) k.found) in
    let t = tag.number in
    let was : doc_at ys k.place.0 ≡ list_doc (contents_at t ps) =
    same_Some (doc_at ys k.place.0) (list_doc (contents_at t ps)) (sym (content-found (right_lists fs) ys k.field k.place lists.typed k.found)
    ∙ (ap (content (right_lists fs) ys) (sym tag.named) ∙ lists.each t tag.low)) in
    let acts : act (ty_list (tag_type fs t)) k.word (list_doc (contents_at t ps)) ≡ Ok k.content =
    subst (λ z. act z k.word (list_doc (contents_at t ps)) ≡ Ok k.content) tag.typed (subst (λ z. act k.place.1 k.word z ≡ Ok k.content) was k.acts) in
    let ready : IsReady fs t ps = record { part = p; some = some; tag = tag.low; low = b } in
    let r = all_rows fs t k.word ps ready k.content acts in
    let new : k.content ≡ list_doc (contents_at t r.step.items) = r.is ∙ ap list_doc (sym r.step.column) in
    record {
      items = r.step.items;
      word = r.step.word;
      carried = rw tag.found (subst (λ z. one_by_one (part_occurrence (tag_name fs 0) z t) (tags_of ps) k.word ≡ Some (r.step.word, tags_of r.step.items)) tag.named r.step.carried);
      fields = put_at ys k.place.0 k.content;
      right = k.result;
      lists = record {
        typed = subst (λ z. has (ty_rec (right_lists fs)) z ≡ true) k.result (has_primitive (ty_rec (right_lists fs)) q (rec ys) y p.right_sound lists.typed e);
        each = λ l h. content-put (right_lists fs) ys k.field k.place k.content lists.typed k.found (tag_name fs l)
            ∙ (ap (λ z. cond (bytes_eq z (tag_name fs l)) (Some k.content) (content (right_lists fs) ys (tag_name fs l))) (sym tag.named)
            ∙ (ap (λ z. cond z (Some k.content) (content (right_lists fs) ys (tag_name fs l))) (names_as_numbers fs t l p.apart tag.low h)
            ∙ chosen t r.step.items k.content l (nat_eq t l) refl new r.step.others (lists.each l h)));
      };
      turns = r.step.turns;
      low = r.step.low;
    }
  where
    chosen : (t : ℕ) (items : List Item) (x : DocTree) (l : ℕ) (c : Bool) → nat_eq t l ≡ c → x ≡ list_doc (contents_at t items) → ((m : ℕ) → nat_eq t m ≡ false → contents_at m items ≡ contents_at m ps)
        → content (right_lists fs) ys (tag_name fs l) ≡ Some (list_doc (contents_at l ps))
        → cond c (Some x) (content (right_lists fs) ys (tag_name fs l)) ≡ Some (list_doc (contents_at l items))
    chosen t items x l true f new others there = ap Some new ∙ ap (λ z. Some (list_doc (contents_at z items))) (eqb-true t l f)
    chosen t items x l false f new others there = there ∙ ap (λ z. Some (list_doc z)) (sym (others l f))

pub record_step : (fs : FieldTrees) → IsPartition fs → 0 < tag_count fs → (ps : List Item) (ys : DocTrees) (q : PrimitiveTree) (y : DocTree) → are_below (tag_count fs) (tags_of ps) ≡ true → HasLists fs ys (lists_by_tag ps)
    → act_primitive (ty_rec (right_lists fs)) q (rec ys) ≡ Ok y → RecordStep fs ps (part_right fs (tags_of ps) q) y
record_step fs p some ps ys q y b lists e =
    let k = acts_on_field (right_lists fs) ys q y e in
    subst (λ z. RecordStep fs ps (part_right fs (tags_of ps) z) y) (sym k.is) (field_step fs p some ps ys q y b lists e k)

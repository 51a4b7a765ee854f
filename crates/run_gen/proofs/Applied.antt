-- Each entry applies to the document of its side, and what holds after the entries before holds after it.
use Rattle.std.proofs.Common.{◌≡◌, mul-le-mul_left, ℕ, ◌+◌, ◌*◌, ◌<◌, ◌≤◌, ◌^◌, ℤ, pos, ◌&&◌, List, [], ◌∷◌, ◌++◌, length, codes, get_or, Ok, refl, ap, sym, ◌∙◌, subst, arith, length-append}
use Rattle.std.specs.Prelude.{◌+ℤ◌}
use Rattle.std.specs.List.{insert, remove}
use Rattle.texts.proofs.Conjunction.{both as both_true}
use Rattle.hold_shapes.specs.declared.edit.Place.TheVariants.{Index}
use Rattle.hold_shapes.specs.declared.edit.ShapeEdit.TheVariants.{Ins, MoveItem as MoveEdit}
use Rattle.doc_values.specs.Documents.{DocTree, int, text, alt}
use Rattle.doc_values.specs.Types.{ty_int, ty_alt}
use Rattle.edit_module.specs.Words.{WordTree, add, at, modify, no_primitives, more_primitives}
use Rattle.edit_module.specs.Action.{act}
use Rattle.lens_forms.specs.Forms.{left_type, right_type}
use Rattle.lens_core.specs.Sides.{near}
use Rattle.lens_core.specs.Consistency.{IsConsistent, list_doc}
use Rattle.edit_session.specs.Step.{TripleTree, IsInStep, document_on}
use Rattle.run_gen.specs.declared.choice.Choice.{Choice}
use Rattle.run_gen.specs.declared.choice.Choice.TheVariants.{InsertItem, InsertNumber, MoveItem, AddToNumber}
use Rattle.run_gen.specs.Program.{item_tags, generated_form}
use Rattle.run_gen.specs.Journal.{entry_of, insertion, texts_after, numbers_after}
use Rattle.run_gen.specs.Invariant.{absolute, weight, texts_of, numbers_of, AreInts, two_lists, IsGenerated, IsPossible}
use Rattle.run_gen.proofs.Measures.{moved_keeps}
use Rattle.run_gen.proofs.Lists.{text_count, number_count, number_weight, text_count-append, number_count-append, number_weight-append, weight-append, sum_fits, heavier}
use Rattle.run_gen.proofs.Related.{has_items, lists_equal, two_lists_equal}
use Rattle.lens_core.proofs.ItemLists.{split_at}
use Rattle.partition_lens.proofs.ListEdits.{edit_turns, mod_turns}
use Rattle.std.proofs.lemmas.Bool.{lt-ltb}
use Rattle.lens_core.proofs.RightLists.{Turns}

-- the entry applies, and what holds after the entries before holds of every triple that is in step and has its result
pub record Applies (c : Choice) (k : ℕ) (p : ℕ) (o : ℕ) (t : TripleTree) : Type 0 where
  pub document : DocTree
  pub acts : act (near (entry_of c).0 (left_type generated_form) (right_type generated_form)) (entry_of c).1 (document_on (entry_of c).0 t) ≡ Ok document
  pub next : (t' : TripleTree) → IsInStep (IsConsistent generated_form) t' → document_on (entry_of c).0 t' ≡ document
      → IsGenerated (k + 1) (texts_after c p) (numbers_after c o) t'

-- ---- entries of the left

-- the left document becomes a list of other items, which are known to have these three numbers
module _ (k p o : ℕ) (t' : TripleTree) (h : IsInStep (IsConsistent generated_form) t') where
  from_left : (ys : List DocTree) → t'.left ≡ list_doc ys → text_count ys ≡ p → number_count ys ≡ o → p + o ≤ k → 2 * number_weight ys ≤ k * (k + 1)
      → IsGenerated k p o t'
  from_left ys is texts numbers few light =
      let d = has_items t'.left t'.comp t'.right h in
      let same : d.items ≡ ys = lists_equal d.items ys (sym d.left_is ∙ is) in
      let weigh = ap number_weight same in
      record {
        documents = d;
        texts = ap text_count same ∙ texts;
        numbers = ap number_count same ∙ numbers;
        few = few;
        light = omega arith;
      }

  -- the right document becomes a record of other lists
  from_right : (texts numbers : List DocTree) → t'.right ≡ two_lists texts numbers → length texts ≡ p → length numbers ≡ o → p + o ≤ k → 2 * weight numbers ≤ k * (k + 1)
      → IsGenerated k p o t'
  from_right texts numbers is p_is o_is few light =
      let d = has_items t'.left t'.comp t'.right h in
      let same = two_lists_equal (texts_of d.items) texts (numbers_of d.items) numbers (sym d.right_is ∙ is) in
      let weigh = ap weight same.1 in
      record {
        documents = d;
        texts = ap length same.0 ∙ p_is;
        numbers = ap length same.1 ∙ o_is;
        few = few;
        light = omega arith;
      }

-- a word of the list of numbers
numbers_turn : (w : WordTree) (texts numbers others : List DocTree) → Turns (ty_int (pos 0)) w numbers others
    → act (right_type generated_form) (more_primitives (at (codes "nums") w) no_primitives) (two_lists texts numbers) ≡ Ok (two_lists texts others)
numbers_turn w texts numbers others h = rw h refl

-- the number at a place
number_at : (us ws : List DocTree) (v : DocTree) → AreInts (us ++ v ∷ ws) → (z : ℤ) × (v ≡ int z)
number_at [] ws (int z) h = (z, refl)
number_at [] ws _ h = absurd h
number_at (int y ∷ us) ws v h = number_at us ws v h
number_at (_ ∷ us) ws v h = absurd h

insert_item : (k p o : ℕ) (t : TripleTree) → IsGenerated k p o t → Applies InsertItem k p o t
insert_item k p o t h =
    let items = h.documents.items in
    let fresh = alt (codes "p") (text []) ∷ [] in
    let p_more = text_count-append items fresh in
    let o_more = number_count-append items fresh in
    let w_more = number_weight-append items fresh in
    let few = h.few in
    let light = h.light in
    let is_p = h.texts in
    let is_o = h.numbers in
    record {
      document = list_doc (items ++ fresh);
      acts = rw (h.documents.left_is) (edit_turns (ty_alt item_tags) (Ins 1) items refl);
      next = λ t' step is. from_left (k + 1) (p + 1) o t' step (items ++ fresh) is (omega arith) (omega arith) (omega arith) (omega arith);
    }

move_item : (i j k p o : ℕ) (t : TripleTree) → i < p + o → j < p + o → IsGenerated k p o t → Applies (MoveItem i j) k p o t
move_item i j k p o t below_i below_j h =
    let items = h.documents.items in
    let d = alt (codes "p") (text []) in
    let long = h.documents.are.all in
    let is_p = h.texts in
    let is_o = h.numbers in
    let few = h.few in
    let light = h.light in
    let i_in : i < length items = omega arith in
    let j_in : j < length items = omega arith in
    let p_same = moved_keeps text_count text_count-append items i j d i_in in
    let o_same = moved_keeps number_count number_count-append items i j d i_in in
    let w_same = moved_keeps number_weight number_weight-append items i j d i_in in
    record {
      document = list_doc (insert (remove items i) j (get_or items i d));
      acts = rw (h.documents.left_is) (edit_turns (ty_alt item_tags) (MoveEdit i j) items (both_true _ _ (lt-ltb i (length items) i_in) (lt-ltb j (length items) j_in)));
      next = λ t' step is. from_left (k + 1) p o t' step (insert (remove items i) j (get_or items i d)) is (omega arith) (omega arith) (omega arith) (omega arith);
    }

insert_number : (k p o : ℕ) (t : TripleTree) → IsGenerated k p o t → Applies InsertNumber k p o t
insert_number k p o t h =
    let items = h.documents.items in
    let texts = texts_of items in
    let numbers = numbers_of items in
    let fresh = int (pos 0) ∷ [] in
    let o_more = length-append numbers fresh in
    let w_more = weight-append numbers fresh in
    let is_p = h.texts in
    let is_o = h.numbers in
    let few = h.few in
    let light = h.light in
    record {
      document = two_lists texts (numbers ++ fresh);
      acts = rw (h.documents.right_is) (numbers_turn insertion texts numbers (numbers ++ fresh) (edit_turns (ty_int (pos 0)) (Ins 1) numbers refl));
      next = λ t' step is. from_right (k + 1) p (o + 1) t' step texts (numbers ++ fresh) is is_p (omega arith) (omega arith) (omega arith);
    }

-- entry k adds at most as much as is left to the bound
room : (k w : ℕ) → k < 10000 → 2 * w ≤ k * (k + 1) → w + (k + 1) < 2 ^ 63
room k w h light =
    let square : k * (k + 1) ≤ k * 10000 = mul-le-mul_left k (omega arith) in
    omega arith

adds : (z : ℤ) (n : ℕ) → absolute z + n < 2 ^ 63 → act (ty_int (pos 0)) (more_primitives (add (pos n)) no_primitives) (int z) ≡ Ok (int (z +ℤ pos n))
adds z n h = rw (sum_fits z n h) refl

add_to_number : (i k p o : ℕ) (t : TripleTree) → k < 10000 → i < o → IsGenerated k p o t → Applies (AddToNumber i (k + 1)) k p o t
add_to_number i k p o t small below_i h =
    let items = h.documents.items in
    let texts = texts_of items in
    let numbers = numbers_of items in
    let is_p = h.texts in
    let is_o = h.numbers in
    let few = h.few in
    let light = h.light in
    let s = split_at numbers i (omega arith) in
    let z = number_at s.before s.after s.here (subst AreInts s.is h.documents.are.ints) in
    let split : numbers ≡ s.before ++ int z.0 ∷ s.after = s.is ∙ ap (λ v. s.before ++ v ∷ s.after) z.1 in
    let others = s.before ++ int (z.0 +ℤ pos (k + 1)) ∷ s.after in
    let weigh : weight numbers ≡ weight (s.before ++ int z.0 ∷ s.after) = ap weight split in
    let w_old = weight-append s.before (int z.0 ∷ s.after) in
    let w_new = weight-append s.before (int (z.0 +ℤ pos (k + 1)) ∷ s.after) in
    let more = heavier z.0 (k + 1) in
    let below = room k (weight numbers) small light in
    let fits : absolute z.0 + (k + 1) < 2 ^ 63 = omega arith in
    let turns : Turns (ty_int (pos 0)) (more_primitives (modify (Index i) (more_primitives (add (pos (k + 1))) no_primitives)) no_primitives) numbers others =
    subst (λ n. Turns (ty_int (pos 0)) (more_primitives (modify (Index n) (more_primitives (add (pos (k + 1))) no_primitives)) no_primitives) numbers others) s.long
    (subst (λ ds. Turns (ty_int (pos 0)) (more_primitives (modify (Index (length s.before)) (more_primitives (add (pos (k + 1))) no_primitives)) no_primitives) ds others) (sym split)
    (mod_turns (ty_int (pos 0)) (more_primitives (add (pos (k + 1))) no_primitives) s.before (int z.0) (int (z.0 +ℤ pos (k + 1))) s.after (adds z.0 (k + 1) fits))) in
    let long : length numbers ≡ length (s.before ++ int z.0 ∷ s.after) = ap length split in
    let l_old = length-append s.before (int z.0 ∷ s.after) in
    let l_new = length-append s.before (int (z.0 +ℤ pos (k + 1)) ∷ s.after) in
    record {
      document = two_lists texts others;
      acts = rw (h.documents.right_is) (numbers_turn (more_primitives (modify (Index i) (more_primitives (add (pos (k + 1))) no_primitives)) no_primitives) texts numbers others turns);
      next = λ t' step is. from_right (k + 1) p o t' step texts others is is_p (omega arith) (omega arith) (omega arith);
    }

-- every entry that is possible applies
pub applies : (c : Choice) (k p o : ℕ) (t : TripleTree) → k < 10000 → IsPossible c (k + 1) p o → IsGenerated k p o t → Applies c k p o t
applies InsertItem k p o t small possible h = insert_item k p o t h
applies InsertNumber k p o t small possible h = insert_number k p o t h
applies (MoveItem i j) k p o t small possible h = move_item i j k p o t possible.0 possible.1 h
applies (AddToNumber i n) k p o t small possible h =
    subst (λ m. Applies (AddToNumber i m) k p o t) (sym possible.1) (add_to_number i k p o t small possible.0 h)

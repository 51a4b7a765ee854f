-- Partition from the right: an edit of the list of one tag is translated to a word that turns the list of alternatives.
use Rattle.std.proofs.Common.{◌≡◌, inl, inr, ℕ, zero, suc, ◌+◌, ◌-◌, ◌<◌, ◌≤◌, Bool, true, false, List, [], ◌∷◌, ◌++◌, length, take, replicate, Option, Some, Ok, refl, ap, sym, ◌∙◌, subst, arith, length-append}
use Rattle.std.specs.Prelude.{nat_eq, nat_lt, if◌then◌else◌, cond}
use Rattle.std.specs.List.{remove}
use Rattle.std.proofs.lemmas.Bool.{cases_lt, cases_eq, eqb-true}
use Rattle.std.proofs.lemmas.List.{append-nil, append_assoc, map-append, length-map, take_all}
use Rattle.hold_shapes.specs.declared.edit.Place.TheVariants.{Index}
use Rattle.hold_shapes.specs.declared.edit.ShapeEdit.TheVariants.{Ins, Del, MoveItem}
use Rattle.hold_shapes.specs.Plans.{is_count}
use Rattle.texts.proofs.Conjunction.{both, first, second}
use Rattle.doc_values.specs.Documents.{DocTree, alt}
use Rattle.doc_values.specs.Types.{TyTree, ty_alt, ty_list, FieldTrees}
use Rattle.doc_values.specs.Initial.{initial}
use Rattle.edit_module.specs.Words.{WordTree, no_primitives, more_primitives, joined}
use Rattle.edit_module.specs.Action.{act}
use Rattle.lens_core.specs.Emitted.{stay_word, mod_word, switch_word, shape_word}
use Rattle.lens_core.specs.Tags.{tag_count, tag_name}
use Rattle.tag_seq.specs.Tags.{are_below, count, place, moved}
use Rattle.tag_seq.proofs.Bounds.{are_below-append, are_below-replicate}
use Rattle.lens_core.specs.Consistency.{list_doc}
use Rattle.lens_core.specs.Partition.{Parted, mv, place_in, mod_occurrence, switch_places, insert_occurrences, delete_last, delete_occurrences, move_occurrence}
use Rattle.lens_core.proofs.ItemLists.{Item, tag_of, tags_of, contents_at, contents-append, length-contents, contents-here, contents-off, occurrence, parts_same, without_here}
use Rattle.partition_lens.proofs.ListEdits.{edited, edited-through, remove-through, edit_turns, ModActs, mod_turns, mv_turns, remove_turns}
use Rattle.lens_core.proofs.RightLists.{tag_type, IsPartition, type_by_name, item_doc, item_docs, Turns}
use Rattle.partition_lens.proofs.Counts.{place_found}
use Rattle.partition_lens.proofs.TagOrders.{place_by_rank}
use Rattle.partition_lens.proofs.FromLeft.{below_here, below_there, below_without, first_item, first_is, contents_many, contents_none, moved_is}
use Rattle.texts.proofs.KeyOrder.{bytes_eq-refl}
use Rattle.edit_module.proofs.JoinedWords.{acts_joined}

-- the step: the new items, whose list at the tag t is vs and whose other lists are the old ones, and the word that turns the list of
-- alternatives
pub record RightStep (fs : FieldTrees) (t : ℕ) (ps : List Item) (o : Option Parted) (vs : List DocTree) : Type 0 where
  pub items : List Item
  pub word : WordTree
  pub carried : o ≡ Some (word, tags_of items)
  pub column : contents_at t items ≡ vs
  pub others : (l : ℕ) → nat_eq t l ≡ false → contents_at l items ≡ contents_at l ps
  pub turns : Turns (ty_alt fs) word (item_docs fs ps) (item_docs fs items)
  pub low : are_below (tag_count fs) (tags_of items) ≡ true

docs-parts : (fs : FieldTrees) (us : List Item) (x : Item) (ws : List Item) → item_docs fs (us ++ x ∷ ws) ≡ item_docs fs us ++ item_doc fs x ∷ item_docs fs ws
docs-parts fs us x ws = map-append (item_doc fs) us (x ∷ ws)

length-docs : (fs : FieldTrees) (us : List Item) → length (item_docs fs us) ≡ length us
length-docs fs us = length-map us (item_doc fs)

-- ---- Mod

stay_acts : (fs : FieldTrees) → IsPartition fs → (t : ℕ) (u : WordTree) (v v' : DocTree) → t < tag_count fs → act (tag_type fs t) u v ≡ Ok v'
    → act (ty_alt fs) (stay_word (tag_name fs t) u) (alt (tag_name fs t) v) ≡ Ok (alt (tag_name fs t) v')
stay_acts fs p t no_primitives v v' low e = let same : v ≡ v' = cc in ap (λ z. Ok (alt (tag_name fs t) z)) same
stay_acts fs p t (more_primitives q u) v v' low e = rw (bytes_eq-refl (tag_name fs t), type_by_name fs t p.apart low, e) refl

item_turns : (fs : FieldTrees) (w : WordTree) (us : List Item) (x y : Item) (ws : List Item) → act (ty_alt fs) w (item_doc fs x) ≡ Ok (item_doc fs y)
    → Turns (ty_alt fs) (mod_word (Index (length us)) w) (item_docs fs (us ++ x ∷ ws)) (item_docs fs (us ++ y ∷ ws))
item_turns fs w us x y ws e =
    ap (λ z. act (ty_list (ty_alt fs)) (mod_word (Index z) w) (list_doc (item_docs fs (us ++ x ∷ ws)))) (sym (length-docs fs us))
    ∙ (ap (λ z. act (ty_list (ty_alt fs)) (mod_word (Index (length (item_docs fs us))) w) (list_doc z)) (docs-parts fs us x ws)
    ∙ (mod_turns (ty_alt fs) w (item_docs fs us) (item_doc fs x) (item_doc fs y) (item_docs fs ws) e ∙ ap (λ z. Ok (list_doc z)) (sym (docs-parts fs us y ws))))

same_tags : (us : List Item) (t : ℕ) (v v' : DocTree) (ws : List Item) → tags_of (us ++ (t, v) ∷ ws) ≡ tags_of (us ++ (t, v') ∷ ws)
same_tags us t v v' ws = map-append tag_of us ((t, v) ∷ ws) ∙ sym (map-append tag_of us ((t, v') ∷ ws))

pub mod_parts : (fs : FieldTrees) → IsPartition fs → (us : List Item) (t : ℕ) (v v' : DocTree) (ws : List Item) (q : ℕ) (u : WordTree) → are_below (tag_count fs) (tags_of (us ++ (t, v) ∷ ws)) ≡ true
    → place t q (tags_of (us ++ (t, v) ∷ ws)) ≡ Some (length us) → act (tag_type fs t) u v ≡ Ok v'
    → RightStep fs t (us ++ (t, v) ∷ ws) (Some (mod_occurrence (tag_name fs t) t (tags_of (us ++ (t, v) ∷ ws)) q u)) (contents_at t us ++ v' ∷ contents_at t ws)
mod_parts fs p us t v v' ws q u b placed e =
    let low = below_here (tag_count fs) us (t, v) ws b in
    let ts = tags_of (us ++ (t, v) ∷ ws) in
    record {
      items = us ++ (t, v') ∷ ws;
      word = mod_word (Index (length us)) (stay_word (tag_name fs t) u);
      carried = ap (λ z. Some (mod_word (Index z) (stay_word (tag_name fs t) u), ts)) (place_found t q (length us) ts placed)
          ∙ ap (λ z. Some (mod_word (Index (length us)) (stay_word (tag_name fs t) u), z)) (same_tags us t v v' ws);
      column = contents-here t v' us ws;
      others = λ l f. contents-off l t v' us ws f ∙ sym (contents-off l t v us ws f);
      turns = item_turns fs (stay_word (tag_name fs t) u) us (t, v) (t, v') ws (stay_acts fs p t u v v' low e);
      low = below_there (tag_count fs) us (t, v) (t, v') ws b low;
    }

heads_same : (x y : DocTree) (xs ys : List DocTree) → x ∷ xs ≡ y ∷ ys → (x ≡ y) × (xs ≡ ys)
heads_same x y xs ys e = (cc, cc)

-- the list of the tag after a word inside one of its places
pub mod_step : (fs : FieldTrees) → IsPartition fs → (t : ℕ) (ps : List Item) (q : ℕ) (u : WordTree) (x : DocTree) → are_below (tag_count fs) (tags_of ps) ≡ true
    → (m : ModActs (tag_type fs t) u (contents_at t ps) q x)
    → RightStep fs t ps (Some (mod_occurrence (tag_name fs t) t (tags_of ps) q u)) (m.split.before ++ m.content ∷ m.split.after)
mod_step fs p t ps q u x b m =
    let whole : length (contents_at t ps) ≡ length m.split.before + suc (length m.split.after) = ap length m.split.is ∙ length-append m.split.before (m.split.here ∷ m.split.after) in
    let at_q = m.split.long in
    let o = occurrence t q ps (omega arith) in
    let lists = parts_same (contents_at t o.before) (o.content ∷ contents_at t o.after) m.split.before (m.split.here ∷ m.split.after)
    (sym (contents-here t o.content o.before o.after) ∙ (ap (contents_at t) (sym o.is) ∙ m.split.is)) (o.long ∙ sym m.split.long) in
    let heads = heads_same o.content m.split.here (contents_at t o.after) m.split.after lists.1 in
    subst (λ z. RightStep fs t ps (Some (mod_occurrence (tag_name fs t) t (tags_of ps) q u)) z)
    (ap (λ z. z ++ m.content ∷ contents_at t o.after) lists.0 ∙ ap (λ z. m.split.before ++ m.content ∷ z) heads.1)
    (subst (λ z. RightStep fs t z (Some (mod_occurrence (tag_name fs t) t (tags_of z) q u)) (contents_at t o.before ++ m.content ∷ contents_at t o.after)) (sym o.is)
    (mod_parts fs p o.before t o.content m.content o.after q u (subst (λ z. are_below (tag_count fs) (tags_of z) ≡ true) o.is b)
    (subst (λ z. place t q (tags_of z) ≡ Some (length o.before)) o.is o.placed)
    (subst (λ z. act (tag_type fs t) u z ≡ Ok m.content) (sym heads.0) m.acts)))

-- ---- Ins

switch_acts : (fs : FieldTrees) → IsPartition fs → (t : ℕ) (v : DocTree) → t < tag_count fs
    → act (ty_alt fs) (switch_word (tag_name fs 0) (tag_name fs t) no_primitives) (alt (tag_name fs 0) v) ≡ Ok (alt (tag_name fs t) (initial (tag_type fs t)))
switch_acts fs p t v low = rw (bytes_eq-refl (tag_name fs 0), type_by_name fs t p.apart low) refl

switch_turns : (ty : TyTree) (first n : List ℕ) (a b : DocTree) → act ty (switch_word first n no_primitives) a ≡ Ok b → (c x : ℕ) (docs : List DocTree) → x ≡ length docs
    → Turns ty (switch_places first n x c) (docs ++ replicate c a) (docs ++ replicate c b)
switch_turns ty first n a b e zero x docs f = refl
switch_turns ty first n a b e (suc c) x docs f =
    let one : Turns ty (mod_word (Index x) (switch_word first n no_primitives)) (docs ++ a ∷ replicate c a) (docs ++ b ∷ replicate c a) =
    ap (λ z. act (ty_list ty) (mod_word (Index z) (switch_word first n no_primitives)) (list_doc (docs ++ a ∷ replicate c a))) f
    ∙ mod_turns ty (switch_word first n no_primitives) docs a b (replicate c a) e in
    let long = length-append docs (b ∷ []) in
    let rest = switch_turns ty first n a b e c (x + 1) (docs ++ b ∷ []) (omega arith) in
    let two : Turns ty (switch_places first n (x + 1) c) (docs ++ b ∷ replicate c a) (docs ++ b ∷ replicate c b) =
    subst (λ z. Turns ty (switch_places first n (x + 1) c) z (docs ++ b ∷ replicate c b)) (append_assoc docs (b ∷ []) (replicate c a))
    (subst (λ z. Turns ty (switch_places first n (x + 1) c) ((docs ++ b ∷ []) ++ replicate c a) z) (append_assoc docs (b ∷ []) (replicate c b)) rest) in
    acts_joined (ty_list ty) (mod_word (Index x) (switch_word first n no_primitives)) (switch_places first n (x + 1) c)
    (list_doc (docs ++ a ∷ replicate c a)) (list_doc (docs ++ b ∷ replicate c a)) (list_doc (docs ++ b ∷ replicate c b)) one two

abbrev fresh_item : FieldTrees → ℕ → Item
fresh_item fs k = (k, initial (tag_type fs k))

pub ins_step : (fs : FieldTrees) → IsPartition fs → 0 < tag_count fs → (t : ℕ) (ps : List Item) (c : ℕ) → t < tag_count fs → are_below (tag_count fs) (tags_of ps) ≡ true → is_count c ≡ true
    → RightStep fs t ps (Some (insert_occurrences (tag_name fs 0) (tag_name fs t) t (tags_of ps) c)) (contents_at t ps ++ replicate c (initial (tag_type fs t)))
ins_step fs p some t ps c low b h =
    let v = initial (tag_type fs t) in
    let items = ps ++ replicate c (t, v) in
    let ts = tags_of ps in
    let tags : ts ++ replicate c t ≡ tags_of items = edited-through tag_of (t, v) (Ins c) ps in
    let tail = (if nat_eq t 0 then no_primitives else switch_places (tag_name fs 0) (tag_name fs t) (length ts) c) in
    let one : Turns (ty_alt fs) (shape_word (Ins c)) (item_docs fs ps) (item_docs fs ps ++ replicate c (item_doc fs (first_item fs))) =
    edit_turns (ty_alt fs) (Ins c) (item_docs fs ps) h ∙ ap (λ z. Ok (list_doc (item_docs fs ps ++ replicate c z))) (first_is fs some) in
    let docs : item_docs fs ps ++ replicate c (item_doc fs (t, v)) ≡ item_docs fs items = edited-through (item_doc fs) (t, v) (Ins c) ps in
    let two = switched (nat_eq t 0) refl in
    record {
      items = items;
      word = joined (shape_word (Ins c)) tail;
      carried = ap (λ z. Some (joined (shape_word (Ins c)) tail, z)) tags;
      column = contents-append t ps (replicate c (t, v)) ∙ ap (λ z. contents_at t ps ++ z) (contents_many t c v);
      others = λ l e. contents-append l ps (replicate c (t, v)) ∙ (ap (λ z. contents_at l ps ++ z) (contents_none l t c v e) ∙ append-nil (contents_at l ps));
      turns = acts_joined (ty_list (ty_alt fs)) (shape_word (Ins c)) tail (list_doc (item_docs fs ps)) (list_doc (item_docs fs ps ++ replicate c (item_doc fs (first_item fs))))
          (list_doc (item_docs fs items)) one (two ∙ ap (λ z. Ok (list_doc z)) docs);
      low = subst (λ z. are_below (tag_count fs) z ≡ true) tags (are_below-append (tag_count fs) ts (replicate c t) b (are_below-replicate (tag_count fs) t c low));
    }
  where
    switched : (d : Bool) → nat_eq t 0 ≡ d → Turns (ty_alt fs) (cond d no_primitives (switch_places (tag_name fs 0) (tag_name fs t) (length (tags_of ps)) c))
        (item_docs fs ps ++ replicate c (item_doc fs (first_item fs))) (item_docs fs ps ++ replicate c (item_doc fs (t, initial (tag_type fs t))))
    switched true e = let same : 0 ≡ t = sym (eqb-true t 0 e) in ap (λ z. Ok (list_doc (item_docs fs ps ++ replicate c (item_doc fs (fresh_item fs z))))) same
    switched false e =
        switch_turns (ty_alt fs) (tag_name fs 0) (tag_name fs t) (item_doc fs (first_item fs)) (item_doc fs (t, initial (tag_type fs t))) (switch_acts fs p t (initial (tag_type fs 0)) low)
        c (length (tags_of ps)) (item_docs fs ps) (length-map ps tag_of ∙ sym (length-docs fs ps))

-- ---- Del

last_parts : (fs : FieldTrees) (us : List Item) (t : ℕ) (v : DocTree) (ws : List Item) → are_below (tag_count fs) (tags_of (us ++ (t, v) ∷ ws)) ≡ true
    → place t (count t (tags_of (us ++ (t, v) ∷ ws)) - 1) (tags_of (us ++ (t, v) ∷ ws)) ≡ Some (length us)
    → RightStep fs t (us ++ (t, v) ∷ ws) (Some (delete_last t (tags_of (us ++ (t, v) ∷ ws)))) (contents_at t us ++ contents_at t ws)
last_parts fs us t v ws b placed =
    let ps = us ++ (t, v) ∷ ws in
    let ts = tags_of ps in
    let here : place_in ts t (count t ts - 1) ≡ length us = place_found t (count t ts - 1) (length us) ts placed in
    let rest : remove ts (length us) ≡ tags_of (us ++ ws) = remove-through tag_of ps (length us) ∙ ap tags_of (without_here us (t, v) ws) in
    let long : length ts ≡ length us + suc (length ws) = length-map ps tag_of ∙ length-append us ((t, v) ∷ ws) in
    let left = length-append (item_docs fs us) (item_docs fs ws) in
    let a = length-docs fs us in
    let c = length-docs fs ws in
    let last : length ts - 1 ≡ length (item_docs fs us ++ item_docs fs ws) = omega arith in
    let word = λ (k : ℕ). joined (mv k (length ts - 1)) (shape_word (Del 1)) in
    record {
      items = us ++ ws;
      word = word (length us);
      carried = ap (λ z. Some (word z, remove ts z)) here ∙ ap (λ z. Some (word (length us), z)) rest;
      column = contents-append t us ws;
      others = λ l f. sym (contents-off l t v us ws f);
      turns = ap (λ z. act (ty_list (ty_alt fs)) (word z) (list_doc (item_docs fs ps))) (sym a)
          ∙ (ap (λ z. act (ty_list (ty_alt fs)) (word (length (item_docs fs us))) (list_doc z)) (docs-parts fs us (t, v) ws)
          ∙ (remove_turns (ty_alt fs) (item_docs fs us) (item_docs fs ws) (item_doc fs (t, v)) (length ts - 1) last ∙ ap (λ z. Ok (list_doc z)) (sym (map-append (item_doc fs) us ws))));
      low = below_without (tag_count fs) us (t, v) ws b;
    }

one_off : (fs : FieldTrees) (t : ℕ) (ps : List Item) → are_below (tag_count fs) (tags_of ps) ≡ true → 0 < length (contents_at t ps)
    → RightStep fs t ps (Some (delete_last t (tags_of ps))) (take (length (contents_at t ps) - 1) (contents_at t ps))
one_off fs t ps b some =
    let n = length-contents t ps in
    let o = occurrence t (count t (tags_of ps) - 1) ps (omega arith) in
    let whole = contents-here t o.content o.before o.after in
    let split : contents_at t ps ≡ contents_at t o.before ++ o.content ∷ contents_at t o.after = ap (contents_at t) o.is ∙ whole in
    let long : length (contents_at t ps) ≡ length (contents_at t o.before) + suc (length (contents_at t o.after)) = ap length split ∙ length-append (contents_at t o.before) (o.content ∷ contents_at t o.after) in
    let at = o.long in
    let none : length (contents_at t o.after) ≡ 0 = omega arith in
    let same : contents_at t o.before ++ contents_at t o.after ≡ take (length (contents_at t ps) - 1) (contents_at t ps) =
    shortened (contents_at t o.before) o.content (contents_at t o.after) (contents_at t ps) split none in
    subst (λ z. RightStep fs t ps (Some (delete_last t (tags_of ps))) z) same
    (subst (λ z. RightStep fs t z (Some (delete_last t (tags_of z))) (contents_at t o.before ++ contents_at t o.after)) (sym o.is)
    (last_parts fs o.before t o.content o.after (subst (λ z. are_below (tag_count fs) (tags_of z) ≡ true) o.is b)
    (subst (λ z. place t (count t (tags_of z) - 1) (tags_of z) ≡ Some (length o.before)) o.is o.placed)))
  where
    taken : (us : List DocTree) (v : DocTree) (n : ℕ) → n ≡ length us → us ++ [] ≡ take n (us ++ v ∷ [])
    taken [] v zero e = refl
    taken [] v (suc n) e = absurd (omega arith)
    taken (u ∷ us) v zero e = absurd (omega arith)
    taken (u ∷ us) v (suc n) e = ap (λ z. u ∷ z) (taken us v n (omega arith))

    shortened : (us : List DocTree) (v : DocTree) (ws vs : List DocTree) → vs ≡ us ++ v ∷ ws → length ws ≡ 0 → us ++ ws ≡ take (length vs - 1) vs
    shortened us v [] vs e f =
        let long : length vs ≡ length us + 1 = ap length e ∙ length-append us (v ∷ []) in
        taken us v (length vs - 1) (omega arith) ∙ ap (take (length vs - 1)) (sym e)
    shortened us v (w ∷ ws) vs e f = absurd (omega arith)

-- what is left to delete, after the first
abbrev then_delete : ℕ → ℕ → Parted → Parted
then_delete t c first = (joined first.0 (delete_occurrences t first.1 c).0, (delete_occurrences t first.1 c).1)

same_parted : (a b : Parted) → Some a ≡ Some b → a ≡ b
same_parted a b e = cc

delete_more : (fs : FieldTrees) (t c : ℕ) (ps : List Item) (vs us : List DocTree) → (one : RightStep fs t ps (Some (delete_last t (tags_of ps))) vs)
    → RightStep fs t one.items (Some (delete_occurrences t (tags_of one.items) c)) us → RightStep fs t ps (Some (delete_occurrences t (tags_of ps) (suc c))) us
delete_more fs t c ps vs us one rest = record {
  items = rest.items;
  word = joined one.word rest.word;
  carried = ap (λ z. Some (then_delete t c z)) (same_parted (delete_last t (tags_of ps)) (one.word, tags_of one.items) one.carried)
      ∙ ap (λ (z : Parted). Some (joined one.word z.0, z.1)) (same_parted (delete_occurrences t (tags_of one.items) c) (rest.word, tags_of rest.items) rest.carried);
  column = rest.column;
  others = λ l e. rest.others l e ∙ one.others l e;
  turns = acts_joined (ty_list (ty_alt fs)) one.word rest.word (list_doc (item_docs fs ps)) (list_doc (item_docs fs one.items)) (list_doc (item_docs fs rest.items)) one.turns rest.turns;
  low = rest.low;
}

take_twice : (m n : ℕ) (xs : List DocTree) → m ≤ n → take m (take n xs) ≡ take m xs
take_twice zero n xs h = refl
take_twice (suc m) zero xs h = absurd (omega arith)
take_twice (suc m) (suc n) [] h = refl
take_twice (suc m) (suc n) (x ∷ xs) h = ap (λ z. x ∷ z) (take_twice m n xs (omega arith))

length_taken : (n : ℕ) (xs : List DocTree) → n ≤ length xs → length (take n xs) ≡ n
length_taken zero xs h = refl
length_taken (suc n) [] h = absurd (omega arith)
length_taken (suc n) (x ∷ xs) h = ap suc (length_taken n xs (omega arith))

pub del_step : (fs : FieldTrees) (t c : ℕ) (ps : List Item) → are_below (tag_count fs) (tags_of ps) ≡ true → c ≤ length (contents_at t ps)
    → RightStep fs t ps (Some (delete_occurrences t (tags_of ps) c)) (take (length (contents_at t ps) - c) (contents_at t ps))
del_step fs t zero ps b h = record {
  items = ps;
  word = no_primitives;
  carried = refl;
  column = sym (take_all (length (contents_at t ps) - 0) (contents_at t ps) (omega arith));
  others = λ l e. refl;
  turns = refl;
  low = b;
}
del_step fs t (suc c) ps b h =
    let one = one_off fs t ps b (omega arith) in
    let less = length_taken (length (contents_at t ps) - 1) (contents_at t ps) (omega arith) in
    let n : length (contents_at t one.items) ≡ length (contents_at t ps) - 1 = ap length one.column ∙ less in
    let rest = del_step fs t c one.items one.low (omega arith) in
    let k : length (contents_at t one.items) - c ≡ length (contents_at t ps) - suc c = omega arith in
    let same : take (length (contents_at t one.items) - c) (contents_at t one.items) ≡ take (length (contents_at t ps) - suc c) (contents_at t ps) =
    ap (λ z. take z (contents_at t one.items)) k ∙ (ap (take (length (contents_at t ps) - suc c)) one.column
    ∙ take_twice (length (contents_at t ps) - suc c) (length (contents_at t ps) - 1) (contents_at t ps) (omega arith)) in
    delete_more fs t c ps (take (length (contents_at t ps) - 1) (contents_at t ps)) (take (length (contents_at t ps) - suc c) (contents_at t ps)) one
    (subst (λ z. RightStep fs t one.items (Some (delete_occurrences t (tags_of one.items) c)) z) same rest)

-- ---- MoveItem

-- where the item goes among the others
record IsTarget (t j : ℕ) (us : List Item) (v : DocTree) (ws : List Item) : Type 0 where
  before : List Item
  after : List Item
  is : us ++ ws ≡ before ++ after
  ranked : length (contents_at t before) ≡ j
  placed : place t j (tags_of (us ++ (t, v) ∷ ws)) ≡ Some (length before)

placed_at : (t j : ℕ) (ps us : List Item) (v : DocTree) (ws : List Item) → ps ≡ us ++ (t, v) ∷ ws → length (contents_at t us) ≡ j → place t j (tags_of ps) ≡ Some (length us)
placed_at t j ps us v ws e f = ap (λ z. place t j (tags_of z)) e ∙ (ap (λ z. place t z (tags_of (us ++ (t, v) ∷ ws))) (sym f) ∙ place_by_rank t v us ws)

target_before : (t j : ℕ) (us : List Item) (v : DocTree) (ws : List Item) → j < length (contents_at t us) → IsTarget t j us v ws
target_before t j us v ws h =
    let o = occurrence t j us h in
    record {
      before = o.before;
      after = (t, o.content) ∷ o.after ++ ws;
      is = ap (λ z. z ++ ws) o.is ∙ append_assoc o.before ((t, o.content) ∷ o.after) ws;
      ranked = o.long;
      placed = placed_at t j (us ++ (t, v) ∷ ws) o.before o.content (o.after ++ (t, v) ∷ ws) (ap (λ z. z ++ (t, v) ∷ ws) o.is ∙ append_assoc o.before ((t, o.content) ∷ o.after) ((t, v) ∷ ws)) o.long;
    }

target_same : (t j : ℕ) (us : List Item) (v : DocTree) (ws : List Item) → length (contents_at t us) ≡ j → IsTarget t j us v ws
target_same t j us v ws e = record { before = us; after = ws; is = refl; ranked = e; placed = placed_at t j (us ++ (t, v) ∷ ws) us v ws refl e }

target_after : (t j : ℕ) (us : List Item) (v : DocTree) (ws : List Item) → length (contents_at t us) < j → j < length (contents_at t us) + suc (length (contents_at t ws)) → IsTarget t j us v ws
target_after t j us v ws h k =
    let o = occurrence t (j - length (contents_at t us) - 1) ws (omega arith) in
    let n = o.long in
    let upto : length (contents_at t (us ++ (t, v) ∷ o.before)) ≡ j =
    ap length (contents-here t v us o.before) ∙ (length-append (contents_at t us) (v ∷ contents_at t o.before) ∙ omega arith) in
    let shifted : length (us ++ (t, v) ∷ o.before) ≡ length ((us ++ o.before) ++ (t, o.content) ∷ []) = same_sizes us (t, v) o.before (t, o.content) in
    record {
      before = (us ++ o.before) ++ (t, o.content) ∷ [];
      after = o.after;
      is = ap (λ z. us ++ z) o.is ∙ (sym (append_assoc us o.before ((t, o.content) ∷ o.after)) ∙ sym (append_assoc (us ++ o.before) ((t, o.content) ∷ []) o.after));
      ranked = ap length (contents-here t o.content (us ++ o.before) []) ∙ (length-append (contents_at t (us ++ o.before)) (o.content ∷ [])
          ∙ (ap (λ z. length z + 1) (contents-append t us o.before) ∙ (ap (λ z. z + 1) (length-append (contents_at t us) (contents_at t o.before)) ∙ omega arith)));
      placed = placed_at t j (us ++ (t, v) ∷ ws) (us ++ (t, v) ∷ o.before) o.content o.after
          (ap (λ z. us ++ (t, v) ∷ z) o.is ∙ sym (append_assoc us ((t, v) ∷ o.before) ((t, o.content) ∷ o.after))) upto ∙ ap Some shifted;
    }
  where
    same_sizes : (xs : List Item) (y : Item) (bs : List Item) (z : Item) → length (xs ++ y ∷ bs) ≡ length ((xs ++ bs) ++ z ∷ [])
    same_sizes xs y bs z =
        let a = length-append xs (y ∷ bs) in
        let b = length-append (xs ++ bs) (z ∷ []) in
        let c = length-append xs bs in omega arith

target : (t j : ℕ) (us : List Item) (v : DocTree) (ws : List Item) → j < length (contents_at t us) + suc (length (contents_at t ws)) → IsTarget t j us v ws
target t j us v ws h =
    elim (cases_lt j (length (contents_at t us))) [
      | inl l ↦ target_before t j us v ws l
      | inr g ↦ elim (cases_eq (length (contents_at t us)) j) [
        | inl e ↦ target_same t j us v ws e
        | inr n ↦ target_after t j us v ws (omega arith) h
      ]
    ]

tail_low : (n x : ℕ) (xs ys : List ℕ) → are_below n (x ∷ xs) ≡ true → (are_below n xs ≡ true → are_below n ys ≡ true) → are_below n (x ∷ ys) ≡ true
tail_low n x xs ys h f = both (nat_lt x n) (are_below n ys) (first (nat_lt x n) (are_below n xs) h) (f (second (nat_lt x n) (are_below n xs) h))

put_in : (n : ℕ) (cs ds : List Item) (x : Item) → x.0 < n → are_below n (tags_of (cs ++ ds)) ≡ true → are_below n (tags_of (cs ++ x ∷ ds)) ≡ true
put_in n [] ds x h k = are_below-append n (x.0 ∷ []) (tags_of ds) (are_below-replicate n x.0 1 h) k
put_in n (c ∷ cs) ds x h k = tail_low n c.0 (tags_of (cs ++ ds)) (tags_of (cs ++ x ∷ ds)) k (λ r. put_in n cs ds x h r)

move_parts : (fs : FieldTrees) (us : List Item) (t : ℕ) (v : DocTree) (ws : List Item) (i j : ℕ) (d : DocTree) → are_below (tag_count fs) (tags_of (us ++ (t, v) ∷ ws)) ≡ true
    → length (contents_at t us) ≡ i → place t i (tags_of (us ++ (t, v) ∷ ws)) ≡ Some (length us) → (g : IsTarget t j us v ws)
    → RightStep fs t (us ++ (t, v) ∷ ws) (Some (move_occurrence t (tags_of (us ++ (t, v) ∷ ws)) i j)) (edited d (MoveItem i j) (contents_at t (us ++ (t, v) ∷ ws)))
move_parts fs us t v ws i j d b ranked placed g =
    let ps = us ++ (t, v) ∷ ws in
    let ts = tags_of ps in
    let cs = g.before in
    let ds = g.after in
    let from : place_in ts t i ≡ length us = place_found t i (length us) ts placed in
    let to : place_in ts t j ≡ length cs = place_found t j (length cs) ts g.placed in
    let next : moved (length us) (length cs) ts ≡ tags_of (cs ++ (t, v) ∷ ds) = edited-through tag_of (0, v) (MoveItem (length us) (length cs)) ps ∙ ap tags_of (moved_is us (t, v) ws cs ds (0, v) g.is) in
    let docs : item_docs fs us ++ item_docs fs ws ≡ item_docs fs cs ++ item_docs fs ds = sym (map-append (item_doc fs) us ws) ∙ (ap (item_docs fs) g.is ∙ map-append (item_doc fs) cs ds) in
    let lists : contents_at t us ++ contents_at t ws ≡ contents_at t cs ++ contents_at t ds = sym (contents-append t us ws) ∙ (ap (contents_at t) g.is ∙ contents-append t cs ds) in
    let column : edited d (MoveItem i j) (contents_at t ps) ≡ contents_at t cs ++ v ∷ contents_at t ds =
    ap (λ z. edited d (MoveItem z j) (contents_at t ps)) (sym ranked) ∙ (ap (λ z. edited d (MoveItem (length (contents_at t us)) z) (contents_at t ps)) (sym g.ranked)
    ∙ (ap (edited d (MoveItem (length (contents_at t us)) (length (contents_at t cs)))) (contents-here t v us ws)
    ∙ moved_is (contents_at t us) v (contents_at t ws) (contents_at t cs) (contents_at t ds) d lists)) in
    record {
      items = cs ++ (t, v) ∷ ds;
      word = mv (length us) (length cs);
      carried = ap (λ z. Some (mv z (place_in ts t j), moved z (place_in ts t j) ts)) from
          ∙ (ap (λ z. Some (mv (length us) z, moved (length us) z ts)) to ∙ ap (λ z. Some (mv (length us) (length cs), z)) next);
      column = contents-here t v cs ds ∙ sym column;
      others = λ l q. contents-off l t v cs ds q ∙ (ap (contents_at l) (sym g.is) ∙ sym (contents-off l t v us ws q));
      turns = ap (λ z. act (ty_list (ty_alt fs)) (mv z (length cs)) (list_doc (item_docs fs ps))) (sym (length-docs fs us))
          ∙ (ap (λ z. act (ty_list (ty_alt fs)) (mv (length (item_docs fs us)) z) (list_doc (item_docs fs ps))) (sym (length-docs fs cs))
          ∙ (ap (λ z. act (ty_list (ty_alt fs)) (mv (length (item_docs fs us)) (length (item_docs fs cs))) (list_doc z)) (docs-parts fs us (t, v) ws)
          ∙ (mv_turns (ty_alt fs) (item_docs fs us) (item_docs fs ws) (item_docs fs cs) (item_docs fs ds) (item_doc fs (t, v)) docs ∙ ap (λ z. Ok (list_doc z)) (sym (docs-parts fs cs (t, v) ds)))));
      low = low_moved (below_here (tag_count fs) us (t, v) ws b) (below_without (tag_count fs) us (t, v) ws b);
    }
  where
    low_moved : t < tag_count fs → are_below (tag_count fs) (tags_of (us ++ ws)) ≡ true → are_below (tag_count fs) (tags_of (g.before ++ (t, v) ∷ g.after)) ≡ true
    low_moved h k = put_in (tag_count fs) g.before g.after (t, v) h (subst (λ z. are_below (tag_count fs) (tags_of z) ≡ true) g.is k)

pub move_step : (fs : FieldTrees) (t i j : ℕ) (ps : List Item) (d : DocTree) → are_below (tag_count fs) (tags_of ps) ≡ true → i < length (contents_at t ps) → j < length (contents_at t ps)
    → RightStep fs t ps (Some (move_occurrence t (tags_of ps) i j)) (edited d (MoveItem i j) (contents_at t ps))
move_step fs t i j ps d b hi hj =
    let o = occurrence t i ps hi in
    let whole : length (contents_at t ps) ≡ length (contents_at t o.before) + suc (length (contents_at t o.after)) =
    ap (λ z. length (contents_at t z)) o.is ∙ (ap length (contents-here t o.content o.before o.after) ∙ length-append (contents_at t o.before) (o.content ∷ contents_at t o.after)) in
    subst (λ z. RightStep fs t z (Some (move_occurrence t (tags_of z) i j)) (edited d (MoveItem i j) (contents_at t z))) (sym o.is)
    (move_parts fs o.before t o.content o.after i j d (subst (λ z. are_below (tag_count fs) (tags_of z) ≡ true) o.is b) o.long
    (subst (λ z. place t i (tags_of z) ≡ Some (length o.before)) o.is o.placed) (target t j o.before o.content o.after (omega arith)))

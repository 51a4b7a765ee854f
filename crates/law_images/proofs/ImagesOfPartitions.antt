-- Images through partitions, from both sides.
use Rattle.std.proofs.Common.{◌≡◌, ◌∙◌, ℕ, suc, ◌+◌, ◌<◌, Bool, true, false, List, [], ◌∷◌, length, map, Option, None, Some, option_map, refl, ap, sym, subst, arith}
use Rattle.std.specs.Prelude.{◌||◌, bytes_eq, nat_eq, nat_lt, cond, option_and_then}
use Rattle.std.proofs.lemmas.Bool.{eq-eqb, eqb-true, ltb-true}
use Rattle.std.proofs.lemmas.Bool.Decides.{nat_tests}
use Rattle.texts.specs.declared.side.Side.TheVariants.{Left, Right}
use Rattle.texts.specs.Keys.{is_rising, has_name}
use Rattle.texts.proofs.Conjunction.{first, second, both}
use Rattle.hold_shapes.specs.declared.shape.Shape.{Shape}
use Rattle.hold_shapes.specs.declared.shape.Shape.TheVariants.{List as ListOf, Keyed as KeyedOf, Tree as TreeOf}
use Rattle.doc_values.specs.Documents.{DocTree, unit, truth, int, text, pick, rec, alt, hold, DocTrees, docs_of, doc_list}
use Rattle.doc_values.specs.Types.{TyTree, ty_rec, ty_alt, ty_list, FieldTrees, no_fields, more_fields, names_of, are_distinct, are_well_formed}
use Rattle.doc_values.specs.Typing.{has, has_each, has_fields, is_list_of, lookup_field, lookup_type}
use Rattle.doc_values.proofs.Lists.{doc_list-docs_of, docs_of-doc_list}
use Rattle.tag_seq.specs.Tags.{are_below, count}
use Rattle.lens_forms.specs.Forms.{form_part}
use Rattle.lens_core.specs.Tags.{tag_count, tag_number, tag_name}
use Rattle.lens_core.specs.Complements.{nil, then_comp, rec_comp, alt_comp, hold_comp, tags_comp}
use Rattle.lens_core.specs.Consistency.{IsConsistent, HasTheirContents, item_tag, content, list_doc}
use Rattle.lens_core.proofs.LawsOfLeaves.{differs_back}
use Rattle.lens_core.proofs.RecordFields.{lookup_type-more}
use Rattle.lens_core.proofs.ItemLists.{Item, tags_of, contents_at, length-contents}
use Rattle.lens_core.proofs.RightLists.{tag_type, right_lists, IsPartition, HasLists, item_docs, lists_by_tag, right_type_is, type_by_name, found_by_name, tag_found, items_of, tags_of_items, theirs_are_lists, lists_are_theirs}
use Rattle.law_images.specs.Patterns.{PatternTree, hole, rec_pattern, PatternTrees, pattern_count, Matches, MatchEach, HasSome, in_order}
use Rattle.law_images.specs.PartImage.{list_pattern, patterns_in_list, content_patterns, patterns_at, list_at, list_patterns, dealt, item_patterns}
use Rattle.law_images.specs.Image.{patterns_by_name}
use Rattle.law_images.specs.ImageLaws.{IsImage, ImageLaw}
use Rattle.law_images.proofs.PatternsByName.{AreGood, rising_distinct, match_in_order, like_in_order, like_by_name, match_by_name, record_of, found_content, content_named}
use Rattle.law_images.proofs.PatternsOfItems.{MatchItems, AreItemsOf, HasItems, IsInList, in_list, list_built, items_count, IsSame, left_same, left_built, left_matches, items_found, has_tag, tag_has, tag_formed}
use Rattle.law_images.proofs.DealtPatterns.{lists_some, lists_none, dealt_match, match_dealt, deal, deal_tags, deal_contents, AllHave, deal_typed, picked_match, match_picked}
use Rattle.std.proofs.lemmas.Option.{same_Some}

-- ---- a triple, by its items

record IsByItems (fs : FieldTrees) (x : DocTree) (ts : List ℕ) (y : DocTree) : Type 0 where
  items : List Item
  fields : DocTrees
  left : x ≡ list_doc (item_docs fs items)
  tags : tags_of items ≡ ts
  right : y ≡ rec fields
  lists : HasLists fs fields (lists_by_tag items)

list_shape : (s : Shape) (n : ℕ) → is_list_of s n ≡ true → s ≡ ListOf (record { count = n })
list_shape (ListOf s) n e = ap (λ k. ListOf (record { count = k })) (eqb-true s.count n e)
list_shape (KeyedOf names) n e = cc
list_shape (TreeOf depths) n e = cc

-- a list is the list of its documents
list_whole : (t : TyTree) (s : Shape) (xs : DocTrees) → has (ty_list t) (hold s xs) ≡ true → hold s xs ≡ list_doc (doc_list xs)
list_whole t s xs h =
    ap (λ z. hold z xs) (list_shape s (length (doc_list xs)) (first (is_list_of s (length (doc_list xs))) (has_each t xs) h))
    ∙ ap (λ z. hold (ListOf (record { count = length (doc_list xs) })) z) (sym (docs_of-doc_list xs))

triple_items : (fs : FieldTrees) → IsPartition fs → (x : DocTree) (ts : List ℕ) (y : DocTree) → IsConsistent (form_part fs) x (tags_comp ts) y → IsByItems fs x ts y
triple_items fs p (hold s xs) ts (rec ys) k =
    let i = items_of fs (doc_list xs) ts k.1.0 in
    let low : are_below (tag_count fs) (tags_of i.items) ≡ true = subst (λ z. are_below (tag_count fs) z ≡ true) i.tags k.0.comp_fits in
    record {
      items = i.items;
      fields = ys;
      left = list_whole (ty_alt fs) s xs k.0.left_has ∙ ap list_doc i.left;
      tags = sym i.tags;
      right = refl;
      lists = theirs_are_lists fs ys i.items p.apart low k.0.right_has (subst (λ z. HasTheirContents fs (right_lists fs) ys z) i.left k.1.1);
    }
triple_items fs p x ts y k = absurd k.1

-- and back
items_typed : (fs : FieldTrees) (its : List Item) → are_distinct (names_of fs) ≡ true → are_below (tag_count fs) (tags_of its) ≡ true → AreItemsOf fs its → has_each (ty_alt fs) (docs_of (item_docs fs its)) ≡ true
items_typed fs [] a b h = refl
items_typed fs (x ∷ its) a b h =
    let low = ltb-true x.0 (tag_count fs) (first (nat_lt x.0 (tag_count fs)) (are_below (tag_count fs) (tags_of its)) b) in
    both (has (ty_alt fs) (alt (tag_name fs x.0) x.1)) (has_each (ty_alt fs) (docs_of (item_docs fs its))) (has_tag fs (tag_name fs x.0) x.1 (tag_type fs x.0) (type_by_name fs x.0 a low) h.0)
    (items_typed fs its a (second (nat_lt x.0 (tag_count fs)) (are_below (tag_count fs) (tags_of its)) b) h.1)

list_has : (t : TyTree) (vs : List DocTree) → has_each t (docs_of vs) ≡ true → has (ty_list t) (list_doc vs) ≡ true
list_has t vs h = both (nat_eq (length vs) (length (doc_list (docs_of vs)))) (has_each t (docs_of vs)) (same_length vs) h
  where
    same_length : (vs : List DocTree) → nat_eq (length vs) (length (doc_list (docs_of vs))) ≡ true
    same_length vs = eq-eqb (length vs) (length (doc_list (docs_of vs))) (ap length (sym (doc_list-docs_of vs)))

items_consistent : (fs : FieldTrees) → IsPartition fs → (items : List Item) (ts : List ℕ) (ys : DocTrees) → tags_of items ≡ ts → AreItemsOf fs items → HasLists fs ys (lists_by_tag items)
    → are_below (tag_count fs) ts ≡ true → IsConsistent (form_part fs) (list_doc (item_docs fs items)) (tags_comp ts) (rec ys)
items_consistent fs p items ts ys same typed lists low =
    let low' = subst (λ z. are_below (tag_count fs) z ≡ true) (sym same) low in
    let docs : item_docs fs items ≡ doc_list (docs_of (item_docs fs items)) = sym (doc_list-docs_of (item_docs fs items)) in (
      record { left_has = list_has (ty_alt fs) (item_docs fs items) (items_typed fs items p.apart low' typed); comp_fits = low; right_has = lists.typed },
      (
        subst (λ z. map (item_tag fs) z ≡ map Some ts) docs (tags_of_items fs items p.apart low' ∙ ap (map Some) same),
        subst (λ z. HasTheirContents fs (right_lists fs) ys z) docs (lists_are_theirs fs ys items p.apart low' lists),
      ),
    )

-- ---- the right record by tags

-- a content of the record is the list of a tag
record IsListAt (fs : FieldTrees) (n : List ℕ) (g : ℕ → List DocTree) (v : DocTree) : Type 0 where
  tag : ℕ
  low : tag < tag_count fs
  named : tag_name fs tag ≡ n
  number : tag_number fs n ≡ Some tag
  is : v ≡ list_doc (g tag)

-- the tag of a name that has a type among the lists
tag_at : (fs : FieldTrees) (n : List ℕ) (t : TyTree) → lookup_type (right_lists fs) n ≡ Some t → (s : ℕ × TyTree) × (lookup_field fs n ≡ Some s) × (t ≡ ty_list s.1)
tag_at fs n t e = go (lookup_field fs n) refl (sym (right_type_is fs n) ∙ e)
  where
    go : (o : Option (ℕ × TyTree)) → lookup_field fs n ≡ o → option_map ty_list (option_map (λ (f : ℕ × TyTree). f.1) o) ≡ Some t → (s : ℕ × TyTree) × (lookup_field fs n ≡ Some s) × (t ≡ ty_list s.1)
    go None q k = cc
    go (Some s) q k = (s, q, cc)

list_in : (fs : FieldTrees) (ys : DocTrees) (g : ℕ → List DocTree) → HasLists fs ys g → (n : List ℕ) (t : TyTree) → lookup_type (right_lists fs) n ≡ Some t → (v : DocTree) → content (right_lists fs) ys n ≡ Some v → IsListAt fs n g v
list_in fs ys g lists n t typed v e =
    let s = tag_at fs n t typed in
    let i = tag_found fs n s.0 s.1 in
    record {
      tag = s.0.0;
      low = i.low;
      named = i.named;
      number = ap (option_map (λ (f : ℕ × TyTree). f.0)) s.1;
      is = same_Some v (list_doc (g s.0.0)) (sym e ∙ (ap (content (right_lists fs) ys) (sym i.named) ∙ lists.each s.0.0 i.low));
    }

-- a name among the fields has a type
type_named : (fs : FieldTrees) (n : List ℕ) → has_name n (names_of fs) ≡ true → (t : TyTree) × (lookup_type fs n ≡ Some t)
type_named no_fields n e = cc
type_named (more_fields m t fs) n e = go (bytes_eq m n) refl (λ k. type_named fs n k)
  where
    go : (b : Bool) → bytes_eq m n ≡ b → (has_name n (names_of fs) ≡ true → (u : TyTree) × (lookup_type fs n ≡ Some u)) → (u : TyTree) × (lookup_type (more_fields m t fs) n ≡ Some u)
    go true q again = (t, lookup_type-more m t fs n ∙ ap (λ b. cond b (Some t) (lookup_type fs n)) q)
    go false q again =
        let off = differs_back m n q in
        let r = again (subst (λ b. (b || has_name n (names_of fs)) ≡ true) off e) in
        (r.0, lookup_type-more m t fs n ∙ (ap (λ b. cond b (Some t) (lookup_type fs n)) q ∙ r.1))

named_type : (fs : FieldTrees) (ys : DocTrees) (n : List ℕ) (v : DocTree) → content fs ys n ≡ Some v → (t : TyTree) × (lookup_type fs n ≡ Some t)
named_type fs ys n v e = type_named fs n (content_named fs ys n v e)

-- the record of lists, from contents of their types
record_lists : (fs : FieldTrees) → IsPartition fs → (g : ℕ → List DocTree) → ((k : ℕ) → k < tag_count fs → AllHave fs k (g k)) → (ys : DocTrees) × HasLists fs ys g
record_lists fs p g typed =
    let gs = right_lists fs in
    let r = record_of gs (λ n. hole) (λ n. elim (tag_number fs n) [ None ↦ None | Some k ↦ Some (list_doc (g k)) ]) (rising_distinct (names_of gs) (first (is_rising (names_of gs)) (are_well_formed gs) p.right_sound)) good in (
      r.docs,
      record {
        typed = r.have;
        each = λ k low. r.agree (tag_name fs k) (ty_list (tag_type fs k)) (right_type_is fs (tag_name fs k) ∙ ap (option_map ty_list) (type_by_name fs k p.apart low))
            ∙ ap (λ (o : Option (ℕ × TyTree)). elim (option_map (λ (f : ℕ × TyTree). f.0) o) [ None ↦ None | Some k ↦ Some (list_doc (g k)) ]) (found_by_name fs k p.apart low);
      },
    )
  where
    good : AreGood (lookup_type (right_lists fs)) (λ n. hole) (λ n. elim (tag_number fs n) [ None ↦ None | Some k ↦ Some (list_doc (g k)) ])
    good n t e =
        let s = tag_at fs n t e in
        let i = tag_found fs n s.0 s.1 in (
          list_doc (g s.0.0),
          ap (λ (o : Option (ℕ × TyTree)). elim (option_map (λ (f : ℕ × TyTree). f.0) o) [ None ↦ None | Some k ↦ Some (list_doc (g k)) ]) s.1,
          subst (λ z. has z (list_doc (g s.0.0)) ≡ true) (ap ty_list i.typed ∙ sym s.2) (list_has (tag_type fs s.0.0) (g s.0.0) (typed s.0.0 i.low)),
          tt,
        )

plus_zero : (k : ℕ) → 0 + k ≡ k
plus_zero k = omega arith

same_patterns : (ps qs : PatternTrees) → Some ps ≡ Some qs → ps ≡ qs
same_patterns ps qs e = cc

docs_many : (fs : FieldTrees) (its : List Item) → length (item_docs fs its) ≡ length (tags_of its)
docs_many fs [] = refl
docs_many fs (x ∷ its) = ap suc (docs_many fs its)

-- a record of a type of fields
record_doc : (fs : FieldTrees) (v : DocTree) → has (ty_rec fs) v ≡ true → (ds : DocTrees) × (v ≡ rec ds) × (has_fields fs ds ≡ true)
record_doc fs (rec ds) h = (ds, refl, h)
record_doc fs unit h = cc
record_doc fs (truth b) h = cc
record_doc fs (int n) h = cc
record_doc fs (text s) h = cc
record_doc fs (pick n) h = cc
record_doc fs (alt n d) h = cc
record_doc fs (hold s ds) h = cc

-- items whose documents are alternatives of the type have contents of their tags' types
typed_items : (fs : FieldTrees) (its : List Item) → are_distinct (names_of fs) ≡ true → are_below (tag_count fs) (tags_of its) ≡ true → has_each (ty_alt fs) (docs_of (item_docs fs its)) ≡ true → AreItemsOf fs its
typed_items fs [] a b h = tt
typed_items fs (x ∷ its) a b h =
    let low = ltb-true x.0 (tag_count fs) (first (nat_lt x.0 (tag_count fs)) (are_below (tag_count fs) (tags_of its)) b) in (
      tag_has fs (tag_name fs x.0) x.1 (tag_type fs x.0) (type_by_name fs x.0 a low) (first (has (ty_alt fs) (alt (tag_name fs x.0) x.1)) (has_each (ty_alt fs) (docs_of (item_docs fs its))) h),
      typed_items fs its a (second (nat_lt x.0 (tag_count fs)) (are_below (tag_count fs) (tags_of its)) b) (second (has (ty_alt fs) (alt (tag_name fs x.0) x.1)) (has_each (ty_alt fs) (docs_of (item_docs fs its))) h),
    )

-- ---- from the right

-- the patterns of the record's lists say the same of the items
right_same : (fs : FieldTrees) → IsPartition fs → (its : List Item) (ys0 ys : DocTrees) (p : PatternTree) → are_below (tag_count fs) (tags_of its) ≡ true → Matches p (rec ys0) → has_fields (right_lists fs) ys0 ≡ true
    → HasLists fs ys (lists_by_tag its) → (o : Option (ℕ → PatternTrees)) → list_patterns fs 0 (tags_of its) (patterns_by_name (right_lists fs) p) ≡ o
    → IsSame p (rec ys) its (option_map (dealt (tags_of its)) o)
right_same fs q its ys0 ys p low like0 has0 lists None e = λ m.
    let r = lists_none fs 0 (tags_of its) (patterns_by_name (right_lists fs) p) e in
    let j = r.0 in
    let none = subst (λ z. patterns_in_list (count z (tags_of its)) (patterns_by_name (right_lists fs) p (tag_name fs j)) ≡ None) (plus_zero j) r.2 in
    let at = subst (λ o. IsInList (count j (tags_of its)) (contents_at j its) (patterns_by_name (right_lists fs) p (tag_name fs j)) o) none (in_list (count j (tags_of its)) (contents_at j its) (patterns_by_name (right_lists fs) p (tag_name fs j)) (length-contents j its)) in
    at (like_by_name (right_lists fs) p ys m (tag_name fs j) (list_doc (contents_at j its)) (lists.each j r.1))
right_same fs q its ys0 ys p low like0 has0 lists (Some all) e = (
  λ m. dealt_match (tag_count fs) its all low (λ k i. (inside k i).1 (like_by_name (right_lists fs) p ys m (tag_name fs k) (list_doc (contents_at k its)) (lists.each k i))),
  λ m. match_by_name (right_lists fs) p ys0 ys (rising_distinct (names_of (right_lists fs)) (first (is_rising (names_of (right_lists fs))) (are_well_formed (right_lists fs)) q.right_sound)) like0 has0 lists.typed
      (λ n v h.
      let t = named_type (right_lists fs) ys n v h in
      let l = list_in fs ys (lists_by_tag its) lists n t.0 t.1 v h in
      subst (λ z. Matches (patterns_by_name (right_lists fs) p z) v) l.named
      (subst (λ z. Matches (patterns_by_name (right_lists fs) p (tag_name fs l.tag)) z) (sym l.is)
      ((inside l.tag l.low).2 (match_dealt (tag_count fs) its all (λ k i. (inside k i).0) m l.tag l.low)))),
)
  where
    inside : (k : ℕ) → k < tag_count fs → IsInList (count k (tags_of its)) (contents_at k its) (patterns_by_name (right_lists fs) p (tag_name fs k)) (Some (all k))
    inside k i =
        let is = subst (λ z. patterns_in_list (count z (tags_of its)) (patterns_by_name (right_lists fs) p (tag_name fs k)) ≡ Some (all z)) (plus_zero k) (lists_some fs 0 (tags_of its) (patterns_by_name (right_lists fs) p) all e k i) in
        subst (λ o. IsInList (count k (tags_of its)) (contents_at k its) (patterns_by_name (right_lists fs) p (tag_name fs k)) o) is (in_list (count k (tags_of its)) (contents_at k its) (patterns_by_name (right_lists fs) p (tag_name fs k)) (length-contents k its))

-- documents for the list of each tag
record HasListOf (fs : FieldTrees) (ts : List ℕ) (k : ℕ) (ps : PatternTrees) (ds : List DocTree) : Type 0 where
  long : length ds ≡ count k ts
  typed : AllHave fs k ds
  match : MatchEach ps (docs_of ds)

is_below : (k n : ℕ) → k < n → nat_lt k n ≡ false → ⊥
is_below k n i e = let b : nat_lt k n ≡ true = grind (arith, nat_tests) in cc

-- one for each tag ltb-true the bound
chosen : (n : ℕ) (P : ℕ → List DocTree → Type 0) → ((k : ℕ) → k < n → (ds : List DocTree) × P k ds) → (k : ℕ) → (ds : List DocTree) × (k < n → P k ds)
chosen n P all k = go (nat_lt k n) refl
  where
    go : (b : Bool) → nat_lt k n ≡ b → (ds : List DocTree) × (k < n → P k ds)
    go true e = let r = all k (ltb-true k n e) in (r.0, λ i. r.1)
    go false e = ([], λ i. absurd (is_below k n i e))

right_built : (fs : FieldTrees) → IsPartition fs → are_well_formed fs ≡ true → (ts : List ℕ) (p : PatternTree) → are_below (tag_count fs) ts ≡ true → HasSome (ty_rec (right_lists fs)) p
    → (all : ℕ → PatternTrees) → list_patterns fs 0 ts (patterns_by_name (right_lists fs) p) ≡ Some all → HasItems fs ts (dealt ts all)
right_built fs q wf ts p low some all e =
    let ds = λ (k : ℕ). (lists k).0 in
    let long : (k : ℕ) → k < tag_count fs → length (ds k) ≡ count k ts = λ k i. ((lists k).1 i).long in
    let tags = deal_tags ts ds in
    let its = deal ts ds in
    record {
      items = its;
      tags = tags;
      typed = deal_typed fs (tag_count fs) ts ds low long (λ k i. ((lists k).1 i).typed);
      match = subst (λ z. MatchItems (dealt z all) its) tags (dealt_match (tag_count fs) its all (subst (λ z. are_below (tag_count fs) z ≡ true) (sym tags) low)
          (λ k i. subst (λ z. MatchEach (all k) (docs_of z)) (sym (deal_contents (tag_count fs) ts ds long k i)) ((lists k).1 i).match));
    }
  where
    one : (k : ℕ) → k < tag_count fs → (ds : List DocTree) × HasListOf fs ts k (all k) ds
    one k i =
        let gs = right_lists fs in
        let at = patterns_by_name gs p in
        let d = record_doc gs some.0 some.1 in
        let v = found_content gs d.0 (tag_name fs k) (ty_list (tag_type fs k)) d.2 (right_type_is fs (tag_name fs k) ∙ ap (option_map ty_list) (type_by_name fs k q.apart i)) in
        let like = like_by_name gs p d.0 (subst (Matches p) d.1 some.2) (tag_name fs k) v.0 v.1 in
        let is = subst (λ z. patterns_in_list (count z ts) (at (tag_name fs k)) ≡ Some (all z)) (plus_zero k) (lists_some fs 0 ts at all e k i) in
        let l = list_built (tag_type fs k) (count k ts) (at (tag_name fs k)) (all k) (tag_formed fs k wf i) (v.0, v.2, like) is in
        (doc_list l.docs, record { long = l.long; typed = subst (λ z. has_each (tag_type fs k) z ≡ true) (sym (docs_of-doc_list l.docs)) l.have; match = subst (MatchEach (all k)) (sym (docs_of-doc_list l.docs)) l.match })

    lists : (k : ℕ) → (ds : List DocTree) × (k < tag_count fs → HasListOf fs ts k (all k) ds)
    lists k = chosen (tag_count fs) (λ k ds. HasListOf fs ts k (all k) ds) one k

-- ---- the right as the far side

right_matches : (fs : FieldTrees) → IsPartition fs → (qs : PatternTrees) (its : List Item) (ys : DocTrees) → HasLists fs ys (lists_by_tag its) → MatchItems qs its
    → Matches (rec_pattern (in_order (right_lists fs) (list_at fs (tags_of its) qs))) (rec ys)
right_matches fs p qs its ys lists m = (
  ys,
  refl,
  match_in_order (right_lists fs) (list_at fs (tags_of its) qs) ys (rising_distinct (names_of (right_lists fs)) (first (is_rising (names_of (right_lists fs))) (are_well_formed (right_lists fs)) p.right_sound)) lists.typed
      (λ n v h.
      let t = named_type (right_lists fs) ys n v h in
      let l = list_in fs ys (lists_by_tag its) lists n t.0 t.1 v h in
      subst (λ (o : Option ℕ). Matches (elim o [ None ↦ hole | Some k ↦ list_pattern (count k (tags_of its)) (patterns_at k (tags_of its) qs) ]) v) (sym l.number)
      (docs_of (contents_at l.tag its), l.is ∙ ap (λ z. hold (ListOf (record { count = z })) (docs_of (contents_at l.tag its))) (length-contents l.tag its), picked_match l.tag qs its m)),
)

-- the items of a record in the pattern
record IsOfItems (fs : FieldTrees) (ts : List ℕ) (qs : PatternTrees) (ys : DocTrees) : Type 0 where
  items : List Item
  tags : tags_of items ≡ ts
  typed : AreItemsOf fs items
  match : MatchItems qs items
  lists : HasLists fs ys (lists_by_tag items)

-- the list of a tag in such a record
record IsListIn (fs : FieldTrees) (ts : List ℕ) (qs : PatternTrees) (ys : DocTrees) (k : ℕ) (ds : List DocTree) : Type 0 where
  found : content (right_lists fs) ys (tag_name fs k) ≡ Some (list_doc ds)
  long : length ds ≡ count k ts
  typed : AllHave fs k ds
  match : MatchEach (patterns_at k ts qs) (docs_of ds)

list_of_pattern : (t : TyTree) (n : ℕ) (ps : PatternTrees) (v : DocTree) → has (ty_list t) v ≡ true → Matches (list_pattern n ps) v → (ds : List DocTree) × (v ≡ list_doc ds) × (length ds ≡ n) × (has_each t (docs_of ds) ≡ true) × MatchEach ps (docs_of ds)
list_of_pattern t n ps v h m =
    let h' = subst (λ z. has (ty_list t) z ≡ true) m.1 h in
    let many = eqb-true n (length (doc_list m.0)) (first (nat_eq n (length (doc_list m.0))) (has_each t m.0) h') in (
      doc_list m.0,
      m.1 ∙ (ap (λ k. hold (ListOf (record { count = k })) m.0) many ∙ ap (λ z. hold (ListOf (record { count = length (doc_list m.0) })) z) (sym (docs_of-doc_list m.0))),
      sym many,
      subst (λ z. has_each t z ≡ true) (sym (docs_of-doc_list m.0)) (second (nat_eq n (length (doc_list m.0))) (has_each t m.0) h'),
      subst (MatchEach ps) (sym (docs_of-doc_list m.0)) m.2,
    )

right_found : (fs : FieldTrees) → IsPartition fs → (ts : List ℕ) (qs : PatternTrees) (ys : DocTrees) → are_below (tag_count fs) ts ≡ true → pattern_count qs ≡ length ts → has_fields (right_lists fs) ys ≡ true
    → MatchEach (in_order (right_lists fs) (list_at fs ts qs)) ys → IsOfItems fs ts qs ys
right_found fs p ts qs ys low n h m =
    let ds = λ (k : ℕ). (lists k).0 in
    let long : (k : ℕ) → k < tag_count fs → length (ds k) ≡ count k ts = λ k i. ((lists k).1 i).long in
    let tags = deal_tags ts ds in
    let its = deal ts ds in
    let picks = deal_contents (tag_count fs) ts ds long in
    record {
      items = its;
      tags = tags;
      typed = deal_typed fs (tag_count fs) ts ds low long (λ k i. ((lists k).1 i).typed);
      match = match_picked (tag_count fs) qs its (n ∙ ap length (sym tags)) (subst (λ z. are_below (tag_count fs) z ≡ true) (sym tags) low)
          (λ k i. subst (λ z. MatchEach (patterns_at k z qs) (docs_of (contents_at k its))) (sym tags) (subst (λ z. MatchEach (patterns_at k ts qs) (docs_of z)) (sym (picks k i)) ((lists k).1 i).match));
      lists = record { typed = h; each = λ k i. ((lists k).1 i).found ∙ ap (λ z. Some (list_doc z)) (sym (picks k i)) };
    }
  where
    one : (k : ℕ) → k < tag_count fs → (ds : List DocTree) × IsListIn fs ts qs ys k ds
    one k i =
        let gs = right_lists fs in
        let v = found_content gs ys (tag_name fs k) (ty_list (tag_type fs k)) h (right_type_is fs (tag_name fs k) ∙ ap (option_map ty_list) (type_by_name fs k p.apart i)) in
        let number : tag_number fs (tag_name fs k) ≡ Some k = ap (option_map (λ (f : ℕ × TyTree). f.0)) (found_by_name fs k p.apart i) in
        let like = subst (λ (o : Option ℕ). Matches (elim o [ None ↦ hole | Some k ↦ list_pattern (count k ts) (patterns_at k ts qs) ]) v.0) number (like_in_order gs (list_at fs ts qs) ys m (tag_name fs k) v.0 v.1) in
        let l = list_of_pattern (tag_type fs k) (count k ts) (patterns_at k ts qs) v.0 v.2 like in
        (l.0, record { found = v.1 ∙ ap Some l.1; long = l.2; typed = l.3; match = l.4 })

    lists : (k : ℕ) → (ds : List DocTree) × (k < tag_count fs → IsListIn fs ts qs ys k ds)
    lists k = chosen (tag_count fs) (λ k ds. IsListIn fs ts qs ys k ds) one k

-- ---- both sides

-- contents of items have the types of their tags
items_have : (fs : FieldTrees) (k : ℕ) (its : List Item) → AreItemsOf fs its → AllHave fs k (contents_at k its)
items_have fs k [] h = refl
items_have fs k (x ∷ its) h = go (nat_eq x.0 k) refl (items_have fs k its h.1)
  where
    go : (b : Bool) → nat_eq x.0 k ≡ b → AllHave fs k (contents_at k its) → AllHave fs k (cond b (x.1 ∷ contents_at k its) (contents_at k its))
    go true e again = both (has (tag_type fs k) x.1) (has_each (tag_type fs k) (docs_of (contents_at k its))) (subst (λ z. has (tag_type fs z) x.1 ≡ true) (eqb-true x.0 k e) h.0) again
    go false e again = again

left_given : (fs : FieldTrees) → IsPartition fs → (ts : List ℕ) (p : PatternTree) → are_below (tag_count fs) ts ≡ true → (o : Option PatternTrees)
    → ((its : List Item) → tags_of its ≡ ts → IsSame p (list_doc (item_docs fs its)) its o) → ((qs : PatternTrees) → o ≡ Some qs → HasItems fs ts qs)
    → IsImage (form_part fs) Left (tags_comp ts) p (option_map (λ qs. rec_pattern (in_order (right_lists fs) (list_at fs ts qs))) o)
left_given fs q ts p low None same built = λ v w m k. let g = triple_items fs q v ts w k in same g.items g.tags (subst (Matches p) g.left m)
left_given fs q ts p low (Some qs) same built = record {
  some_doc =
      let i = built qs refl in
      let r = record_lists fs q (lists_by_tag i.items) (λ k b. items_have fs k i.items i.typed) in
      (rec r.0, r.1.typed, subst (λ z. Matches (rec_pattern (in_order (right_lists fs) (list_at fs z qs))) (rec r.0)) i.tags (right_matches fs q qs i.items r.0 r.1 i.match));
  into = λ v w m k.
      let g = triple_items fs q v ts w k in
      let items = (same g.items g.tags).0 (subst (Matches p) g.left m) in
      subst (Matches (rec_pattern (in_order (right_lists fs) (list_at fs ts qs)))) (sym g.right)
      (subst (λ z. Matches (rec_pattern (in_order (right_lists fs) (list_at fs z qs))) (rec g.fields)) g.tags (right_matches fs q qs g.items g.fields g.lists items));
  onto = λ w h m.
      let h' = subst (λ z. has (ty_rec (right_lists fs)) z ≡ true) m.1 h in
      let i = built qs refl in
      let many : pattern_count qs ≡ length ts = items_count qs i.items i.match ∙ ap length i.tags in
      let g = right_found fs q ts qs m.0 low many h' m.2 in (
        list_doc (item_docs fs g.items),
        (same g.items g.tags).1 g.match,
        subst (λ z. IsConsistent (form_part fs) (list_doc (item_docs fs g.items)) (tags_comp ts) z) (sym m.1) (items_consistent fs q g.items ts m.0 g.tags g.typed g.lists low),
      );
}

right_given : (fs : FieldTrees) → IsPartition fs → (ts : List ℕ) (p : PatternTree) → are_below (tag_count fs) ts ≡ true → (o : Option PatternTrees)
    → ((its : List Item) (ys : DocTrees) → tags_of its ≡ ts → HasLists fs ys (lists_by_tag its) → IsSame p (rec ys) its o) → ((qs : PatternTrees) → o ≡ Some qs → HasItems fs ts qs)
    → IsImage (form_part fs) Right (tags_comp ts) p (option_map (λ qs. list_pattern (length ts) (item_patterns fs ts qs)) o)
right_given fs q ts p low None same built = λ v w m k. let g = triple_items fs q w ts v k in same g.items g.fields g.tags g.lists (subst (Matches p) g.right m)
right_given fs q ts p low (Some qs) same built = record {
  some_doc =
      let i = built qs refl in
      let low' = subst (λ z. are_below (tag_count fs) z ≡ true) (sym i.tags) low in (
        list_doc (item_docs fs i.items),
        list_has (ty_alt fs) (item_docs fs i.items) (items_typed fs i.items q.apart low' i.typed),
        subst (λ z. Matches (list_pattern (length z) (item_patterns fs z qs)) (list_doc (item_docs fs i.items))) i.tags (left_matches fs qs i.items i.match),
      );
  into = λ v w m k.
      let g = triple_items fs q w ts v k in
      let items = (same g.items g.fields g.tags g.lists).0 (subst (Matches p) g.right m) in
      subst (Matches (list_pattern (length ts) (item_patterns fs ts qs))) (sym g.left)
      (subst (λ z. Matches (list_pattern (length z) (item_patterns fs z qs)) (list_doc (item_docs fs g.items))) g.tags (left_matches fs qs g.items items));
  onto = λ w h m.
      let i = built qs refl in
      let many : pattern_count qs ≡ length ts = items_count qs i.items i.match ∙ ap length i.tags in
      let f = items_found fs ts qs m.0 many m.2 in
      let h' = subst (λ z. has (ty_list (ty_alt fs)) z ≡ true) m.1 h in
      let each = subst (λ z. has_each (ty_alt fs) z ≡ true) f.is (second (nat_eq (length ts) (length (doc_list m.0))) (has_each (ty_alt fs) m.0) h') in
      let low' = subst (λ z. are_below (tag_count fs) z ≡ true) (sym f.tags) low in
      let typed = typed_items fs f.items q.apart low' each in
      let r = record_lists fs q (lists_by_tag f.items) (λ k b. items_have fs k f.items typed) in
      let whole : w ≡ list_doc (item_docs fs f.items) = m.1 ∙ (ap (hold (ListOf (record { count = length ts }))) f.is ∙ ap (λ n. hold (ListOf (record { count = n })) (docs_of (item_docs fs f.items))) (sym (docs_many fs f.items ∙ ap length f.tags))) in (
        rec r.0,
        (same f.items r.0 f.tags r.1).1 f.match,
        subst (λ z. IsConsistent (form_part fs) z (tags_comp ts) (rec r.0)) (sym whole) (items_consistent fs q f.items ts r.0 f.tags typed r.1 low),
      );
}

dealt_back : (ts : List ℕ) (fs : FieldTrees) (o : Option (ℕ → PatternTrees)) → option_map (λ lists. list_pattern (length ts) (item_patterns fs ts (dealt ts lists))) o ≡ option_map (λ qs. list_pattern (length ts) (item_patterns fs ts qs)) (option_map (dealt ts) o)
dealt_back ts fs None = refl
dealt_back ts fs (Some lists) = refl

built_dealt : (fs : FieldTrees) (ts : List ℕ) (o : Option (ℕ → PatternTrees)) → ((all : ℕ → PatternTrees) → o ≡ Some all → HasItems fs ts (dealt ts all)) → (qs : PatternTrees) → option_map (dealt ts) o ≡ Some qs → HasItems fs ts qs
built_dealt fs ts None a qs e = cc
built_dealt fs ts (Some all) a qs e = subst (HasItems fs ts) (same_patterns (dealt ts all) qs e) (a all refl)

pub part_images : (fs : FieldTrees) → IsPartition fs → are_well_formed fs ≡ true → ImageLaw (form_part fs)
part_images fs q wf Left (tags_comp ts) p fit some =
    left_given fs q ts p fit (option_and_then (content_patterns fs ts) (patterns_in_list (length ts) p))
    (λ its e. subst (λ z. IsSame p (list_doc (item_docs fs its)) its (option_and_then (content_patterns fs z) (patterns_in_list (length z) p))) e (left_same fs its p))
    (λ qs e. left_built fs ts p qs q.apart wf q.left_sound fit some e)
part_images fs q wf Right (tags_comp ts) p fit some =
    let at = patterns_by_name (right_lists fs) p in
    let d = record_doc (right_lists fs) some.0 some.1 in
    subst (λ o. IsImage (form_part fs) Right (tags_comp ts) p o) (sym (dealt_back ts fs (list_patterns fs 0 ts at)))
    (right_given fs q ts p fit (option_map (dealt ts) (list_patterns fs 0 ts at))
    (λ its ys e lists. subst (λ z. IsSame p (rec ys) its (option_map (dealt z) (list_patterns fs 0 z at))) e
    (right_same fs q its d.0 ys p (subst (λ z. are_below (tag_count fs) z ≡ true) (sym e) fit) (subst (Matches p) d.1 some.2) d.2 lists (list_patterns fs 0 (tags_of its) at) refl))
    (built_dealt fs ts (list_patterns fs 0 ts at) (λ all e. right_built fs q wf ts p fit some all e)))
part_images fs q wf s nil p fit some = absurd fit
part_images fs q wf s (then_comp c d) p fit some = absurd fit
part_images fs q wf s (rec_comp cs) p fit some = absurd fit
part_images fs q wf s (alt_comp t c) p fit some = absurd fit
part_images fs q wf s (hold_comp r cs) p fit some = absurd fit

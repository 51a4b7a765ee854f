-- The right record of a partition as a list for each tag's number, and the words that turn these lists.
use Rattle.std.proofs.Common.{◌≡◌, ℕ, zero, suc, ◌+◌, ◌<◌, ◌≤◌, Bool, true, false, List, [], ◌∷◌, map, Option, Some, None, option_map, Ok, refl, ap, sym, ◌∙◌, subst, arith, one-add}
use Rattle.std.specs.Prelude.{nat_eq, nat_lt, bytes_eq, not, cond}
use Rattle.std.proofs.lemmas.Bool.{eq-eqb, eqb-true, not-true, ltb-true}
use Rattle.std.proofs.lemmas.Bool.Decides.{nat_tests}
use Rattle.texts.specs.Keys.{has_name}
use Rattle.texts.proofs.Conjunction.{first, second}
use Rattle.doc_values.specs.Documents.{DocTree, unit, truth, int, text, pick, rec, alt, hold, DocTrees}
use Rattle.doc_values.specs.Types.{TyTree, ty_unit, ty_rec, ty_alt, ty_list, FieldTrees, no_fields, more_fields, names_of, is_well_formed, are_distinct}
use Rattle.doc_values.specs.Typing.{has_fields, lookup_field, lookup_type, later_field}
use Rattle.edit_module.specs.Words.{WordTree, no_primitives, joined}
use Rattle.edit_module.specs.Action.{act, put_at, doc_at}
use Rattle.lens_forms.specs.Forms.{sorted, lists_of}
use Rattle.lens_core.specs.Emitted.{at_word}
use Rattle.lens_core.specs.Tags.{tag_count, tag_number, tag_name}
use Rattle.tag_seq.specs.Tags.{are_below}
use Rattle.lens_core.specs.Consistency.{content, list_doc, item_tag, contents_with, HasTheirContents}
use Rattle.lens_core.specs.Partition.{at_each_tag}
use Rattle.edit_module.proofs.ActionKeepsTypes.{has_act}
use Rattle.lens_core.proofs.LawsOfLeaves.{differs_back}
use Rattle.doc_values.proofs.FieldPlaces.{lookup_type_place}
use Rattle.lens_core.proofs.NameTests.{not_that}
use Rattle.lens_core.proofs.RecordFields.{lookup_type-more, lookup_type-insert, content-found, content-put, field_acts}
use Rattle.lens_core.proofs.Tags.{tag_name-among}
use Rattle.lens_core.proofs.ItemLists.{Item, tags_of, contents_at}
use Rattle.texts.proofs.Tests.{bytes_eq-is, nat_eq-refl}
use Rattle.texts.proofs.KeyOrder.{bytes_eq-refl}
use Rattle.edit_module.proofs.JoinedWords.{acts_joined}
use Rattle.std.proofs.lemmas.Option.{same_Some}

-- ---- names and numbers of tags

-- the type of the tag with a number
abbrev pub tag_type : FieldTrees → ℕ → TyTree
tag_type no_fields k = ty_unit
tag_type (more_fields n t fs) zero = t
tag_type (more_fields n t fs) (suc k) = tag_type fs k

-- the fields of the record on the right
abbrev pub right_lists : FieldTrees → FieldTrees
right_lists fs = sorted (lists_of fs)

-- what is asked of a partition
pub record IsPartition (fs : FieldTrees) : Type 0 where
  pub apart : are_distinct (names_of fs) ≡ true
  pub left_sound : is_well_formed (ty_alt fs) ≡ true
  pub right_sound : is_well_formed (ty_rec (right_lists fs)) ≡ true

pub found_by_name : (fs : FieldTrees) (k : ℕ) → are_distinct (names_of fs) ≡ true → k < tag_count fs → lookup_field fs (tag_name fs k) ≡ Some (k, tag_type fs k)
found_by_name no_fields k a h = absurd (omega arith)
found_by_name (more_fields n t fs) zero a h = rw (bytes_eq-refl n) refl
found_by_name (more_fields n t fs) (suc k) a h =
    let off = not-true (has_name n (names_of fs)) (first (not (has_name n (names_of fs))) (are_distinct (names_of fs)) a) in
    let rest = second (not (has_name n (names_of fs))) (are_distinct (names_of fs)) a in
    let other : bytes_eq n (tag_name fs k) ≡ false = differs_back (tag_name fs k) n (not_that (tag_name fs k) n (names_of fs) off (tag_name-among fs k (omega arith))) in
    rw (other, found_by_name fs k rest (omega arith)) (ap (λ z. Some (z, tag_type fs k)) (one-add k))

-- the tag that a name finds
pub record IsTag (fs : FieldTrees) (n : List ℕ) (s : ℕ × TyTree) : Type 0 where
  pub named : tag_name fs s.0 ≡ n
  pub typed : tag_type fs s.0 ≡ s.1
  pub low : s.0 < tag_count fs

pub tag_found : (fs : FieldTrees) (n : List ℕ) (s : ℕ × TyTree) → lookup_field fs n ≡ Some s → IsTag fs n s
tag_found no_fields n s e = cc
tag_found (more_fields m t fs) n s e = go (bytes_eq m n) refl (lookup_field fs n) refl (λ r f. tag_found fs n r f) e
  where
    go : (b : Bool) → bytes_eq m n ≡ b → (o : Option (ℕ × TyTree)) → lookup_field fs n ≡ o → ((r : ℕ × TyTree) → lookup_field fs n ≡ Some r → IsTag fs n r)
        → cond b (Some (0, t)) (option_map (later_field 1) o) ≡ Some s → IsTag (more_fields m t fs) n s
    go true f o g again k =
        let same : (0, t) ≡ s = cc in
        subst (λ z. IsTag (more_fields m t fs) n z) same (record { named = bytes_eq-is m n f; typed = refl; low = omega arith })
    go false f None g again k = cc
    go false f (Some r) g again k =
        let same : (1 + r.0, r.1) ≡ s = cc in
        let i = again r g in
        let low = i.low in
        let past : suc r.0 ≡ 1 + r.0 = sym (one-add r.0) in
        subst (λ z. IsTag (more_fields m t fs) n z) (ap (λ z. (z, r.1)) past ∙ same)
        (record { named = i.named; typed = i.typed; low = omega arith })

number_same : (r s : ℕ × TyTree) → Some r ≡ Some s → r.0 ≡ s.0
number_same r s e = let same : r ≡ s = cc in ap (λ (z : ℕ × TyTree). z.0) same

-- two names of tags are the same where their numbers are
pub names_as_numbers : (fs : FieldTrees) (k l : ℕ) → are_distinct (names_of fs) ≡ true → k < tag_count fs → l < tag_count fs → bytes_eq (tag_name fs k) (tag_name fs l) ≡ nat_eq k l
names_as_numbers fs k l a h i = go (nat_eq k l) (bytes_eq (tag_name fs k) (tag_name fs l)) refl refl
  where
    go : (b c : Bool) → nat_eq k l ≡ b → bytes_eq (tag_name fs k) (tag_name fs l) ≡ c → c ≡ b
    go true true e f = refl
    go false false e f = refl
    go true false e f =
        let same : tag_name fs k ≡ tag_name fs l = ap (tag_name fs) (eqb-true k l e) in
        let yes : bytes_eq (tag_name fs k) (tag_name fs l) ≡ true = subst (λ z. bytes_eq (tag_name fs k) z ≡ true) same (bytes_eq-refl (tag_name fs k)) in cc
    go false true e f =
        let same : tag_name fs k ≡ tag_name fs l = bytes_eq-is (tag_name fs k) (tag_name fs l) f in
        let number : k ≡ l = number_same (k, tag_type fs k) (l, tag_type fs l) (sym (found_by_name fs k a h) ∙ (ap (lookup_field fs) same ∙ found_by_name fs l a i)) in
        let yes : nat_eq k l ≡ true = eq-eqb k l number in cc

-- ---- the fields on the right

type_of_sorted : (fs : FieldTrees) (n : List ℕ) → lookup_type (sorted fs) n ≡ lookup_type fs n
type_of_sorted no_fields n = refl
type_of_sorted (more_fields m t fs) n =
    lookup_type-insert m t (sorted fs) n ∙ (ap (λ o. cond (bytes_eq m n) (Some t) o) (type_of_sorted fs n) ∙ sym (lookup_type-more m t fs n))

type_of_lists : (fs : FieldTrees) (n : List ℕ) → lookup_type (lists_of fs) n ≡ option_map ty_list (lookup_type fs n)
type_of_lists no_fields n = refl
type_of_lists (more_fields m t fs) n =
    lookup_type-more m (ty_list t) (lists_of fs) n ∙ (ap (λ o. cond (bytes_eq m n) (Some (ty_list t)) o) (type_of_lists fs n)
    ∙ (mapped (bytes_eq m n) (lookup_type fs n) ∙ ap (option_map ty_list) (sym (lookup_type-more m t fs n))))
  where
    mapped : (b : Bool) (o : Option TyTree) → cond b (Some (ty_list t)) (option_map ty_list o) ≡ option_map ty_list (cond b (Some t) o)
    mapped true o = refl
    mapped false o = refl

pub right_type_is : (fs : FieldTrees) (n : List ℕ) → lookup_type (right_lists fs) n ≡ option_map ty_list (lookup_type fs n)
right_type_is fs n = type_of_sorted (lists_of fs) n ∙ type_of_lists fs n

pub type_by_name : (fs : FieldTrees) (k : ℕ) → are_distinct (names_of fs) ≡ true → k < tag_count fs → lookup_type fs (tag_name fs k) ≡ Some (tag_type fs k)
type_by_name fs k a h = ap (option_map (λ (f : ℕ × TyTree). f.1)) (found_by_name fs k a h)

-- ---- the lists on the right

-- a record that has the list g k at each tag k
pub record HasLists (fs : FieldTrees) (ys : DocTrees) (g : ℕ → List DocTree) : Type 0 where
  pub typed : has_fields (right_lists fs) ys ≡ true
  pub each : (k : ℕ) → k < tag_count fs → content (right_lists fs) ys (tag_name fs k) ≡ Some (list_doc (g k))

-- a word turns a list of documents into another
abbrev pub Turns : TyTree → WordTree → List DocTree → List DocTree → Type 0
Turns t w vs us = act (ty_list t) w (list_doc vs) ≡ Ok (list_doc us)

-- a word that turns the record with the lists g into one with the lists h
abbrev pub TurnsLists : FieldTrees → WordTree → (ℕ → List DocTree) → (ℕ → List DocTree) → Type 0
TurnsLists fs w g h = (ys : DocTrees) → HasLists fs ys g → (zs : DocTrees) × (act (ty_rec (right_lists fs)) w (rec ys) ≡ Ok (rec zs)) × HasLists fs zs h

-- a word inside the list of one tag
pub one_list_turns : (fs : FieldTrees) → IsPartition fs → (k : ℕ) (w : WordTree) (g h : ℕ → List DocTree) → k < tag_count fs → Turns (tag_type fs k) w (g k) (h k)
    → ((l : ℕ) → nat_eq k l ≡ false → h l ≡ g l) → TurnsLists fs (at_word (tag_name fs k) w) g h
one_list_turns fs p k w g h low turns others ys lists =
    let fields = right_lists fs in
    let name = tag_name fs k in
    let spot = lookup_type_place fields name (ty_list (tag_type fs k)) (right_type_is fs name ∙ ap (option_map ty_list) (type_by_name fs k p.apart low)) in
    let same : doc_at ys spot.0.0 ≡ list_doc (g k) = same_Some (doc_at ys spot.0.0) (list_doc (g k)) (sym (content-found fields ys name spot.0 lists.typed spot.1) ∙ lists.each k low) in
    let acts : act spot.0.1 w (doc_at ys spot.0.0) ≡ Ok (list_doc (h k)) =
    subst (λ t. act t w (doc_at ys spot.0.0) ≡ Ok (list_doc (h k))) (sym spot.2) (subst (λ z. act (ty_list (tag_type fs k)) w z ≡ Ok (list_doc (h k))) (sym same) turns) in
    let whole = field_acts fields ys name w spot.0 (list_doc (h k)) spot.1 acts in (
      put_at ys spot.0.0 (list_doc (h k)),
      whole,
      record {
        typed = has_act (ty_rec fields) (at_word name w) (rec ys) (rec (put_at ys spot.0.0 (list_doc (h k)))) p.right_sound lists.typed whole;
        each = λ l b. content-put fields ys name spot.0 (list_doc (h k)) lists.typed spot.1 (tag_name fs l)
            ∙ (ap (λ z. cond z (Some (list_doc (h k))) (content fields ys (tag_name fs l))) (names_as_numbers fs k l p.apart low b)
            ∙ chosen l (nat_eq k l) refl (lists.each l b));
      },
    )
  where
    chosen : (l : ℕ) (b : Bool) → nat_eq k l ≡ b → content (right_lists fs) ys (tag_name fs l) ≡ Some (list_doc (g l))
        → cond b (Some (list_doc (h k))) (content (right_lists fs) ys (tag_name fs l)) ≡ Some (list_doc (h l))
    chosen l true e there = ap (λ z. Some (list_doc (h z))) (eqb-true k l e)
    chosen l false e there = there ∙ ap (λ z. Some (list_doc z)) (sym (others l e))

-- two words, one after another
pub lists_joined : (fs : FieldTrees) (u w : WordTree) (g h i : ℕ → List DocTree) → TurnsLists fs u g h → TurnsLists fs w h i → TurnsLists fs (joined u w) g i
lists_joined fs u w g h i first second ys lists =
    let a = first ys lists in
    let b = second a.0 a.2 in
    (b.0, acts_joined (ty_rec (right_lists fs)) u w (rec ys) (rec a.0) (rec b.0) a.1 b.1, b.2)

-- the same lists under another name
pub lists_same : (fs : FieldTrees) (g h : ℕ → List DocTree) → ((l : ℕ) → l < tag_count fs → g l ≡ h l) → TurnsLists fs no_primitives g h
lists_same fs g h same ys lists = (ys, refl, record { typed = lists.typed; each = λ l b. lists.each l b ∙ ap (λ z. Some (list_doc z)) (same l b) })

-- a word inside the list of each tag, from tag k on
each_from : (fs : FieldTrees) → IsPartition fs → (word : ℕ → WordTree) (g h : ℕ → List DocTree) → ((l : ℕ) → l < tag_count fs → Turns (tag_type fs l) (word l) (g l) (h l))
    → (rest : FieldTrees) (k : ℕ) → ((j : ℕ) → tag_name rest j ≡ tag_name fs (k + j)) → k + tag_count rest ≡ tag_count fs
    → (c : ℕ → List DocTree) → ((l : ℕ) → l < k → c l ≡ h l) → ((l : ℕ) → k ≤ l → c l ≡ g l) → TurnsLists fs (at_each_tag rest k word) c h
each_from fs p word g h turns no_fields k names n c done todo = lists_same fs c h (λ l b. done l (omega arith))
each_from fs p word g h turns (more_fields m t rest) k names n c done todo =
    let name : m ≡ tag_name fs k = names 0 ∙ ap (tag_name fs) (omega arith) in
    let low : k < tag_count fs = omega arith in
    let mid = λ (l : ℕ). cond (nat_eq k l) (h l) (c l) in
    let one : TurnsLists fs (at_word m (word k)) c mid =
    subst (λ z. TurnsLists fs (at_word z (word k)) c mid) (sym name)
    (one_list_turns fs p k (word k) c mid low
    (subst (λ z. Turns (tag_type fs k) (word k) z (mid k)) (sym (todo k (omega arith)))
    (subst (λ z. Turns (tag_type fs k) (word k) (g k) z) (sym (ap (λ z. cond z (h k) (c k)) (nat_eq-refl k))) (turns k low)))
    (λ l e. ap (λ z. cond z (h l) (c l)) e)) in
    let more = each_from fs p word g h turns rest (k + 1) (λ j. names (suc j) ∙ ap (tag_name fs) (omega arith)) (omega arith) mid
    (λ l b. was_done l b (nat_eq k l) refl) (λ l b. is_todo l b (nat_eq k l) refl) in
    lists_joined fs (at_word m (word k)) (at_each_tag rest (k + 1) word) c mid h one more
  where
    before_it : (l : ℕ) → l < k + 1 → nat_eq k l ≡ false → l < k
    before_it l b e = grind (arith, nat_tests)

    not_it : (l : ℕ) → k + 1 ≤ l → nat_eq k l ≡ true → ⊥
    not_it l b e = let same : k ≡ l = eqb-true k l e in absurd (omega arith)

    was_done : (l : ℕ) → l < k + 1 → (b : Bool) → nat_eq k l ≡ b → cond b (h l) (c l) ≡ h l
    was_done l b true e = refl
    was_done l b false e = done l (before_it l b e)

    is_todo : (l : ℕ) → k + 1 ≤ l → (b : Bool) → nat_eq k l ≡ b → cond b (h l) (c l) ≡ g l
    is_todo l b true e = absurd (not_it l b e)
    is_todo l b false e = todo l (omega arith)

pub each_list_turns : (fs : FieldTrees) → IsPartition fs → (word : ℕ → WordTree) (g h : ℕ → List DocTree) → ((l : ℕ) → l < tag_count fs → Turns (tag_type fs l) (word l) (g l) (h l))
    → TurnsLists fs (at_each_tag fs 0 word) g h
each_list_turns fs p word g h turns =
    each_from fs p word g h turns fs 0 (λ j. ap (tag_name fs) (omega arith)) (omega arith) g (λ l b. absurd (omega arith)) (λ l b. refl)

-- ---- items and documents

-- an item as one of the alternatives
abbrev pub item_doc : FieldTrees → Item → DocTree
item_doc fs p = alt (tag_name fs p.0) p.1

abbrev pub item_docs : FieldTrees → List Item → List DocTree
item_docs fs ps = map (item_doc fs) ps

-- the lists of the items' contents, by tags
abbrev pub lists_by_tag : List Item → ℕ → List DocTree
lists_by_tag ps k = contents_at k ps

pub contents_are : (fs : FieldTrees) (ps : List Item) (k : ℕ) → are_distinct (names_of fs) ≡ true → k < tag_count fs → are_below (tag_count fs) (tags_of ps) ≡ true
    → contents_with (tag_name fs k) (item_docs fs ps) ≡ contents_at k ps
contents_are fs [] k a h b = refl
contents_are fs (p ∷ ps) k a h b =
    let here = ltb-true p.0 (tag_count fs) (first (nat_lt p.0 (tag_count fs)) (are_below (tag_count fs) (tags_of ps)) b) in
    let rest = contents_are fs ps k a h (second (nat_lt p.0 (tag_count fs)) (are_below (tag_count fs) (tags_of ps)) b) in
    rw (names_as_numbers fs p.0 k a here h, rest) refl

theirs_make : (rest rights : FieldTrees) (ys : DocTrees) (xs : List DocTree) → ((j : ℕ) → j < tag_count rest → content rights ys (tag_name rest j) ≡ Some (list_doc (contents_with (tag_name rest j) xs)))
    → HasTheirContents rest rights ys xs
theirs_make no_fields rights ys xs h = tt
theirs_make (more_fields n t rest) rights ys xs h = (h 0 (omega arith), theirs_make rest rights ys xs (λ j b. h (suc j) (omega arith)))

theirs_at : (rest rights : FieldTrees) (ys : DocTrees) (xs : List DocTree) → HasTheirContents rest rights ys xs → (j : ℕ) → j < tag_count rest
    → content rights ys (tag_name rest j) ≡ Some (list_doc (contents_with (tag_name rest j) xs))
theirs_at no_fields rights ys xs h j b = absurd (omega arith)
theirs_at (more_fields n t rest) rights ys xs h zero b = h.0
theirs_at (more_fields n t rest) rights ys xs h (suc j) b = theirs_at rest rights ys xs h.1 j (omega arith)

pub theirs_are_lists : (fs : FieldTrees) (ys : DocTrees) (ps : List Item) → are_distinct (names_of fs) ≡ true → are_below (tag_count fs) (tags_of ps) ≡ true → has_fields (right_lists fs) ys ≡ true
    → HasTheirContents fs (right_lists fs) ys (item_docs fs ps) → HasLists fs ys (lists_by_tag ps)
theirs_are_lists fs ys ps a b t h = record {
  typed = t;
  each = λ k l. theirs_at fs (right_lists fs) ys (item_docs fs ps) h k l ∙ ap (λ z. Some (list_doc z)) (contents_are fs ps k a l b);
}

pub lists_are_theirs : (fs : FieldTrees) (ys : DocTrees) (ps : List Item) → are_distinct (names_of fs) ≡ true → are_below (tag_count fs) (tags_of ps) ≡ true
    → HasLists fs ys (lists_by_tag ps) → HasTheirContents fs (right_lists fs) ys (item_docs fs ps)
lists_are_theirs fs ys ps a b h =
    theirs_make fs (right_lists fs) ys (item_docs fs ps) (λ j l. h.each j l ∙ ap (λ z. Some (list_doc z)) (sym (contents_are fs ps j a l b)))

-- the items of a list of alternatives with these tags
pub record AreItems (fs : FieldTrees) (xs : List DocTree) (ts : List ℕ) : Type 0 where
  pub items : List Item
  pub left : xs ≡ item_docs fs items
  pub tags : ts ≡ tags_of items

one_item : (fs : FieldTrees) (d : DocTree) (t : ℕ) → item_tag fs d ≡ Some t → (v : DocTree) × (d ≡ alt (tag_name fs t) v)
one_item fs (alt n v) t e = go (lookup_field fs n) refl e
  where
    go : (o : Option (ℕ × TyTree)) → lookup_field fs n ≡ o → option_map (λ (f : ℕ × TyTree). f.0) o ≡ Some t → (u : DocTree) × (alt n v ≡ alt (tag_name fs t) u)
    go None f k = cc
    go (Some s) f k =
        let same : s.0 ≡ t = cc in
        (v, ap (λ z. alt z v) (sym (tag_found fs n s f).named ∙ ap (tag_name fs) same))
one_item fs unit t e = cc
one_item fs (truth b) t e = cc
one_item fs (int n) t e = cc
one_item fs (text s) t e = cc
one_item fs (pick n) t e = cc
one_item fs (rec ds) t e = cc
one_item fs (hold s ds) t e = cc

pub items_of : (fs : FieldTrees) (xs : List DocTree) (ts : List ℕ) → map (item_tag fs) xs ≡ map Some ts → AreItems fs xs ts
items_of fs [] [] e = record { items = []; left = refl; tags = refl }
items_of fs [] (t ∷ ts) e = cc
items_of fs (x ∷ xs) [] e = cc
items_of fs (x ∷ xs) (t ∷ ts) e =
    let here : item_tag fs x ≡ Some t = cc in
    let rest : map (item_tag fs) xs ≡ map Some ts = cc in
    let one = one_item fs x t here in
    let more = items_of fs xs ts rest in
    record {
      items = (t, one.0) ∷ more.items;
      left = ap (λ z. z ∷ xs) one.1 ∙ ap (λ z. alt (tag_name fs t) one.0 ∷ z) more.left;
      tags = ap (λ z. t ∷ z) more.tags;
    }

pub tags_of_items : (fs : FieldTrees) (ps : List Item) → are_distinct (names_of fs) ≡ true → are_below (tag_count fs) (tags_of ps) ≡ true → map (item_tag fs) (item_docs fs ps) ≡ map Some (tags_of ps)
tags_of_items fs [] a b = refl
tags_of_items fs (p ∷ ps) a b =
    let here = ltb-true p.0 (tag_count fs) (first (nat_lt p.0 (tag_count fs)) (are_below (tag_count fs) (tags_of ps)) b) in
    let rest = tags_of_items fs ps a (second (nat_lt p.0 (tag_count fs)) (are_below (tag_count fs) (tags_of ps)) b) in
    let one : tag_number fs (tag_name fs p.0) ≡ Some p.0 = ap (option_map (λ (f : ℕ × TyTree). f.0)) (found_by_name fs p.0 a here) in
    rw (one, rest) refl

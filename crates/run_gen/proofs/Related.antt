-- What the relation says of the documents of a generated journal: the left document is a list of texts and numbers, and the right
-- document has the list of its texts and that of its numbers.
use Rattle.std.proofs.Common.{◌≡◌, ℕ, ◌+◌, ℤ, pos, Bool, true, false, ◌&&◌, List, [], ◌∷◌, ◌++◌, length, codes, Some, refl, ap, sym, ◌∙◌, subst, arith}
use Rattle.std.specs.Prelude.{bytes_eq}
use Rattle.std.proofs.lemmas.Bool.{eqb-true}
use Rattle.texts.proofs.Conjunction.{first, second, split}
use Rattle.hold_shapes.specs.declared.shape.Shape.{Shape}
use Rattle.hold_shapes.specs.declared.shape.Shape.TheVariants.{List as ListOf, Keyed as KeyedOf, Tree as TreeOf}
use Rattle.doc_values.specs.Documents.{DocTree, int, rec, alt, hold, DocTrees, no_docs, more_docs, docs_of, doc_list}
use Rattle.doc_values.specs.Types.{TyTree, ty_int, ty_text, ty_list, ty_alt, no_fields, more_fields}
use Rattle.doc_values.specs.Typing.{has, has_each, has_fields, is_list_of}
use Rattle.lens_forms.specs.Forms.{form_id, form_each, form_part, form_rec, left_fields, right_fields, sorted, lists_of}
use Rattle.lens_core.specs.Complements.{CompTree, then_comp, rec_comp, hold_comp, tags_comp, CompTrees, no_comps, more_comps}
use Rattle.lens_core.specs.Consistency.{IsConsistent, AtEachPlace, content, list_doc}
use Rattle.run_gen.specs.Program.{item_tags, list_rows, generated_form}
use Rattle.run_gen.specs.Invariant.{texts_of, numbers_of, AreInts, AreItems, two_lists, HasItems}
use Rattle.texts.proofs.Tests.{bytes_eq-is_back}
use Rattle.doc_values.proofs.Lists.{docs_of-doc_list, doc_list-docs_of}

-- ---- lists

-- the contents of a list of equals are equal
places_same : (t : TyTree) (xs : DocTrees) (cs : CompTrees) (ys : DocTrees) → AtEachPlace (IsConsistent (form_id t)) xs cs ys → ys ≡ xs
places_same t no_docs no_comps no_docs h = refl
places_same t no_docs no_comps (more_docs y ys) h = absurd h
places_same t no_docs (more_comps c cs) ys h = absurd h
places_same t (more_docs x xs) no_comps ys h = absurd h
places_same t (more_docs x xs) (more_comps c cs) no_docs h = absurd h
places_same t (more_docs x xs) (more_comps c cs) (more_docs y ys) h =
    let here : y ≡ x = sym h.0.1 in
    let rest = places_same t xs cs ys h.1 in cc

lists_same : (t : TyTree) (x : DocTree) (c : CompTree) (y : DocTree) → IsConsistent (form_each (form_id t)) x c y → y ≡ x
lists_same t (hold s xs) (hold_comp r cs) (hold q ys) h =
    let rest = places_same t xs cs ys h.1.2 in
    let shape : q ≡ s = h.1.1 in cc
lists_same t _ _ _ h = absurd h.1

-- ---- the items of the left list

number_before : (v : DocTree) (ds : List DocTree) → has (ty_int (pos 0)) v ≡ true → AreInts ds → AreInts (v ∷ ds)
number_before (int z) ds h ints = ints
number_before _ ds h ints = cc

no_tag : (n : List ℕ) (v : DocTree) → bytes_eq (codes "p") n ≡ false → bytes_eq (codes "o") n ≡ false → has (ty_alt item_tags) (alt n v) ≡ true → ⊥
no_tag n v is_p is_o typed = let e : false ≡ true = rw (is_p, is_o) at typed in cc

item_before : (n : List ℕ) (v : DocTree) (items : List DocTree) (p o : Bool) → bytes_eq (codes "p") n ≡ p → bytes_eq (codes "o") n ≡ o
    → has (ty_alt item_tags) (alt n v) ≡ true → AreItems items → AreItems (alt n v ∷ items)
item_before n v items true o is_p is_o typed h =
    let P : List ℕ → Type 0 = λ m. AreItems (alt m v ∷ items) in
    let all = h.all in
    subst P (sym (bytes_eq-is_back (codes "p") n is_p)) (record { all = omega arith; ints = h.ints })
item_before n v items false true is_p is_o typed h =
    let P : List ℕ → Type 0 = λ m. has (ty_alt item_tags) (alt m v) ≡ true → AreItems (alt m v ∷ items) in
    let all = h.all in
    subst P (sym (bytes_eq-is_back (codes "o") n is_o))
    (λ is. record { all = omega arith; ints = number_before v (numbers_of items) is h.ints }) typed
item_before n v items false false is_p is_o typed h = absurd (no_tag n v is_p is_o typed)

items_are : (xs : DocTrees) → has_each (ty_alt item_tags) xs ≡ true → AreItems (doc_list xs)
items_are no_docs h = record { all = refl; ints = tt }
items_are (more_docs (alt n v) xs) h =
    item_before n v (doc_list xs) (bytes_eq (codes "p") n) (bytes_eq (codes "o") n) refl refl
    (first (has (ty_alt item_tags) (alt n v)) (has_each (ty_alt item_tags) xs) h)
    (items_are xs (second (has (ty_alt item_tags) (alt n v)) (has_each (ty_alt item_tags) xs) h))
items_are (more_docs _ xs) h = cc

-- a list with the type is its items with their number
list_is : (s : Shape) (xs : DocTrees) → has (ty_list (ty_alt item_tags)) (hold s xs) ≡ true → (hold s xs ≡ list_doc (doc_list xs)) × AreItems (doc_list xs)
list_is (ListOf r) xs h =
    let typed = split (is_list_of (ListOf r) (length (doc_list xs))) (has_each (ty_alt item_tags) xs) h in
    let long : r.count ≡ length (doc_list xs) = eqb-true r.count (length (doc_list xs)) typed.0 in
    let back = docs_of-doc_list xs in (
      ap (λ k. hold (ListOf (record { count = k })) xs) long ∙ ap (λ z. hold (ListOf (record { count = length (doc_list xs) })) z) (sym back),
      items_are xs typed.1,
    )
list_is (KeyedOf ks) xs h = cc
list_is (TreeOf ds) xs h = cc

-- ---- the two documents

-- a record of two fields has two contents
two_fields : (m n : List ℕ) (t u : TyTree) (ds : DocTrees) → has_fields (more_fields m t (more_fields n u no_fields)) ds ≡ true
    → (a : DocTree) × (b : DocTree) × (ds ≡ more_docs a (more_docs b no_docs))
two_fields m n t u (more_docs a (more_docs b no_docs)) h = (a, b, refl)
two_fields m n t u no_docs h = cc
two_fields m n t u (more_docs a no_docs) h = let e = second (has t a) false h in cc
two_fields m n t u (more_docs a (more_docs b (more_docs c ds))) h =
    let e = second (has u b) false (second (has t a) (has u b && false) h) in cc

-- a document in the middle: a record of the numbers and the texts
pub record HasMiddleItems (x : DocTree) (m : DocTree) : Type 0 where
  pub items : List DocTree
  pub left_is : x ≡ list_doc items
  pub middle_is : m ≡ two_lists (numbers_of items) (texts_of items)
  pub are : AreItems items

-- two fields that are found
both_found : (a b x y : DocTree) → Some a ≡ Some x → Some b ≡ Some y → more_docs a (more_docs b no_docs) ≡ more_docs x (more_docs y no_docs)
both_found a b x y p q = cc

parted : (x : DocTree) (c : CompTree) (m : DocTree) → IsConsistent (form_part item_tags) x c m → HasMiddleItems x m
parted (hold s xs) (tags_comp ts) (rec ms) h =
    let l = list_is s xs h.0.left_has in
    let f = two_fields (codes "o") (codes "p") (ty_list (ty_int (pos 0))) (ty_list (ty_text [])) ms h.0.right_has in
    let gs = sorted (lists_of item_tags) in
    let texts = list_doc (texts_of (doc_list xs)) in
    let numbers = list_doc (numbers_of (doc_list xs)) in
    let p : Some f.1 ≡ Some texts = subst (λ z. content gs z (codes "p") ≡ Some texts) f.2 h.1.1.0 in
    let o : Some f.0 ≡ Some numbers = subst (λ z. content gs z (codes "o") ≡ Some numbers) f.2 h.1.1.1.0 in
    record { items = doc_list xs; left_is = l.0; middle_is = ap rec (f.2 ∙ both_found f.0 f.1 numbers texts o p); are = l.1 }
parted (hold s xs) (tags_comp ts) _ h = absurd h.1
parted (hold s xs) _ _ h = absurd h.1
parted _ _ _ h = absurd h.1

-- the record lens exchanges the two lists
exchanged : (m : DocTree) (c : CompTree) (y : DocTree) (numbers texts : List DocTree) → IsConsistent (form_rec list_rows) m c y → m ≡ two_lists numbers texts
    → y ≡ two_lists texts numbers
exchanged (rec ms) (rec_comp (more_comps c (more_comps d cs))) (rec ys) numbers texts h is =
    let ls = left_fields list_rows in
    let rs = right_fields list_rows in
    let f = two_fields (codes "names") (codes "nums") (ty_list (ty_text [])) (ty_list (ty_int (pos 0))) ys h.0.right_has in
    let ms_is : ms ≡ more_docs (list_doc numbers) (more_docs (list_doc texts) no_docs) = cc in
    let first_row = h.1.0 in
    let second_row = h.1.1.0 in
    let near_o : Some (list_doc numbers) ≡ Some first_row.0 = subst (λ z. content ls z (codes "o") ≡ Some first_row.0) ms_is first_row.2 in
    let near_p : Some (list_doc texts) ≡ Some second_row.0 = subst (λ z. content ls z (codes "p") ≡ Some second_row.0) ms_is second_row.2 in
    let far_o : Some f.1 ≡ Some first_row.1 = subst (λ z. content rs z (codes "nums") ≡ Some first_row.1) f.2 first_row.3 in
    let far_p : Some f.0 ≡ Some second_row.1 = subst (λ z. content rs z (codes "names") ≡ Some second_row.1) f.2 second_row.3 in
    let same_o = lists_same (ty_int (pos 0)) first_row.0 c first_row.1 first_row.4 in
    let same_p = lists_same (ty_text []) second_row.0 d second_row.1 second_row.4 in
    ap rec (f.2 ∙ both_found f.0 f.1 (list_doc texts) (list_doc numbers) (far_p ∙ (ap Some same_p ∙ sym near_p)) (far_o ∙ (ap Some same_o ∙ sym near_o)))
exchanged (rec ms) (rec_comp (more_comps c no_comps)) (rec ys) numbers texts h is = absurd h.1.1
exchanged (rec ms) (rec_comp no_comps) (rec ys) numbers texts h is = absurd h.1
exchanged (rec ms) (rec_comp cs) _ numbers texts h is = absurd h.1
exchanged (rec ms) _ _ numbers texts h is = absurd h.1
exchanged _ _ _ numbers texts h is = absurd h.1

-- the documents of a triple that is in step
pub has_items : (x : DocTree) (c : CompTree) (y : DocTree) → IsConsistent generated_form x c y → HasItems x y
has_items x (then_comp c d) y h =
    let m = parted x c h.1.0 h.1.1 in
    record {
      items = m.items;
      left_is = m.left_is;
      right_is = exchanged h.1.0 d y (numbers_of m.items) (texts_of m.items) h.1.2 m.middle_is;
      are = m.are;
    }
has_items x _ y h = absurd h.1

-- ---- documents that are lists of the same items

pub lists_equal : (xs ys : List DocTree) → list_doc xs ≡ list_doc ys → xs ≡ ys
lists_equal xs ys e = let same : docs_of xs ≡ docs_of ys = cc in sym (doc_list-docs_of xs) ∙ (ap doc_list same ∙ doc_list-docs_of ys)

pub two_lists_equal : (us vs xs ys : List DocTree) → two_lists us xs ≡ two_lists vs ys → (us ≡ vs) × (xs ≡ ys)
two_lists_equal us vs xs ys e =
    let first_one : list_doc us ≡ list_doc vs = cc in
    let second_one : list_doc xs ≡ list_doc ys = cc in
    (lists_equal us vs first_one, lists_equal xs ys second_one)

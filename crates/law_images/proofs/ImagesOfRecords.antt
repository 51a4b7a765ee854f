-- Images through records.
use Rattle.std.proofs.Common.{◌≡◌, ◌∙◌, ℕ, Bool, true, false, List, ◌∷◌, Option, None, Some, option_map, refl, ap, sym, subst}
use Rattle.std.specs.Prelude.{bytes_eq, cond, option_and_then}
use Rattle.texts.specs.declared.side.Side.{Side}
use Rattle.texts.specs.declared.side.Side.TheVariants.{Left, Right}
use Rattle.texts.specs.Sides.{other}
use Rattle.texts.specs.Keys.{is_rising, has_name}
use Rattle.texts.proofs.Conjunction.{first}
use Rattle.doc_values.specs.Documents.{DocTree, unit, truth, int, text, pick, rec, alt, hold, DocTrees}
use Rattle.doc_values.specs.Types.{TyTree, ty_rec, FieldTrees, names_of, are_distinct, is_well_formed, are_well_formed}
use Rattle.doc_values.specs.Typing.{has, has_fields, lookup_type}
use Rattle.doc_values.specs.Initial.{initial}
use Rattle.doc_values.proofs.InitialTypes.{has_initial}
use Rattle.lens_forms.specs.Forms.{FormTree, form_rec, RowTrees, no_rows, both, only_left, only_right, left_type, right_type, left_fields, right_fields}
use Rattle.lens_forms.specs.Typing.{left_names, right_names}
use Rattle.lens_core.specs.Sides.{near, type_on, fields_on, names_on}
use Rattle.lens_core.specs.Complements.{CompTree, nil, then_comp, rec_comp, alt_comp, hold_comp, tags_comp, CompTrees, no_comps, more_comps, FitRows}
use Rattle.lens_core.specs.Consistency.{content, AreRecords, AreConsistentRows}
use Rattle.lens_core.specs.Laws.{IsRelated}
use Rattle.lens_core.proofs.LawsOfLeaves.{differs_back}
use Rattle.lens_core.proofs.NameTests.{not_that}
use Rattle.lens_core.proofs.RecordFields.{with_content, type_on-rec}
use Rattle.lens_core.proofs.RecordRows.{row_type, row_type-is, RowsAre, rows_left, rows_right, rows_keep_near, rows_from_left, rows_from_right, AreApart, head_apart, tail_apart, left_tail_apart, right_tail_apart, head_left, head_right}
use Rattle.law_images.specs.Patterns.{PatternTree, hole, rec_pattern, Matches, MatchEach, HasSome, in_order}
use Rattle.law_images.specs.Image.{image, image_rows, patterns_by_name, named, with_named}
use Rattle.law_images.specs.ImageLaws.{IsImage, IsImageOf, ImageLaw}
use Rattle.law_images.proofs.SidesOfTriples.{near_has}
use Rattle.law_images.proofs.PatternsByName.{Contents, AreLike, AreGood, rising_distinct, match_in_order, like_in_order, like_by_name, match_by_name, good_record, record_of}
use Rattle.std.proofs.lemmas.Option.{same_Some}
use Rattle.texts.proofs.Tests.{or_second, bytes_eq-is}
use Rattle.texts.proofs.KeyOrder.{bytes_eq-refl}

-- ---- one more name

abbrev with_type : List ℕ → TyTree → (List ℕ → Option TyTree) → List ℕ → Option TyTree
with_type n t types k = cond (bytes_eq n k) (Some t) (types k)

-- no name with a type is the name n
abbrev IsNew : List ℕ → (List ℕ → Option TyTree) → Type 0
IsNew n types = (k : List ℕ) (u : TyTree) → types k ≡ Some u → bytes_eq n k ≡ false

content_here : (n : List ℕ) (v : DocTree) (f : Contents) → with_content n v f n ≡ Some v
content_here n v f = rw (bytes_eq-refl n) refl

near_more : (types : List ℕ → Option TyTree) (n : List ℕ) (t : TyTree) (v : DocTree) (at : List ℕ → PatternTree) (f : Contents) → has t v ≡ true → Matches (at n) v → AreGood types at f
    → AreGood (with_type n t types) at (with_content n v f)
near_more types n t v at f h l good k u e = go (bytes_eq n k) refl e
  where
    go : (b : Bool) → bytes_eq n k ≡ b → cond b (Some t) (types k) ≡ Some u → (x : DocTree) × (cond b (Some v) (f k) ≡ Some x) × (has u x ≡ true) × Matches (at k) x
    go true q e = (v, refl, subst (λ z. has z v ≡ true) (same_Some t u e) h, subst (λ z. Matches (at z) v) (bytes_eq-is n k q) l)
    go false q e = good k u e

near_less : (types : List ℕ → Option TyTree) (n : List ℕ) (t : TyTree) (at : List ℕ → PatternTree) (f : Contents) → IsNew n types → AreGood (with_type n t types) at f → AreGood types at f
near_less types n t at f new good k u e = good k u (subst (λ b. cond b (Some t) (types k) ≡ Some u) (sym (new k u e)) e)

far_more : (types : List ℕ → Option TyTree) (n : List ℕ) (t : TyTree) (w : DocTree) (q : PatternTree) (qs : List (List ℕ × PatternTree)) (g : Contents) → has t w ≡ true → Matches q w → AreGood types (named qs) g
    → AreGood (with_type n t types) (named (with_named n q qs)) (with_content n w g)
far_more types n t w q qs g h l good k u e = go (bytes_eq n k) e
  where
    go : (b : Bool) → cond b (Some t) (types k) ≡ Some u → (x : DocTree) × (cond b (Some w) (g k) ≡ Some x) × (has u x ≡ true) × Matches (cond b q (named qs k)) x
    go true e = (w, refl, subst (λ z. has z w ≡ true) (same_Some t u e) h, l)
    go false e = good k u e

far_less : (types : List ℕ → Option TyTree) (n : List ℕ) (t : TyTree) (q : PatternTree) (qs : List (List ℕ × PatternTree)) (g : Contents) → IsNew n types
    → AreGood (with_type n t types) (named (with_named n q qs)) g → AreGood types (named qs) g
far_less types n t q qs g new good k u e =
    let r = good k u (subst (λ b. cond b (Some t) (types k) ≡ Some u) (sym (new k u e)) e) in
    (r.0, r.1, r.2, subst (λ b. Matches (cond b q (named qs k)) r.0) (new k u e) r.3)

far_first : (types : List ℕ → Option TyTree) (n : List ℕ) (t : TyTree) (q : PatternTree) (qs : List (List ℕ × PatternTree)) (g : Contents) → AreGood (with_type n t types) (named (with_named n q qs)) g
    → (w : DocTree) × (g n ≡ Some w) × (has t w ≡ true) × Matches q w
far_first types n t q qs g good =
    let r = good n t (ap (λ b. cond b (Some t) (types n)) (bytes_eq-refl n)) in
    (r.0, r.1, r.2, subst (λ b. Matches (cond b q (named qs n)) r.0) (bytes_eq-refl n) r.3)

near_first : (types : List ℕ → Option TyTree) (n : List ℕ) (t : TyTree) (at : List ℕ → PatternTree) (f : Contents) → AreGood (with_type n t types) at f → (v : DocTree) × (f n ≡ Some v) × (has t v ≡ true) × Matches (at n) v
near_first types n t at f good = good n t (ap (λ b. cond b (Some t) (types n)) (bytes_eq-refl n))

far_into : (n : List ℕ) (q : PatternTree) (qs : List (List ℕ × PatternTree)) (g : Contents) → ((w : DocTree) → g n ≡ Some w → Matches q w) → AreLike (named qs) g → AreLike (named (with_named n q qs)) g
far_into n q qs g here there k w e = go (bytes_eq n k) refl
  where
    go : (b : Bool) → bytes_eq n k ≡ b → Matches (cond b q (named qs k)) w
    go true i = here w (subst (λ z. g z ≡ Some w) (sym (bytes_eq-is n k i)) e)
    go false i = there k w e

-- ---- rows by the types and the relation of their contents

record AreImagesOf (types far_types : List ℕ → Option TyTree) (rel : Contents → Contents → Type 0) (at : List ℕ → PatternTree) (qs : List (List ℕ × PatternTree)) : Type 0 where
  some_docs : (g : Contents) × AreGood far_types (named qs) g
  into : (f g : Contents) → AreLike at f → rel f g → AreLike (named qs) g
  onto : (g : Contents) → AreGood far_types (named qs) g → (f : Contents) × AreGood types at f × rel f g

abbrev AreImages : (List ℕ → Option TyTree) → (List ℕ → Option TyTree) → (Contents → Contents → Type 0) → (List ℕ → PatternTree) → Option (List (List ℕ × PatternTree)) → Type 0
AreImages types far_types rel at None = (f g : Contents) → AreLike at f → rel f g → ⊥
AreImages types far_types rel at (Some qs) = AreImagesOf types far_types rel at qs

-- a relation that asks nothing of the near content at a name
abbrev IsFree : List ℕ → (Contents → Contents → Type 0) → Type 0
IsFree n rel = (v : DocTree) (f g : Contents) → rel f g → rel (with_content n v f) g

-- a near field of one side alone
near_only : (types far_types : List ℕ → Option TyTree) (rel : Contents → Contents → Type 0) (at : List ℕ → PatternTree) (n : List ℕ) (t : TyTree) (f0 : Contents) → IsFree n rel → AreGood (with_type n t types) at f0
    → (o : Option (List (List ℕ × PatternTree))) → AreImages types far_types rel at o → AreImages (with_type n t types) far_types rel at o
near_only types far_types rel at n t f0 free good0 None a = a
near_only types far_types rel at n t f0 free good0 (Some qs) a = record {
  some_docs = a.some_docs;
  into = a.into;
  onto = λ g h.
      let r = a.onto g h in
      let v = near_first types n t at f0 good0 in
      (with_content n v.0 r.0, near_more types n t v.0 at r.0 v.2 v.3 r.1, free v.0 r.0 g r.2);
}

-- a far field of one side alone
far_only : (types far_types : List ℕ → Option TyTree) (rel : Contents → Contents → Type 0) (at : List ℕ → PatternTree) (n : List ℕ) (t : TyTree) → is_well_formed t ≡ true → IsNew n far_types
    → (o : Option (List (List ℕ × PatternTree))) → AreImages types far_types rel at o → AreImages types (with_type n t far_types) rel at (option_map (with_named n hole) o)
far_only types far_types rel at n t wf new None a = a
far_only types far_types rel at n t wf new (Some qs) a = record {
  some_docs = (with_content n (initial t) a.some_docs.0, far_more far_types n t (initial t) hole qs a.some_docs.0 (has_initial t wf) tt a.some_docs.1);
  into = λ f g l h. far_into n hole qs g (λ w e. tt) (a.into f g l h);
  onto = λ g h. a.onto g (far_less far_types n t hole qs g new h);
}

-- the relation with one paired row before it
abbrev WithPair : FormTree → Side → CompTree → List ℕ → List ℕ → (Contents → Contents → Type 0) → Contents → Contents → Type 0
WithPair l s c m n rel f g = ((x : DocTree) × (y : DocTree) × (f m ≡ Some x) × (g n ≡ Some y) × IsRelated l s x c y) × rel f g

pair_some : (types far_types : List ℕ → Option TyTree) (rel : Contents → Contents → Type 0) (at : List ℕ → PatternTree) (l : FormTree) (s : Side) (c : CompTree) (m n : List ℕ) → IsFree m rel → IsNew n far_types
    → (q : PatternTree) → IsImageOf l s c (at m) q → (qs : List (List ℕ × PatternTree)) → AreImagesOf types far_types rel at qs
    → AreImagesOf (with_type m (type_on s l) types) (with_type n (type_on (other s) l) far_types) (WithPair l s c m n rel) at (with_named n q qs)
pair_some types far_types rel at l s c m n free new q one qs a = record {
  some_docs = (with_content n one.some_doc.0 a.some_docs.0, far_more far_types n (type_on (other s) l) one.some_doc.0 q qs a.some_docs.0 one.some_doc.1 one.some_doc.2 a.some_docs.1);
  into = λ f g k h. far_into n q qs g (λ w e. subst (Matches q) (same_Some h.0.1 w (sym h.0.3 ∙ e)) (one.into h.0.0 h.0.1 (k m h.0.0 h.0.2) h.0.4)) (a.into f g k h.1);
  onto = λ g h.
      let w = far_first far_types n (type_on (other s) l) q qs g h in
      let v = one.onto w.0 w.2 w.3 in
      let r = a.onto g (far_less far_types n (type_on (other s) l) q qs g new h) in (
        with_content m v.0 r.0,
        near_more types m (type_on s l) v.0 at r.0 (near_has l s v.0 c w.0 v.2) v.1 r.1,
        ((v.0, w.0, content_here m v.0 r.0, w.1, v.2), free v.0 r.0 g r.2),
      );
}

pair_images : (types far_types : List ℕ → Option TyTree) (rel : Contents → Contents → Type 0) (at : List ℕ → PatternTree) (l : FormTree) (s : Side) (c : CompTree) (m n : List ℕ) → IsFree m rel → IsNew n far_types
    → (o : Option PatternTree) → IsImage l s c (at m) o → (r : Option (List (List ℕ × PatternTree))) → AreImages types far_types rel at r
    → AreImages (with_type m (type_on s l) types) (with_type n (type_on (other s) l) far_types) (WithPair l s c m n rel) at (option_and_then (λ q. option_map (with_named n q) r) o)
pair_images types far_types rel at l s c m n free new None one r a = λ f g k h. one h.0.0 h.0.1 (k m h.0.0 h.0.2) h.0.4
pair_images types far_types rel at l s c m n free new (Some q) one None a = λ f g k h. a f g k h.1
pair_images types far_types rel at l s c m n free new (Some q) one (Some qs) a = pair_some types far_types rel at l s c m n free new q one qs a

-- ---- the rows of a record

-- the lens of each paired row has the law, and the types of one-sided fields are well formed
abbrev pub RowImages : RowTrees → Type 0
RowImages no_rows = Unit {0}
RowImages (both a b l rows) = ImageLaw l × RowImages rows
RowImages (only_left a t rows) = (is_well_formed t ≡ true) × RowImages rows
RowImages (only_right b t rows) = (is_well_formed t ≡ true) × RowImages rows

more_named : (m n : List ℕ) (u : TyTree) (o : Option TyTree) (t : TyTree) (ms : List (List ℕ)) → cond (bytes_eq m n) (Some u) o ≡ Some t → (o ≡ Some t → has_name n ms ≡ true) → has_name n (m ∷ ms) ≡ true
more_named m n u o t ms e rest = go (bytes_eq m n) refl e
  where
    go : (b : Bool) → bytes_eq m n ≡ b → cond b (Some u) o ≡ Some t → has_name n (m ∷ ms) ≡ true
    go true q e = rw (sym (bytes_eq-is m n q), bytes_eq-refl m) refl
    go false q e = or_second (bytes_eq n m) (has_name n ms) (rest e)

-- a name with a type is among the names
row_named : (s : Side) (rows : RowTrees) (n : List ℕ) (t : TyTree) → row_type s rows n ≡ Some t → has_name n (names_on s rows) ≡ true
row_named s no_rows n t e = cc
row_named Left (both a b l rows) n t e = more_named a n (left_type l) (row_type Left rows n) t (left_names rows) e (λ k. row_named Left rows n t k)
row_named Right (both a b l rows) n t e = more_named b n (right_type l) (row_type Right rows n) t (right_names rows) e (λ k. row_named Right rows n t k)
row_named Left (only_left a u rows) n t e = more_named a n u (row_type Left rows n) t (left_names rows) e (λ k. row_named Left rows n t k)
row_named Right (only_left a u rows) n t e = row_named Right rows n t e
row_named Left (only_right b u rows) n t e = row_named Left rows n t e
row_named Right (only_right b u rows) n t e = more_named b n u (row_type Right rows n) t (right_names rows) e (λ k. row_named Right rows n t k)

new_name : (s : Side) (rows : RowTrees) (n : List ℕ) → has_name n (names_on s rows) ≡ false → IsNew n (row_type s rows)
new_name s rows n h k u e = differs_back k n (not_that k n (names_on s rows) h (row_named s rows k u e))

free_name : (s : Side) (rows : RowTrees) (cs : CompTrees) (n : List ℕ) → has_name n (names_on s rows) ≡ false → IsFree n (λ f g. RowsAre s rows f cs g)
free_name s rows cs n h v f g r = rows_keep_near s rows f g cs n v h r

abbrev RowsImaged : RowTrees → Side → CompTrees → (List ℕ → PatternTree) → Type 0
RowsImaged rows s cs at = AreImages (row_type s rows) (row_type (other s) rows) (λ f g. RowsAre s rows f cs g) at (image_rows rows s cs at)

no_rows_imaged : (s : Side) (at : List ℕ → PatternTree) (f : Contents) → RowsImaged no_rows s no_comps at
no_rows_imaged s at f = record {
  some_docs = ((λ n. None), λ n t e. cc);
  into = λ f g l h n w e. tt;
  onto = λ g h. (f, (λ n t e. cc), tt);
}

rows_imaged : (rows : RowTrees) → RowImages rows → (s : Side) (cs : CompTrees) (at : List ℕ → PatternTree) → AreApart s rows → AreApart (other s) rows → FitRows rows cs
    → (f : Contents) → AreGood (row_type s rows) at f → RowsImaged rows s cs at
rows_imaged no_rows laws s no_comps at h k fit f good = no_rows_imaged s at f
rows_imaged no_rows laws s (more_comps c cs) at h k fit f good = absurd fit
rows_imaged (both a b l rows) laws s no_comps at h k fit f good = absurd fit
rows_imaged (both a b l rows) laws Left (more_comps c cs) at h k fit f good =
    let new = new_name Left rows a (head_apart Left a b l rows h) in
    let v = near_first (row_type Left rows) a (type_on Left l) at f good in
    pair_images (row_type Left rows) (row_type Right rows) (λ f g. RowsAre Left rows f cs g) at l Left c a b (free_name Left rows cs a (head_apart Left a b l rows h))
    (new_name Right rows b (head_apart Right a b l rows k)) (image l Left c (at a)) (laws.0 Left c (at a) fit.0 (v.0, v.2, v.3))
    (image_rows rows Left cs at) (rows_imaged rows laws.1 Left cs at (tail_apart Left a b l rows h) (tail_apart Right a b l rows k) fit.1 f (near_less (row_type Left rows) a (type_on Left l) at f new good))
rows_imaged (both a b l rows) laws Right (more_comps c cs) at h k fit f good =
    let new = new_name Right rows b (head_apart Right a b l rows h) in
    let v = near_first (row_type Right rows) b (type_on Right l) at f good in
    pair_images (row_type Right rows) (row_type Left rows) (λ f g. RowsAre Right rows f cs g) at l Right c b a (free_name Right rows cs b (head_apart Right a b l rows h))
    (new_name Left rows a (head_apart Left a b l rows k)) (image l Right c (at b)) (laws.0 Right c (at b) fit.0 (v.0, v.2, v.3))
    (image_rows rows Right cs at) (rows_imaged rows laws.1 Right cs at (tail_apart Right a b l rows h) (tail_apart Left a b l rows k) fit.1 f (near_less (row_type Right rows) b (type_on Right l) at f new good))
rows_imaged (only_left a t rows) laws Left cs at h k fit f good =
    near_only (row_type Left rows) (row_type Right rows) (λ f g. RowsAre Left rows f cs g) at a t f (free_name Left rows cs a (head_left a t rows h)) good (image_rows rows Left cs at)
    (rows_imaged rows laws.1 Left cs at (left_tail_apart Left a t rows h) k fit f (near_less (row_type Left rows) a t at f (new_name Left rows a (head_left a t rows h)) good))
rows_imaged (only_left a t rows) laws Right cs at h k fit f good =
    far_only (row_type Right rows) (row_type Left rows) (λ f g. RowsAre Right rows f cs g) at a t laws.0 (new_name Left rows a (head_left a t rows k)) (image_rows rows Right cs at)
    (rows_imaged rows laws.1 Right cs at h (left_tail_apart Left a t rows k) fit f good)
rows_imaged (only_right b t rows) laws Left cs at h k fit f good =
    far_only (row_type Left rows) (row_type Right rows) (λ f g. RowsAre Left rows f cs g) at b t laws.0 (new_name Right rows b (head_right b t rows k)) (image_rows rows Left cs at)
    (rows_imaged rows laws.1 Left cs at h (right_tail_apart Right b t rows k) fit f good)
rows_imaged (only_right b t rows) laws Right cs at h k fit f good =
    near_only (row_type Right rows) (row_type Left rows) (λ f g. RowsAre Right rows f cs g) at b t f (free_name Right rows cs b (head_right b t rows h)) good (image_rows rows Right cs at)
    (rows_imaged rows laws.1 Right cs at (right_tail_apart Right b t rows h) k fit f (near_less (row_type Right rows) b t at f (new_name Right rows b (head_right b t rows h)) good))

-- ---- whole records

later_type : {A : Type 0} (b : Bool) (t : TyTree) (o : Option TyTree) (u : TyTree) → o ≡ Some u → ((z : TyTree) → cond b (Some t) o ≡ Some z → A) → A
later_type true t o u e k = k t refl
later_type false t o u e k = k u e

-- what the relation of the rows reads, at each name with a type
rows_agree : (s : Side) (rows : RowTrees) (cs : CompTrees) (f f' g : Contents) → ((n : List ℕ) (t : TyTree) → row_type s rows n ≡ Some t → f' n ≡ f n) → RowsAre s rows f cs g → RowsAre s rows f' cs g
rows_agree s no_rows no_comps f f' g same h = tt
rows_agree s no_rows (more_comps c cs) f f' g same h = h
rows_agree s (both a b l rows) no_comps f f' g same h = h
rows_agree s (both a b l rows) (more_comps c cs) f f' g same h = (
  (h.0.0, h.0.1, same (near s a b) (type_on s l) (ap (λ z. cond z (Some (type_on s l)) (row_type s rows (near s a b))) (bytes_eq-refl (near s a b))) ∙ h.0.2, h.0.3, h.0.4),
  rows_agree s rows cs f f' g (λ n t e. later_type (bytes_eq (near s a b) n) (type_on s l) (row_type s rows n) t e (λ u q. same n u q)) h.1,
)
rows_agree Left (only_left a u rows) cs f f' g same h = rows_agree Left rows cs f f' g (λ n t e. later_type (bytes_eq a n) u (row_type Left rows n) t e (λ v q. same n v q)) h
rows_agree Right (only_left a u rows) cs f f' g same h = rows_agree Right rows cs f f' g same h
rows_agree Left (only_right b u rows) cs f f' g same h = rows_agree Left rows cs f f' g same h
rows_agree Right (only_right b u rows) cs f f' g same h = rows_agree Right rows cs f f' g (λ n t e. later_type (bytes_eq b n) u (row_type Right rows n) t e (λ v q. same n v q)) h

good_by : (types others : List ℕ → Option TyTree) (at : List ℕ → PatternTree) (f : Contents) → ((n : List ℕ) → others n ≡ types n) → AreGood types at f → AreGood others at f
good_by types others at f same good n t e = good n t (sym (same n) ∙ e)

-- a triple
record IsRecordTriple (rows : RowTrees) (s : Side) (v : DocTree) (cs : CompTrees) (w : DocTree) : Type 0 where
  ds : DocTrees
  es : DocTrees
  near_is : v ≡ rec ds
  far_is : w ≡ rec es
  far_fields : has_fields (fields_on (other s) rows) es ≡ true
  each : RowsAre s rows (content (fields_on s rows) ds) cs (content (fields_on (other s) rows) es)

records_left : (rows : RowTrees) (v : DocTree) (cs : CompTrees) (w : DocTree) → has (ty_rec (right_fields rows)) w ≡ true
    → AreRecords (λ xs cs ys. AreConsistentRows rows (left_fields rows) xs cs (right_fields rows) ys) v (rec_comp cs) w → IsRecordTriple rows Left v cs w
records_left rows (rec ds) cs (rec es) t h = record { ds = ds; es = es; near_is = refl; far_is = refl; far_fields = t; each = rows_left rows (left_fields rows) ds cs (right_fields rows) es h }
records_left rows v cs w t h = absurd h

records_right : (rows : RowTrees) (v : DocTree) (cs : CompTrees) (w : DocTree) → has (ty_rec (left_fields rows)) v ≡ true
    → AreRecords (λ xs cs ys. AreConsistentRows rows (left_fields rows) xs cs (right_fields rows) ys) v (rec_comp cs) w → IsRecordTriple rows Right w cs v
records_right rows (rec ds) cs (rec es) t h = record { ds = es; es = ds; near_is = refl; far_is = refl; far_fields = t; each = rows_right rows (left_fields rows) ds cs (right_fields rows) es h }
records_right rows v cs w t h = absurd h

record_triple : (rows : RowTrees) (s : Side) (v : DocTree) (cs : CompTrees) (w : DocTree) → IsRelated (form_rec rows) s v (rec_comp cs) w → IsRecordTriple rows s v cs w
record_triple rows Left v cs w h = records_left rows v cs w h.0.right_has h.1
record_triple rows Right v cs w h = records_right rows w cs v h.0.left_has h.1

record_related : (rows : RowTrees) (s : Side) (ds : DocTrees) (cs : CompTrees) (es : DocTrees) → has_fields (fields_on s rows) ds ≡ true → FitRows rows cs → has_fields (fields_on (other s) rows) es ≡ true
    → RowsAre s rows (content (fields_on s rows) ds) cs (content (fields_on (other s) rows) es) → IsRelated (form_rec rows) s (rec ds) (rec_comp cs) (rec es)
record_related rows Left ds cs es a fit b h = (
  record { left_has = a; comp_fits = fit; right_has = b },
  rows_from_left rows (left_fields rows) ds cs (right_fields rows) es (content (left_fields rows) ds) (content (right_fields rows) es) (λ k. refl) (λ k. refl) h,
)
record_related rows Right ds cs es a fit b h = (
  record { left_has = b; comp_fits = fit; right_has = a },
  rows_from_right rows (left_fields rows) es cs (right_fields rows) ds (content (right_fields rows) ds) (content (left_fields rows) es) (λ k. refl) (λ k. refl) h,
)

-- a record of a type of fields
record_doc : (fs : FieldTrees) (v : DocTree) → has (ty_rec fs) v ≡ true → (ds : DocTrees) × (v ≡ rec ds) × (has_fields fs ds ≡ true)
record_doc fs (rec ds) h = (ds, refl, h)
record_doc fs unit h = cc
record_doc fs (truth b) h = cc
record_doc fs (int n) h = cc
record_doc fs (text s) h = cc
record_doc fs (pick n) h = cc
record_doc fs (alt n d) h = cc
record_doc fs (hold s ds) h = cc

module _ (rows : RowTrees) (s : Side) (cs : CompTrees) (p : PatternTree) (ds0 : DocTrees) (near_apart : are_distinct (names_of (fields_on s rows)) ≡ true) (far_apart : are_distinct (names_of (fields_on (other s) rows)) ≡ true)
    (fit : FitRows rows cs) (like0 : Matches p (rec ds0)) (has0 : has_fields (fields_on s rows) ds0 ≡ true) where
  record_onto : (qs : List (List ℕ × PatternTree)) → AreImagesOf (row_type s rows) (row_type (other s) rows) (λ f g. RowsAre s rows f cs g) (patterns_by_name (fields_on s rows) p) qs
      → (es : DocTrees) → has_fields (fields_on (other s) rows) es ≡ true → MatchEach (in_order (fields_on (other s) rows) (named qs)) es → (ds : DocTrees) × Matches p (rec ds) × IsRelated (form_rec rows) s (rec ds) (rec_comp cs) (rec es)
  record_onto qs a es h m =
      let fs = fields_on s rows in
      let gs = fields_on (other s) rows in
      let at = patterns_by_name fs p in
      let good = good_by (lookup_type gs) (row_type (other s) rows) (named qs) (content gs es) (λ n. sym (row_type-is (other s) rows n)) (good_record gs es (named qs) h (like_in_order gs (named qs) es m)) in
      let r = a.onto (content gs es) good in
      let d = record_of fs at r.0 near_apart (good_by (row_type s rows) (lookup_type fs) at r.0 (row_type-is s rows) r.1) in
      let rel = rows_agree s rows cs r.0 (content fs d.docs) (content gs es) (λ n t e. d.agree n t (row_type-is s rows n ∙ e)) r.2 in
      (d.docs, match_by_name fs p ds0 d.docs near_apart like0 has0 d.have d.like, record_related rows s d.docs cs es d.have fit h rel)

  record_given : (o : Option (List (List ℕ × PatternTree))) → AreImages (row_type s rows) (row_type (other s) rows) (λ f g. RowsAre s rows f cs g) (patterns_by_name (fields_on s rows) p) o
      → IsImage (form_rec rows) s (rec_comp cs) p (option_map (λ qs. rec_pattern (in_order (fields_on (other s) rows) (named qs))) o)
  record_given None a = λ v w m h.
      let g = record_triple rows s v cs w h in
      a (content (fields_on s rows) g.ds) (content (fields_on (other s) rows) g.es) (like_by_name (fields_on s rows) p g.ds (subst (Matches p) g.near_is m)) g.each
  record_given (Some qs) a = record {
    some_doc =
        let gs = fields_on (other s) rows in
        let r = record_of gs (named qs) a.some_docs.0 far_apart (good_by (row_type (other s) rows) (lookup_type gs) (named qs) a.some_docs.0 (row_type-is (other s) rows) a.some_docs.1) in
        (rec r.docs, subst (λ t. has t (rec r.docs) ≡ true) (sym (type_on-rec rows (other s))) r.have, (r.docs, refl, match_in_order gs (named qs) r.docs far_apart r.have r.like));
    into = λ v w m h.
        let g = record_triple rows s v cs w h in
        let gs = fields_on (other s) rows in (
          g.es,
          g.far_is,
          match_in_order gs (named qs) g.es far_apart g.far_fields
              (a.into (content (fields_on s rows) g.ds) (content gs g.es) (like_by_name (fields_on s rows) p g.ds (subst (Matches p) g.near_is m)) g.each),
        );
    onto = λ w h m.
        let h' = subst (λ t. has t (rec m.0) ≡ true) (type_on-rec rows (other s)) (subst (λ z. has (type_on (other s) (form_rec rows)) z ≡ true) m.1 h) in
        let r = record_onto qs a m.0 h' m.2 in
        (rec r.0, r.1, subst (λ z. IsRelated (form_rec rows) s (rec r.0) (rec_comp cs) z) (sym m.1) r.2);
  }

record_side : (rows : RowTrees) → RowImages rows → (s : Side) (cs : CompTrees) (p : PatternTree) → AreApart s rows → AreApart (other s) rows → are_distinct (names_of (fields_on s rows)) ≡ true
    → are_distinct (names_of (fields_on (other s) rows)) ≡ true → FitRows rows cs → HasSome (ty_rec (fields_on s rows)) p
    → IsImage (form_rec rows) s (rec_comp cs) p (option_map (λ qs. rec_pattern (in_order (fields_on (other s) rows) (named qs))) (image_rows rows s cs (patterns_by_name (fields_on s rows) p)))
record_side rows laws s cs p h k near_apart far_apart fit some =
    let fs = fields_on s rows in
    let at = patterns_by_name fs p in
    let d = record_doc fs some.0 some.1 in
    let like = subst (Matches p) d.1 some.2 in
    record_given rows s cs p d.0 near_apart far_apart fit like d.2 (image_rows rows s cs at)
    (rows_imaged rows laws s cs at h k fit (content fs d.0) (good_by (lookup_type fs) (row_type s rows) at (content fs d.0) (λ n. sym (row_type-is s rows n)) (good_record fs d.0 at d.2 (like_by_name fs p d.0 like))))

sorted_apart : (fs : FieldTrees) → is_well_formed (ty_rec fs) ≡ true → are_distinct (names_of fs) ≡ true
sorted_apart fs h = rising_distinct (names_of fs) (first (is_rising (names_of fs)) (are_well_formed fs) h)

pub rec_images : (rows : RowTrees) → are_distinct (left_names rows) ≡ true → are_distinct (right_names rows) ≡ true → is_well_formed (ty_rec (left_fields rows)) ≡ true → is_well_formed (ty_rec (right_fields rows)) ≡ true
    → RowImages rows → ImageLaw (form_rec rows)
rec_images rows h k wf wg laws Left (rec_comp cs) p fit some = record_side rows laws Left cs p h k (sorted_apart (left_fields rows) wf) (sorted_apart (right_fields rows) wg) fit some
rec_images rows h k wf wg laws Right (rec_comp cs) p fit some = record_side rows laws Right cs p k h (sorted_apart (right_fields rows) wg) (sorted_apart (left_fields rows) wf) fit some
rec_images rows h k wf wg laws s nil p fit some = absurd fit
rec_images rows h k wf wg laws s (then_comp c d) p fit some = absurd fit
rec_images rows h k wf wg laws s (alt_comp t c) p fit some = absurd fit
rec_images rows h k wf wg laws s (hold_comp r cs) p fit some = absurd fit
rec_images rows h k wf wg laws s (tags_comp ts) p fit some = absurd fit

-- The laws of a record, from those of the lenses of its paired rows.
use Rattle.std.proofs.Common.{◌≡◌, ◌∙◌, inl, inr, ℕ, true, List, Option, Some, option_map, Ok, refl, ap, sym, subst}
use Rattle.std.specs.Prelude.{nat_eq, bytes_eq}
use Rattle.texts.specs.declared.side.Side.{Side}
use Rattle.texts.specs.declared.side.Side.TheVariants.{Left, Right}
use Rattle.texts.specs.Sides.{other}
use Rattle.texts.specs.Keys.{has_name}
use Rattle.doc_values.specs.Documents.{DocTree, rec, DocTrees}
use Rattle.doc_values.specs.Types.{TyTree, ty_rec, is_well_formed}
use Rattle.doc_values.specs.Typing.{has, has_fields}
use Rattle.doc_values.specs.Initial.{initial, initial_fields}
use Rattle.doc_values.proofs.InitialTypes.{has_initial}
use Rattle.edit_module.specs.Words.{PrimitiveTree, at, WordTree, no_primitives}
use Rattle.edit_module.specs.Action.{act, act_primitive, put_at, doc_at}
use Rattle.edit_module.proofs.ActionKeepsTypes.{has_primitive, has_act}
use Rattle.lens_forms.specs.Forms.{FormTree, form_rec, RowTrees, no_rows, both, only_left, only_right, left_type, left_fields, right_type, right_fields, paired_rows}
use Rattle.lens_forms.specs.Typing.{left_names, right_names}
use Rattle.lens_core.specs.Sides.{near, type_on, fields_on, names_on}
use Rattle.lens_core.specs.Emitted.{at_word}
use Rattle.lens_core.specs.Complements.{CompTree, rec_comp, CompTrees, comp_count, missing, missing_rows}
use Rattle.lens_core.specs.Consistency.{IsConsistent, content, AreRecords, AreConsistentRows}
use Rattle.lens_core.specs.Translation.{translate_one, translate_at}
use Rattle.lens_core.specs.Laws.{IsRelated, Carries, Laws}
use Rattle.doc_values.proofs.FieldPlaces.{lookup_type_place}
use Rattle.lens_core.proofs.LawsOfLeaves.{differs_back}
use Rattle.lens_branch.specs.Branches.{RowLaws, IsLawfulRecord}
use Rattle.lens_core.proofs.NameTests.{not_that}
use Rattle.lens_core.proofs.RecordFields.{ActsOnField, acts_on_field, content-found, content-initial, content-put, field_acts, with_content, type_on-rec}
use Rattle.lens_branch.proofs.Triples.{carries_at}
use Rattle.lens_core.proofs.RecordRows.{AreApart, RowsAre, head_apart, head_left, head_right, left_tail_apart, near_name, right_tail_apart, row_type, row_type-is, rows_count, rows_fit, rows_from_left, rows_from_right, rows_left, rows_right, tail_apart}
use Rattle.lens_branch.proofs.RowSteps.{IsAloneStep, IsPairedStep, RowStep, row_step}
use Rattle.std.proofs.lemmas.Option.{same_Some}
use Rattle.texts.proofs.Tests.{or_second}
use Rattle.texts.proofs.KeyOrder.{bytes_eq-refl}

-- ---- the step of a record

record IsRecordTriple (rows : RowTrees) (s : Side) (x : DocTree) (c : CompTree) (y : DocTree) : Type 0 where
  xs : DocTrees
  cs : CompTrees
  ys : DocTrees
  near_is : x ≡ rec xs
  comp_is : c ≡ rec_comp cs
  far_is : y ≡ rec ys
  near_has : has_fields (fields_on s rows) xs ≡ true
  far_has : has_fields (fields_on (other s) rows) ys ≡ true
  related : RowsAre s rows (content (fields_on s rows) xs) cs (content (fields_on (other s) rows) ys)

record AreRecordParts (R : DocTrees → CompTrees → DocTrees → Type 0) (x : DocTree) (c : CompTree) (y : DocTree) : Type 0 where
  xs : DocTrees
  cs : CompTrees
  ys : DocTrees
  near_is : x ≡ rec xs
  comp_is : c ≡ rec_comp cs
  far_is : y ≡ rec ys
  related : R xs cs ys

record_parts : (R : DocTrees → CompTrees → DocTrees → Type 0) (x : DocTree) (c : CompTree) (y : DocTree) → AreRecords R x c y → AreRecordParts R x c y
record_parts R (rec xs) (rec_comp cs) (rec ys) h = record { xs = xs; cs = cs; ys = ys; near_is = refl; comp_is = refl; far_is = refl; related = h }
record_parts R x c y h = absurd h

record_left : (rows : RowTrees) (x : DocTree) (c : CompTree) (y : DocTree) → IsConsistent (form_rec rows) x c y → IsRecordTriple rows Left x c y
record_left rows x c y h =
    let a = record_parts (λ xs cs ys. AreConsistentRows rows (left_fields rows) xs cs (right_fields rows) ys) x c y h.1 in
    record {
      xs = a.xs;
      cs = a.cs;
      ys = a.ys;
      near_is = a.near_is;
      comp_is = a.comp_is;
      far_is = a.far_is;
      near_has = subst (λ z. has (ty_rec (left_fields rows)) z ≡ true) a.near_is h.0.left_has;
      far_has = subst (λ z. has (ty_rec (right_fields rows)) z ≡ true) a.far_is h.0.right_has;
      related = rows_left rows (left_fields rows) a.xs a.cs (right_fields rows) a.ys a.related;
    }

record_right : (rows : RowTrees) (x : DocTree) (c : CompTree) (y : DocTree) → IsConsistent (form_rec rows) x c y → IsRecordTriple rows Right y c x
record_right rows x c y h =
    let a = record_parts (λ xs cs ys. AreConsistentRows rows (left_fields rows) xs cs (right_fields rows) ys) x c y h.1 in
    record {
      xs = a.ys;
      cs = a.cs;
      ys = a.xs;
      near_is = a.far_is;
      comp_is = a.comp_is;
      far_is = a.near_is;
      near_has = subst (λ z. has (ty_rec (right_fields rows)) z ≡ true) a.far_is h.0.right_has;
      far_has = subst (λ z. has (ty_rec (left_fields rows)) z ≡ true) a.near_is h.0.left_has;
      related = rows_right rows (left_fields rows) a.xs a.cs (right_fields rows) a.ys a.related;
    }

record_triple : (rows : RowTrees) (s : Side) (x : DocTree) (c : CompTree) (y : DocTree) → IsRelated (form_rec rows) s x c y → IsRecordTriple rows s x c y
record_triple rows Left x c y h = record_left rows x c y h
record_triple rows Right x c y h = record_right rows y c x h

-- put together again, with contents that are those of the new records
record_related : (rows : RowTrees) (s : Side) (xs : DocTrees) (cs : CompTrees) (ys : DocTrees) (f g : List ℕ → Option DocTree)
    → has_fields (fields_on s rows) xs ≡ true → has_fields (fields_on (other s) rows) ys ≡ true
    → ((k : List ℕ) → content (fields_on s rows) xs k ≡ f k) → ((k : List ℕ) → content (fields_on (other s) rows) ys k ≡ g k) → RowsAre s rows f cs g
    → IsRelated (form_rec rows) s (rec xs) (rec_comp cs) (rec ys)
record_related rows Left xs cs ys f g h k p q r =
    (record { left_has = h; comp_fits = rows_fit Left rows f g cs r; right_has = k }, rows_from_left rows (left_fields rows) xs cs (right_fields rows) ys f g p q r)
record_related rows Right ys cs xs f g h k p q r =
    (record { left_has = k; comp_fits = rows_fit Right rows f g cs r; right_has = h }, rows_from_right rows (left_fields rows) xs cs (right_fields rows) ys f g q p r)

record_translates : (rows : RowTrees) (s : Side) (cs cs' : CompTrees) (f : List ℕ) (u w : WordTree) → nat_eq (comp_count cs) (paired_rows rows) ≡ true → translate_at rows s f u cs ≡ Some (w, cs')
    → translate_one (form_rec rows) s (rec_comp cs) (at f u) ≡ Some (w, rec_comp cs')
record_translates rows s cs cs' f u w h e = rw h (rw e refl)

-- what is carried, from the step of the rows
record Ready (rows : RowTrees) (s : Side) (xs : DocTrees) (cs : CompTrees) (ys : DocTrees) (p : PrimitiveTree) (x' : DocTree) : Type 0 where
  sound : is_well_formed (ty_rec (fields_on (other s) rows)) ≡ true
  near_has : has_fields (fields_on s rows) xs ≡ true
  far_has : has_fields (fields_on (other s) rows) ys ≡ true
  count_is : nat_eq (comp_count cs) (paired_rows rows) ≡ true
  field : ActsOnField (fields_on s rows) xs p x'
  new_has : has (ty_rec (fields_on s rows)) (rec (put_at xs field.place.0 field.content)) ≡ true

paired_carries : (rows : RowTrees) (s : Side) (xs : DocTrees) (cs : CompTrees) (ys : DocTrees) (p : PrimitiveTree) (x' : DocTree) → (r : Ready rows s xs cs ys p x')
    → IsPairedStep s rows (content (fields_on s rows) xs) (content (fields_on (other s) rows) ys) cs r.field.field r.field.word r.field.content
    → Carries (form_rec rows) s (rec (put_at xs r.field.place.0 r.field.content)) (rec ys) (translate_one (form_rec rows) s (rec_comp cs) (at r.field.field r.field.word))
paired_carries rows s xs cs ys p x' r q =
    let k = r.field in
    let fs = fields_on (other s) rows in
    let spot = lookup_type_place fs q.name q.ty (row_type-is (other s) rows q.name ∙ q.typed) in
    let same : doc_at ys spot.0.0 ≡ q.before = same_Some (doc_at ys spot.0.0) q.before (sym (content-found fs ys q.name spot.0 r.far_has spot.1) ∙ q.there) in
    let acts : act spot.0.1 q.word (doc_at ys spot.0.0) ≡ Ok q.behind = subst (λ t. act t q.word (doc_at ys spot.0.0) ≡ Ok q.behind) (sym spot.2) (subst (λ z. act q.ty q.word z ≡ Ok q.behind) (sym same) q.acts) in
    let far_acts = field_acts fs ys q.name q.word spot.0 q.behind spot.1 acts in
    let far_new = has_act (ty_rec fs) (at_word q.name q.word) (rec ys) (rec (put_at ys spot.0.0 q.behind)) r.sound r.far_has far_acts in
    record {
      word = at_word q.name q.word;
      comp = rec_comp q.comps;
      document = rec (put_at ys spot.0.0 q.behind);
      carried = record_translates rows s cs q.comps k.field k.word (at_word q.name q.word) r.count_is q.translated;
      acts = subst (λ t. act t (at_word q.name q.word) (rec ys) ≡ Ok (rec (put_at ys spot.0.0 q.behind))) (sym (type_on-rec rows (other s))) far_acts;
      consistent = record_related rows s (put_at xs k.place.0 k.content) q.comps (put_at ys spot.0.0 q.behind)
          (with_content k.field k.content (content (fields_on s rows) xs)) (with_content q.name q.behind (content fs ys)) r.new_has far_new
          (content-put (fields_on s rows) xs k.field k.place k.content r.near_has k.found) (content-put fs ys q.name spot.0 q.behind r.far_has spot.1) q.related;
    }

alone_carries : (rows : RowTrees) (s : Side) (xs : DocTrees) (cs : CompTrees) (ys : DocTrees) (p : PrimitiveTree) (x' : DocTree) → (r : Ready rows s xs cs ys p x')
    → IsAloneStep s rows (content (fields_on s rows) xs) (content (fields_on (other s) rows) ys) cs r.field.field r.field.word r.field.content
    → Carries (form_rec rows) s (rec (put_at xs r.field.place.0 r.field.content)) (rec ys) (translate_one (form_rec rows) s (rec_comp cs) (at r.field.field r.field.word))
alone_carries rows s xs cs ys p x' r q =
    let k = r.field in record {
      word = no_primitives;
      comp = rec_comp cs;
      document = rec ys;
      carried = record_translates rows s cs cs k.field k.word no_primitives r.count_is q.translated;
      acts = refl;
      consistent = record_related rows s (put_at xs k.place.0 k.content) cs ys
          (with_content k.field k.content (content (fields_on s rows) xs)) (content (fields_on (other s) rows) ys) r.new_has r.far_has
          (content-put (fields_on s rows) xs k.field k.place k.content r.near_has k.found) (λ m. refl) q.related;
    }

step_carries : (rows : RowTrees) (s : Side) (xs : DocTrees) (cs : CompTrees) (ys : DocTrees) (p : PrimitiveTree) (x' : DocTree) → (r : Ready rows s xs cs ys p x')
    → RowStep s rows (content (fields_on s rows) xs) (content (fields_on (other s) rows) ys) cs r.field.field r.field.word r.field.content
    → Carries (form_rec rows) s x' (rec ys) (translate_one (form_rec rows) s (rec_comp cs) p)
step_carries rows s xs cs ys p x' r q =
    subst (λ z. Carries (form_rec rows) s x' (rec ys) (translate_one (form_rec rows) s (rec_comp cs) z)) (sym r.field.is)
    (subst (λ z. Carries (form_rec rows) s z (rec ys) (translate_one (form_rec rows) s (rec_comp cs) (at r.field.field r.field.word))) (sym r.field.result) (chosen q))
  where
    chosen : RowStep s rows (content (fields_on s rows) xs) (content (fields_on (other s) rows) ys) cs r.field.field r.field.word r.field.content
        → Carries (form_rec rows) s (rec (put_at xs r.field.place.0 r.field.content)) (rec ys) (translate_one (form_rec rows) s (rec_comp cs) (at r.field.field r.field.word))
    chosen (inl q) = paired_carries rows s xs cs ys p x' r q
    chosen (inr q) = alone_carries rows s xs cs ys p x' r q

apart_on : (rows : RowTrees) → IsLawfulRecord rows → (s : Side) → AreApart s rows
apart_on rows h Left = h.left_apart
apart_on rows h Right = h.right_apart

sound_on : (rows : RowTrees) → IsLawfulRecord rows → (s : Side) → is_well_formed (ty_rec (fields_on s rows)) ≡ true
sound_on rows h Left = h.left_sound
sound_on rows h Right = h.right_sound

record_step : (rows : RowTrees) → IsLawfulRecord rows → (s : Side) (p : PrimitiveTree) (x : DocTree) (c : CompTree) (y x' : DocTree)
    → IsRelated (form_rec rows) s x c y → act_primitive (type_on s (form_rec rows)) p x ≡ Ok x' → Carries (form_rec rows) s x' y (translate_one (form_rec rows) s c p)
record_step rows h s p x c y x' related e =
    let a = record_triple rows s x c y related in
    let fs = fields_on s rows in
    let acts : act_primitive (ty_rec fs) p (rec a.xs) ≡ Ok x' = subst (λ z. act_primitive (ty_rec fs) p z ≡ Ok x') a.near_is (subst (λ t. act_primitive t p x ≡ Ok x') (type_on-rec rows s) e) in
    let k = acts_on_field fs a.xs p x' acts in
    let new = subst (λ z. has (ty_rec fs) z ≡ true) k.result (has_primitive (ty_rec fs) p (rec a.xs) x' (sound_on rows h s) a.near_has acts) in
    let ready : Ready rows s a.xs a.cs a.ys p x' = record {
      sound = sound_on rows h (other s);
      near_has = a.near_has;
      far_has = a.far_has;
      count_is = rows_count s rows (content fs a.xs) (content (fields_on (other s) rows) a.ys) a.cs a.related;
      field = k;
      new_has = new;
    } in
    let typed = sym (row_type-is s rows k.field) ∙ ap (option_map (λ (f : ℕ × TyTree). f.1)) k.found in
    let step = row_step s rows h.laws (apart_on rows h s) (apart_on rows h (other s)) (content fs a.xs) (content (fields_on (other s) rows) a.ys) a.cs a.related
    k.field k.word (doc_at a.xs k.place.0) k.content k.place.1 (content-found fs a.xs k.field k.place a.near_has k.found) typed k.acts in
    carries_at (form_rec rows) s p x' c (rec_comp a.cs) y (rec a.ys) a.comp_is a.far_is (step_carries rows s a.xs a.cs a.ys p x' ready step)

-- the contents at the names of the rows are the initial ones of their types
abbrev AreInitial : Side → RowTrees → (List ℕ → Option DocTree) → Type 0
AreInitial s rows f = (n : List ℕ) → has_name n (names_on s rows) ≡ true → f n ≡ option_map initial (row_type s rows n)

initial_here : (s : Side) (a b : List ℕ) (l : FormTree) (rows : RowTrees) (f : List ℕ → Option DocTree) → AreInitial s (both a b l rows) f → f (near s a b) ≡ Some (initial (type_on s l))
initial_here s a b l rows f h = h (near s a b) (near_name s a b l rows (near s a b) ∙ rw (bytes_eq-refl (near s a b)) refl) ∙ rw (bytes_eq-refl (near s a b)) refl

initial_later : (s : Side) (a b : List ℕ) (l : FormTree) (rows : RowTrees) (f : List ℕ → Option DocTree) → AreApart s (both a b l rows) → AreInitial s (both a b l rows) f → AreInitial s rows f
initial_later s a b l rows f apart h n e =
    let unlike = differs_back n (near s a b) (not_that n (near s a b) (names_on s rows) (head_apart s a b l rows apart) e) in
    h n (near_name s a b l rows n ∙ or_second (bytes_eq n (near s a b)) (has_name n (names_on s rows)) e) ∙ rw unlike refl

initial_past_left : (s : Side) (a : List ℕ) (t : TyTree) (rows : RowTrees) (f : List ℕ → Option DocTree) → AreApart s (only_left a t rows) → AreInitial s (only_left a t rows) f → AreInitial s rows f
initial_past_left Left a t rows f apart h n e =
    let unlike = differs_back n a (not_that n a (left_names rows) (head_left a t rows apart) e) in h n (or_second (bytes_eq n a) (has_name n (left_names rows)) e) ∙ rw unlike refl
initial_past_left Right a t rows f apart h n e = h n e

initial_past_right : (s : Side) (b : List ℕ) (t : TyTree) (rows : RowTrees) (f : List ℕ → Option DocTree) → AreApart s (only_right b t rows) → AreInitial s (only_right b t rows) f → AreInitial s rows f
initial_past_right Left b t rows f apart h n e = h n e
initial_past_right Right b t rows f apart h n e =
    let unlike = differs_back n b (not_that n b (right_names rows) (head_right b t rows apart) e) in h n (or_second (bytes_eq n b) (has_name n (right_names rows)) e) ∙ rw unlike refl

rows_start : (rows : RowTrees) → RowLaws rows → AreApart Left rows → AreApart Right rows → (f g : List ℕ → Option DocTree) → AreInitial Left rows f → AreInitial Right rows g
    → RowsAre Left rows f (missing_rows rows) g
rows_start no_rows laws p q f g h k = tt
rows_start (both a b l rows) laws p q f g h k = (
  (initial (left_type l), initial (right_type l), initial_here Left a b l rows f h, initial_here Right a b l rows g k, laws.0.starts),
  rows_start rows laws.1 (tail_apart Left a b l rows p) (tail_apart Right a b l rows q) f g (initial_later Left a b l rows f p h) (initial_later Right a b l rows g q k),
)
rows_start (only_left a t rows) laws p q f g h k =
    rows_start rows laws (left_tail_apart Left a t rows p) (left_tail_apart Right a t rows q) f g (initial_past_left Left a t rows f p h) (initial_past_left Right a t rows g q k)
rows_start (only_right b t rows) laws p q f g h k =
    rows_start rows laws (right_tail_apart Left b t rows p) (right_tail_apart Right b t rows q) f g (initial_past_right Left b t rows f p h) (initial_past_right Right b t rows g q k)

initial_fields_are : (s : Side) (rows : RowTrees) → AreInitial s rows (content (fields_on s rows) (initial_fields (fields_on s rows)))
initial_fields_are s rows n e = content-initial (fields_on s rows) n ∙ ap (option_map initial) (row_type-is s rows n)

record_starts : (rows : RowTrees) → IsLawfulRecord rows → IsConsistent (form_rec rows) (initial (left_type (form_rec rows))) (missing (form_rec rows)) (initial (right_type (form_rec rows)))
record_starts rows h =
    let ls = left_fields rows in
    let rs = right_fields rows in
    record_related rows Left (initial_fields ls) (missing_rows rows) (initial_fields rs) (content ls (initial_fields ls)) (content rs (initial_fields rs))
    (has_initial (ty_rec ls) h.left_sound) (has_initial (ty_rec rs) h.right_sound) (λ k. refl) (λ k. refl)
    (rows_start rows h.laws h.left_apart h.right_apart (content ls (initial_fields ls)) (content rs (initial_fields rs)) (initial_fields_are Left rows) (initial_fields_are Right rows))

pub record_laws : (rows : RowTrees) → IsLawfulRecord rows → Laws (form_rec rows)
record_laws rows h = record {
  sound = λ s. subst (λ t. is_well_formed t ≡ true) (sym (type_on-rec rows s)) (sound_on rows h s);
  starts = record_starts rows h;
  step = record_step rows h;
}

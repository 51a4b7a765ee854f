-- A word in one field of a record: what the row of that field translates it to, and what it leaves.
use Rattle.std.proofs.Common.{◌≡◌, ◌⊎◌, ◌∙◌, inl, inr, ℕ, Bool, true, false, List, Option, Some, Ok, refl, ap, sym, subst}
use Rattle.std.specs.Prelude.{bytes_eq, cond}
use Rattle.texts.specs.declared.side.Side.{Side}
use Rattle.texts.specs.declared.side.Side.TheVariants.{Left, Right}
use Rattle.texts.specs.Sides.{other}
use Rattle.texts.specs.Keys.{has_name}
use Rattle.doc_values.specs.Documents.{DocTree}
use Rattle.doc_values.specs.Types.{TyTree}
use Rattle.edit_module.specs.Words.{WordTree, no_primitives}
use Rattle.edit_module.specs.Action.{act}
use Rattle.lens_forms.specs.Forms.{FormTree, RowTrees, no_rows, both, only_left, only_right}
use Rattle.lens_forms.specs.Typing.{left_names, right_names}
use Rattle.lens_core.specs.Sides.{near, far, type_on, names_on}
use Rattle.lens_core.specs.Emitted.{at_word}
use Rattle.lens_core.specs.Complements.{CompTree, CompTrees, no_comps, more_comps}
use Rattle.lens_core.specs.Translation.{translate, translate_at}
use Rattle.lens_core.specs.Laws.{Laws}
use Rattle.lens_core.proofs.LawsOfWords.{edits_carry}
use Rattle.lens_core.proofs.LawsOfLeaves.{differs_back}
use Rattle.lens_branch.specs.Branches.{RowLaws}
use Rattle.lens_core.proofs.NameTests.{not_that}
use Rattle.lens_core.proofs.RecordFields.{with_content}
use Rattle.lens_core.proofs.RecordRows.{AreApart, RowsAre, far_head_apart, far_left_tail, far_name, far_right_tail, far_tail, head_apart, head_left, head_right, keep_there, left_tail_apart, right_tail_apart, row_type, rows_keep_far, rows_keep_near, tail_apart}
use Rattle.std.proofs.lemmas.Option.{same_Some}
use Rattle.texts.proofs.Tests.{or_second, bytes_eq-is}
use Rattle.texts.proofs.KeyOrder.{bytes_eq-refl}

-- ---- a word in one field

-- in a paired row: the word of the far field m, which acts on its content
pub record IsPairedStep (s : Side) (rows : RowTrees) (f g : List ℕ → Option DocTree) (cs : CompTrees) (n : List ℕ) (u : WordTree) (x' : DocTree) : Type 0 where
  pub name : List ℕ
  pub word : WordTree
  pub comps : CompTrees
  pub ty : TyTree
  pub before : DocTree
  pub behind : DocTree
  pub among : has_name name (names_on (other s) rows) ≡ true
  pub typed : row_type (other s) rows name ≡ Some ty
  pub there : g name ≡ Some before
  pub acts : act ty word before ≡ Ok behind
  pub translated : translate_at rows s n u cs ≡ Some (at_word name word, comps)
  pub related : RowsAre s rows (with_content n x' f) comps (with_content name behind g)

-- in a field of the edited side alone: nothing
pub record IsAloneStep (s : Side) (rows : RowTrees) (f g : List ℕ → Option DocTree) (cs : CompTrees) (n : List ℕ) (u : WordTree) (x' : DocTree) : Type 0 where
  pub translated : translate_at rows s n u cs ≡ Some (no_primitives, cs)
  pub related : RowsAre s rows (with_content n x' f) cs g

abbrev pub RowStep : Side → RowTrees → (List ℕ → Option DocTree) → (List ℕ → Option DocTree) → CompTrees → List ℕ → WordTree → DocTree → Type 0
RowStep s rows f g cs n u x' = IsPairedStep s rows f g cs n u x' ⊎ IsAloneStep s rows f g cs n u x'

far_typed : (s : Side) (a b : List ℕ) (l : FormTree) (rows : RowTrees) → row_type (other s) (both a b l rows) (far s a b) ≡ Some (type_on (other s) l)
far_typed Left a b l rows = rw (bytes_eq-refl b) refl
far_typed Right a b l rows = rw (bytes_eq-refl a) refl

far_typed_later : (s : Side) (a b : List ℕ) (l : FormTree) (rows : RowTrees) (m : List ℕ) → bytes_eq (far s a b) m ≡ false → row_type (other s) (both a b l rows) m ≡ row_type (other s) rows m
far_typed_later Left a b l rows m h = rw h refl
far_typed_later Right a b l rows m h = rw h refl

translate_here : (s : Side) (a b : List ℕ) (l : FormTree) (rows : RowTrees) (c : CompTree) (cs : CompTrees) (n : List ℕ) (u w : WordTree) (d : CompTree) → bytes_eq (near s a b) n ≡ true
    → translate l s c u ≡ Some (w, d) → translate_at (both a b l rows) s n u (more_comps c cs) ≡ Some (at_word (far s a b) w, more_comps d cs)
translate_here s a b l rows c cs n u w d h e = rw h (rw e refl)

translate_past : (s : Side) (a b : List ℕ) (l : FormTree) (rows : RowTrees) (c : CompTree) (cs cs' : CompTrees) (n : List ℕ) (u w : WordTree) → bytes_eq (near s a b) n ≡ false
    → translate_at rows s n u cs ≡ Some (w, cs') → translate_at (both a b l rows) s n u (more_comps c cs) ≡ Some (w, more_comps c cs')
translate_past s a b l rows c cs cs' n u w h e = rw h (rw e refl)

put_there : (n k : List ℕ) (v : DocTree) (f : List ℕ → Option DocTree) → bytes_eq n k ≡ true → with_content n v f k ≡ Some v
put_there n k v f h = rw h refl

-- the row is the one with this near name
step_here : (s : Side) (a b : List ℕ) (l : FormTree) (rows : RowTrees) → Laws l → AreApart s (both a b l rows) → AreApart (other s) (both a b l rows)
    → (f g : List ℕ → Option DocTree) (c : CompTree) (cs : CompTrees) → RowsAre s (both a b l rows) f (more_comps c cs) g
    → (n : List ℕ) (u : WordTree) (x x' : DocTree) → bytes_eq (near s a b) n ≡ true → f n ≡ Some x → act (type_on s l) u x ≡ Ok x'
    → IsPairedStep s (both a b l rows) f g (more_comps c cs) n u x'
step_here s a b l rows laws apart far_apart f g c cs h n u x x' is at_n acts =
    let same_name : near s a b ≡ n = bytes_eq-is (near s a b) n is in
    let same : h.0.0 ≡ x = same_Some h.0.0 x (sym h.0.2 ∙ (ap f same_name ∙ at_n)) in
    let r = edits_carry l laws s u h.0.0 c h.0.1 x' h.0.4 (subst (λ z. act (type_on s l) u z ≡ Ok x') (sym same) acts) in
    record {
      name = far s a b;
      word = r.word;
      comps = more_comps r.comp cs;
      ty = type_on (other s) l;
      before = h.0.1;
      behind = r.document;
      among = rw (far_name s a b l rows (far s a b), bytes_eq-refl (far s a b)) refl;
      typed = far_typed s a b l rows;
      there = h.0.3;
      acts = r.acts;
      translated = translate_here s a b l rows c cs n u r.word r.comp is r.carried;
      related = (
        (x', r.document, put_there n (near s a b) x' f (subst (λ z. bytes_eq n z ≡ true) (sym same_name) (bytes_eq-refl n)), put_there (far s a b) (far s a b) r.document g (bytes_eq-refl (far s a b)), r.consistent),
        rows_keep_near s rows f (with_content (far s a b) r.document g) (cs) n x' (subst (λ z. has_name z (names_on s rows) ≡ false) same_name (head_apart s a b l rows apart))
            (rows_keep_far s rows f g cs (far s a b) r.document (far_head_apart s a b l rows far_apart) h.1),
      );
    }

-- the row is passed over
pass_paired : (s : Side) (a b : List ℕ) (l : FormTree) (rows : RowTrees) → AreApart (other s) (both a b l rows)
    → (f g : List ℕ → Option DocTree) (c : CompTree) (cs : CompTrees) → RowsAre s (both a b l rows) f (more_comps c cs) g
    → (n : List ℕ) (u : WordTree) (x' : DocTree) → bytes_eq (near s a b) n ≡ false → IsPairedStep s rows f g cs n u x' → IsPairedStep s (both a b l rows) f g (more_comps c cs) n u x'
pass_paired s a b l rows far_apart f g c cs h n u x' unlike r =
    let apart : bytes_eq r.name (far s a b) ≡ false = not_that r.name (far s a b) (names_on (other s) rows) (far_head_apart s a b l rows far_apart) r.among in
    record {
      name = r.name;
      word = r.word;
      comps = more_comps c r.comps;
      ty = r.ty;
      before = r.before;
      behind = r.behind;
      among = far_name s a b l rows r.name ∙ rw apart r.among;
      typed = far_typed_later s a b l rows r.name (differs_back r.name (far s a b) apart) ∙ r.typed;
      there = r.there;
      acts = r.acts;
      translated = translate_past s a b l rows c cs r.comps n u (at_word r.name r.word) unlike r.translated;
      related = ((h.0.0, h.0.1, keep_there n (near s a b) x' h.0.0 f (differs_back (near s a b) n unlike) h.0.2, keep_there r.name (far s a b) r.behind h.0.1 g apart h.0.3, h.0.4), r.related);
    }

pass_alone : (s : Side) (a b : List ℕ) (l : FormTree) (rows : RowTrees)
    → (f g : List ℕ → Option DocTree) (c : CompTree) (cs : CompTrees) → RowsAre s (both a b l rows) f (more_comps c cs) g
    → (n : List ℕ) (u : WordTree) (x' : DocTree) → bytes_eq (near s a b) n ≡ false → IsAloneStep s rows f g cs n u x' → IsAloneStep s (both a b l rows) f g (more_comps c cs) n u x'
pass_alone s a b l rows f g c cs h n u x' unlike r = record {
  translated = translate_past s a b l rows c cs cs n u no_primitives unlike r.translated;
  related = ((h.0.0, h.0.1, keep_there n (near s a b) x' h.0.0 f (differs_back (near s a b) n unlike) h.0.2, h.0.3, h.0.4), r.related);
}

pass_row : (s : Side) (a b : List ℕ) (l : FormTree) (rows : RowTrees) → AreApart (other s) (both a b l rows)
    → (f g : List ℕ → Option DocTree) (c : CompTree) (cs : CompTrees) → RowsAre s (both a b l rows) f (more_comps c cs) g
    → (n : List ℕ) (u : WordTree) (x' : DocTree) → bytes_eq (near s a b) n ≡ false → RowStep s rows f g cs n u x' → RowStep s (both a b l rows) f g (more_comps c cs) n u x'
pass_row s a b l rows far_apart f g c cs h n u x' unlike (inl r) = inl (pass_paired s a b l rows far_apart f g c cs h n u x' unlike r)
pass_row s a b l rows far_apart f g c cs h n u x' unlike (inr r) = inr (pass_alone s a b l rows f g c cs h n u x' unlike r)

-- what the step of a row of one side alone needs: that row is the field, or it is passed over
alone_here : (s : Side) (rows : RowTrees) (f g : List ℕ → Option DocTree) (cs : CompTrees) (n : List ℕ) (u : WordTree) (x' : DocTree) (row : RowTrees)
    → translate_at row s n u cs ≡ Some (no_primitives, cs) → RowsAre s row (with_content n x' f) cs g → RowStep s row f g cs n u x'
alone_here s rows f g cs n u x' row e h = inr (record { translated = e; related = h })

-- a row of one side alone that is passed over changes nothing of the step of the others
past_left : (s : Side) (a : List ℕ) (t : TyTree) (rows : RowTrees) (f g : List ℕ → Option DocTree) (cs : CompTrees) (n : List ℕ) (u : WordTree) (x' : DocTree)
    → translate_at (only_left a t rows) s n u cs ≡ translate_at rows s n u cs
    → ((m : List ℕ) → has_name m (names_on (other s) rows) ≡ true → has_name m (names_on (other s) (only_left a t rows)) ≡ true)
    → ((m : List ℕ) (y : TyTree) → has_name m (names_on (other s) rows) ≡ true → row_type (other s) rows m ≡ Some y → row_type (other s) (only_left a t rows) m ≡ Some y)
    → RowStep s rows f g cs n u x' → RowStep s (only_left a t rows) f g cs n u x'
past_left s a t rows f g cs n u x' same among typed (inl r) = inl (record {
  name = r.name;
  word = r.word;
  comps = r.comps;
  ty = r.ty;
  before = r.before;
  behind = r.behind;
  among = among r.name r.among;
  typed = typed r.name r.ty r.among r.typed;
  there = r.there;
  acts = r.acts;
  translated = same ∙ r.translated;
  related = r.related;
})
past_left s a t rows f g cs n u x' same among typed (inr r) = inr (record { translated = same ∙ r.translated; related = r.related })

past_right : (s : Side) (b : List ℕ) (t : TyTree) (rows : RowTrees) (f g : List ℕ → Option DocTree) (cs : CompTrees) (n : List ℕ) (u : WordTree) (x' : DocTree)
    → translate_at (only_right b t rows) s n u cs ≡ translate_at rows s n u cs
    → ((m : List ℕ) → has_name m (names_on (other s) rows) ≡ true → has_name m (names_on (other s) (only_right b t rows)) ≡ true)
    → ((m : List ℕ) (y : TyTree) → has_name m (names_on (other s) rows) ≡ true → row_type (other s) rows m ≡ Some y → row_type (other s) (only_right b t rows) m ≡ Some y)
    → RowStep s rows f g cs n u x' → RowStep s (only_right b t rows) f g cs n u x'
past_right s b t rows f g cs n u x' same among typed (inl r) = inl (record {
  name = r.name;
  word = r.word;
  comps = r.comps;
  ty = r.ty;
  before = r.before;
  behind = r.behind;
  among = among r.name r.among;
  typed = typed r.name r.ty r.among r.typed;
  there = r.there;
  acts = r.acts;
  translated = same ∙ r.translated;
  related = r.related;
})
past_right s b t rows f g cs n u x' same among typed (inr r) = inr (record { translated = same ∙ r.translated; related = r.related })

-- behind a name that is no other's, the type is that of the others
type_later : (a n : List ℕ) (ks : List (List ℕ)) (t y : TyTree) (o : Option TyTree) → has_name a ks ≡ false → has_name n ks ≡ true → o ≡ Some y → cond (bytes_eq a n) (Some t) o ≡ Some y
type_later a n ks t y o h e f = rw (differs_back n a (not_that n a ks h e)) f

-- one step, over all rows
abbrev StepOf : Side → RowTrees → Type 0
StepOf s rows = (f g : List ℕ → Option DocTree) (cs : CompTrees) → RowsAre s rows f cs g → (n : List ℕ) (u : WordTree) (x x' : DocTree) (t : TyTree)
    → f n ≡ Some x → row_type s rows n ≡ Some t → act t u x ≡ Ok x' → RowStep s rows f g cs n u x'

both_step : (s : Side) (a b : List ℕ) (l : FormTree) (rows : RowTrees) → Laws l → AreApart s (both a b l rows) → AreApart (other s) (both a b l rows) → StepOf s rows → StepOf s (both a b l rows)
both_step s a b l rows laws apart far_apart again f g no_comps h n u x x' t at_n typed acts = absurd h
both_step s a b l rows laws apart far_apart again f g (more_comps c cs) h n u x x' t at_n typed acts = go (bytes_eq (near s a b) n) refl typed
  where
    go : (q : Bool) → bytes_eq (near s a b) n ≡ q → cond q (Some (type_on s l)) (row_type s rows n) ≡ Some t → RowStep s (both a b l rows) f g (more_comps c cs) n u x'
    go true e k =
        let same : type_on s l ≡ t = cc in
        inl (step_here s a b l rows laws apart far_apart f g c cs h n u x x' e at_n (subst (λ z. act z u x ≡ Ok x') (sym same) acts))
    go false e k = pass_row s a b l rows far_apart f g c cs h n u x' e (again f g cs h.1 n u x x' t at_n k acts)

left_step : (s : Side) (a : List ℕ) (ty : TyTree) (rows : RowTrees) → AreApart s (only_left a ty rows) → AreApart (other s) (only_left a ty rows) → StepOf s rows → StepOf s (only_left a ty rows)
left_step Left a ty rows apart far_apart again f g cs h n u x x' t at_n typed acts = go (bytes_eq a n) refl typed
  where
    go : (q : Bool) → bytes_eq a n ≡ q → cond q (Some ty) (row_type Left rows n) ≡ Some t → RowStep Left (only_left a ty rows) f g cs n u x'
    go true e k =
        alone_here Left rows f g cs n u x' (only_left a ty rows) (rw e refl)
        (rows_keep_near Left rows f g cs n x' (subst (λ z. has_name z (left_names rows) ≡ false) (bytes_eq-is a n e) (head_left a ty rows apart)) h)
    go false e k =
        past_left Left a ty rows f g cs n u x' (rw e refl) (λ m i. i) (λ m y i j. j) (again f g cs h n u x x' t at_n k acts)
left_step Right a ty rows apart far_apart again f g cs h n u x x' t at_n typed acts =
    past_left Right a ty rows f g cs n u x' refl (λ m i. or_second (bytes_eq m a) (has_name m (left_names rows)) i)
    (λ m y i j. type_later a m (left_names rows) ty y (row_type Left rows m) (head_left a ty rows far_apart) i j) (again f g cs h n u x x' t at_n typed acts)

right_step : (s : Side) (b : List ℕ) (ty : TyTree) (rows : RowTrees) → AreApart s (only_right b ty rows) → AreApart (other s) (only_right b ty rows) → StepOf s rows → StepOf s (only_right b ty rows)
right_step Right b ty rows apart far_apart again f g cs h n u x x' t at_n typed acts = go (bytes_eq b n) refl typed
  where
    go : (q : Bool) → bytes_eq b n ≡ q → cond q (Some ty) (row_type Right rows n) ≡ Some t → RowStep Right (only_right b ty rows) f g cs n u x'
    go true e k =
        alone_here Right rows f g cs n u x' (only_right b ty rows) (rw e refl)
        (rows_keep_near Right rows f g cs n x' (subst (λ z. has_name z (right_names rows) ≡ false) (bytes_eq-is b n e) (head_right b ty rows apart)) h)
    go false e k =
        past_right Right b ty rows f g cs n u x' (rw e refl) (λ m i. i) (λ m y i j. j) (again f g cs h n u x x' t at_n k acts)
right_step Left b ty rows apart far_apart again f g cs h n u x x' t at_n typed acts =
    past_right Left b ty rows f g cs n u x' refl (λ m i. or_second (bytes_eq m b) (has_name m (right_names rows)) i)
    (λ m y i j. type_later b m (right_names rows) ty y (row_type Right rows m) (head_right b ty rows far_apart) i j) (again f g cs h n u x x' t at_n typed acts)

no_step : (s : Side) → StepOf s no_rows
no_step s f g cs h n u x x' t at_n typed acts = cc

pub row_step : (s : Side) (rows : RowTrees) → RowLaws rows → AreApart s rows → AreApart (other s) rows → StepOf s rows
row_step s no_rows laws apart far_apart = no_step s
row_step s (both a b l rows) laws apart far_apart =
    both_step s a b l rows laws.0 apart far_apart (row_step s rows laws.1 (tail_apart s a b l rows apart) (far_tail s a b l rows far_apart))
row_step s (only_left a t rows) laws apart far_apart =
    left_step s a t rows apart far_apart (row_step s rows laws (left_tail_apart s a t rows apart) (far_left_tail s a t rows far_apart))
row_step s (only_right b t rows) laws apart far_apart =
    right_step s b t rows apart far_apart (row_step s rows laws (right_tail_apart s b t rows apart) (far_right_tail s b t rows far_apart))

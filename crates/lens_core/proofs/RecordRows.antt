-- The rows of a record, seen from the side that is edited: their names, their types, and the contents that they relate.
use Rattle.std.proofs.Common.{◌≡◌, ◌||◌, ◌+◌, ◌∙◌, ℕ, Bool, true, false, List, Option, None, Some, refl, ap, sym, arith}
use Rattle.std.specs.Prelude.{if◌then◌else◌, nat_eq, bytes_eq, cond, not}
use Rattle.std.proofs.lemmas.Bool.Decides.{nat_tests}
use Rattle.texts.specs.declared.side.Side.{Side}
use Rattle.texts.specs.declared.side.Side.TheVariants.{Left, Right}
use Rattle.texts.specs.Sides.{other}
use Rattle.texts.specs.Keys.{has_name}
use Rattle.texts.proofs.Conjunction.{first, second}
use Rattle.doc_values.specs.Documents.{DocTree, DocTrees}
use Rattle.doc_values.specs.Types.{TyTree, FieldTrees, are_distinct}
use Rattle.doc_values.specs.Typing.{lookup_type}
use Rattle.lens_forms.specs.Forms.{FormTree, RowTrees, no_rows, both, only_left, only_right, left_type, left_fields, right_type, right_fields, paired_rows}
use Rattle.lens_forms.specs.Typing.{left_names, right_names}
use Rattle.lens_core.specs.Sides.{near, far, type_on, fields_on, names_on}
use Rattle.lens_core.specs.Complements.{CompTrees, no_comps, more_comps, comp_count, FitRows}
use Rattle.lens_core.specs.Consistency.{content, AreConsistentRows}
use Rattle.lens_core.specs.Laws.{IsRelated}
use Rattle.lens_core.proofs.NameTests.{or_left}
use Rattle.lens_core.proofs.RecordFields.{lookup_type-insert, with_content}
use Rattle.lens_core.proofs.LawsOfWords.{related_fits}
use Rattle.std.proofs.lemmas.Bool.{not-true}
use Rattle.texts.proofs.Tests.{neither_second}

-- ---- the rows, seen from a side

-- a row of one side alone
abbrev is_side : Side → Side → Bool
is_side Left Left = true
is_side Right Right = true
is_side _ _ = false

-- the type of the first row with a name on a side
abbrev pub row_type : Side → RowTrees → List ℕ → Option TyTree
row_type s no_rows n = None
row_type s (both a b l rows) n = if bytes_eq (near s a b) n then Some (type_on s l) else row_type s rows n
row_type s (only_left a t rows) n = if is_side s Left then (if bytes_eq a n then Some t else row_type s rows n) else row_type s rows n
row_type s (only_right b t rows) n = if is_side s Right then (if bytes_eq b n then Some t else row_type s rows n) else row_type s rows n

pub row_type-is : (s : Side) (rows : RowTrees) (n : List ℕ) → lookup_type (fields_on s rows) n ≡ row_type s rows n
row_type-is Left no_rows n = refl
row_type-is Right no_rows n = refl
row_type-is Left (both a b l rows) n = lookup_type-insert a (left_type l) (left_fields rows) n ∙ ap (λ o. cond (bytes_eq a n) (Some (left_type l)) o) (row_type-is Left rows n)
row_type-is Right (both a b l rows) n = lookup_type-insert b (right_type l) (right_fields rows) n ∙ ap (λ o. cond (bytes_eq b n) (Some (right_type l)) o) (row_type-is Right rows n)
row_type-is Left (only_left a t rows) n = lookup_type-insert a t (left_fields rows) n ∙ ap (λ o. cond (bytes_eq a n) (Some t) o) (row_type-is Left rows n)
row_type-is Right (only_left a t rows) n = row_type-is Right rows n
row_type-is Left (only_right b t rows) n = row_type-is Left rows n
row_type-is Right (only_right b t rows) n = lookup_type-insert b t (right_fields rows) n ∙ ap (λ o. cond (bytes_eq b n) (Some t) o) (row_type-is Right rows n)

-- the rows in records whose fields have these contents, those of the edited side first
abbrev pub RowsAre : Side → RowTrees → (List ℕ → Option DocTree) → CompTrees → (List ℕ → Option DocTree) → Type 0
RowsAre s no_rows f no_comps g = Unit {0}
RowsAre s no_rows f (more_comps c cs) g = ⊥
RowsAre s (both a b l rows) f no_comps g = ⊥
RowsAre s (both a b l rows) f (more_comps c cs) g =
    ((x : DocTree) × (y : DocTree) × (f (near s a b) ≡ Some x) × (g (far s a b) ≡ Some y) × IsRelated l s x c y) × RowsAre s rows f cs g
RowsAre s (only_left a t rows) f cs g = RowsAre s rows f cs g
RowsAre s (only_right b t rows) f cs g = RowsAre s rows f cs g

pub rows_left : (rows : RowTrees) (ls : FieldTrees) (xs : DocTrees) (cs : CompTrees) (rs : FieldTrees) (ys : DocTrees) → AreConsistentRows rows ls xs cs rs ys → RowsAre Left rows (content ls xs) cs (content rs ys)
rows_left no_rows ls xs no_comps rs ys h = tt
rows_left no_rows ls xs (more_comps c cs) rs ys h = h
rows_left (both a b l rows) ls xs no_comps rs ys h = h
rows_left (both a b l rows) ls xs (more_comps c cs) rs ys h = (h.0, rows_left rows ls xs cs rs ys h.1)
rows_left (only_left a t rows) ls xs cs rs ys h = rows_left rows ls xs cs rs ys h
rows_left (only_right b t rows) ls xs cs rs ys h = rows_left rows ls xs cs rs ys h

pub rows_right : (rows : RowTrees) (ls : FieldTrees) (xs : DocTrees) (cs : CompTrees) (rs : FieldTrees) (ys : DocTrees) → AreConsistentRows rows ls xs cs rs ys → RowsAre Right rows (content rs ys) cs (content ls xs)
rows_right no_rows ls xs no_comps rs ys h = tt
rows_right no_rows ls xs (more_comps c cs) rs ys h = h
rows_right (both a b l rows) ls xs no_comps rs ys h = h
rows_right (both a b l rows) ls xs (more_comps c cs) rs ys h = ((h.0.1, h.0.0, h.0.3, h.0.2, h.0.4), rows_right rows ls xs cs rs ys h.1)
rows_right (only_left a t rows) ls xs cs rs ys h = rows_right rows ls xs cs rs ys h
rows_right (only_right b t rows) ls xs cs rs ys h = rows_right rows ls xs cs rs ys h

-- back, where the contents are those of the records
pub rows_from_left : (rows : RowTrees) (ls : FieldTrees) (xs : DocTrees) (cs : CompTrees) (rs : FieldTrees) (ys : DocTrees) (f g : List ℕ → Option DocTree)
    → ((k : List ℕ) → content ls xs k ≡ f k) → ((k : List ℕ) → content rs ys k ≡ g k) → RowsAre Left rows f cs g → AreConsistentRows rows ls xs cs rs ys
rows_from_left no_rows ls xs no_comps rs ys f g p q h = tt
rows_from_left no_rows ls xs (more_comps c cs) rs ys f g p q h = h
rows_from_left (both a b l rows) ls xs no_comps rs ys f g p q h = h
rows_from_left (both a b l rows) ls xs (more_comps c cs) rs ys f g p q h = ((h.0.0, h.0.1, p a ∙ h.0.2, q b ∙ h.0.3, h.0.4), rows_from_left rows ls xs cs rs ys f g p q h.1)
rows_from_left (only_left a t rows) ls xs cs rs ys f g p q h = rows_from_left rows ls xs cs rs ys f g p q h
rows_from_left (only_right b t rows) ls xs cs rs ys f g p q h = rows_from_left rows ls xs cs rs ys f g p q h

pub rows_from_right : (rows : RowTrees) (ls : FieldTrees) (xs : DocTrees) (cs : CompTrees) (rs : FieldTrees) (ys : DocTrees) (f g : List ℕ → Option DocTree)
    → ((k : List ℕ) → content ls xs k ≡ g k) → ((k : List ℕ) → content rs ys k ≡ f k) → RowsAre Right rows f cs g → AreConsistentRows rows ls xs cs rs ys
rows_from_right no_rows ls xs no_comps rs ys f g p q h = tt
rows_from_right no_rows ls xs (more_comps c cs) rs ys f g p q h = h
rows_from_right (both a b l rows) ls xs no_comps rs ys f g p q h = h
rows_from_right (both a b l rows) ls xs (more_comps c cs) rs ys f g p q h = ((h.0.1, h.0.0, p a ∙ h.0.3, q b ∙ h.0.2, h.0.4), rows_from_right rows ls xs cs rs ys f g p q h.1)
rows_from_right (only_left a t rows) ls xs cs rs ys f g p q h = rows_from_right rows ls xs cs rs ys f g p q h
rows_from_right (only_right b t rows) ls xs cs rs ys f g p q h = rows_from_right rows ls xs cs rs ys f g p q h

-- ---- what the rows keep

pub rows_count : (s : Side) (rows : RowTrees) (f g : List ℕ → Option DocTree) (cs : CompTrees) → RowsAre s rows f cs g → nat_eq (comp_count cs) (paired_rows rows) ≡ true
rows_count s no_rows f g no_comps h = refl
rows_count s no_rows f g (more_comps c cs) h = absurd h
rows_count s (both a b l rows) f g no_comps h = absurd h
rows_count s (both a b l rows) f g (more_comps c cs) h = let r = rows_count s rows f g cs h.1 in counts_more (comp_count cs) (paired_rows rows) r
  where
    counts_more : (m n : ℕ) → nat_eq m n ≡ true → nat_eq (m + 1) (n + 1) ≡ true
    counts_more m n e = grind (arith, nat_tests)
rows_count s (only_left a t rows) f g cs h = rows_count s rows f g cs h
rows_count s (only_right b t rows) f g cs h = rows_count s rows f g cs h

pub rows_fit : (s : Side) (rows : RowTrees) (f g : List ℕ → Option DocTree) (cs : CompTrees) → RowsAre s rows f cs g → FitRows rows cs
rows_fit s no_rows f g no_comps h = tt
rows_fit s no_rows f g (more_comps c cs) h = h
rows_fit s (both a b l rows) f g no_comps h = h
rows_fit s (both a b l rows) f g (more_comps c cs) h = (related_fits l s h.0.0 c h.0.1 h.0.4, rows_fit s rows f g cs h.1)
rows_fit s (only_left a t rows) f g cs h = rows_fit s rows f g cs h
rows_fit s (only_right b t rows) f g cs h = rows_fit s rows f g cs h

-- a content exchanged at a name of none of the rows
pub keep_there : (n k : List ℕ) (v x : DocTree) (f : List ℕ → Option DocTree) → bytes_eq n k ≡ false → f k ≡ Some x → with_content n v f k ≡ Some x
keep_there n k v x f e h = rw e h

pub near_name : (s : Side) (a b : List ℕ) (l : FormTree) (rows : RowTrees) (n : List ℕ) → has_name n (names_on s (both a b l rows)) ≡ (bytes_eq n (near s a b) || has_name n (names_on s rows))
near_name Left a b l rows n = refl
near_name Right a b l rows n = refl

pub far_name : (s : Side) (a b : List ℕ) (l : FormTree) (rows : RowTrees) (n : List ℕ) → has_name n (names_on (other s) (both a b l rows)) ≡ (bytes_eq n (far s a b) || has_name n (names_on (other s) rows))
far_name Left a b l rows n = refl
far_name Right a b l rows n = refl

-- a name of none of the rows is none of those behind a row of one side alone
not_behind_left : (s : Side) (a : List ℕ) (t : TyTree) (rows : RowTrees) (n : List ℕ) → has_name n (names_on s (only_left a t rows)) ≡ false → has_name n (names_on s rows) ≡ false
not_behind_left Left a t rows n h = neither_second (bytes_eq n a) (has_name n (left_names rows)) h
not_behind_left Right a t rows n h = h

not_behind_right : (s : Side) (b : List ℕ) (t : TyTree) (rows : RowTrees) (n : List ℕ) → has_name n (names_on s (only_right b t rows)) ≡ false → has_name n (names_on s rows) ≡ false
not_behind_right Left b t rows n h = h
not_behind_right Right b t rows n h = neither_second (bytes_eq n b) (has_name n (right_names rows)) h

pub rows_keep_near : (s : Side) (rows : RowTrees) (f g : List ℕ → Option DocTree) (cs : CompTrees) (n : List ℕ) (v : DocTree) → has_name n (names_on s rows) ≡ false → RowsAre s rows f cs g
    → RowsAre s rows (with_content n v f) cs g
rows_keep_near s no_rows f g no_comps n v e h = tt
rows_keep_near s no_rows f g (more_comps c cs) n v e h = h
rows_keep_near s (both a b l rows) f g no_comps n v e h = h
rows_keep_near s (both a b l rows) f g (more_comps c cs) n v e h =
    let none = sym (near_name s a b l rows n) ∙ e in (
      (h.0.0, h.0.1, keep_there n (near s a b) v h.0.0 f (or_left (bytes_eq n (near s a b)) (has_name n (names_on s rows)) none) h.0.2, h.0.3, h.0.4),
      rows_keep_near s rows f g cs n v (neither_second (bytes_eq n (near s a b)) (has_name n (names_on s rows)) none) h.1,
    )
rows_keep_near s (only_left a t rows) f g cs n v e h = rows_keep_near s rows f g cs n v (not_behind_left s a t rows n e) h
rows_keep_near s (only_right b t rows) f g cs n v e h = rows_keep_near s rows f g cs n v (not_behind_right s b t rows n e) h

pub rows_keep_far : (s : Side) (rows : RowTrees) (f g : List ℕ → Option DocTree) (cs : CompTrees) (n : List ℕ) (v : DocTree) → has_name n (names_on (other s) rows) ≡ false → RowsAre s rows f cs g
    → RowsAre s rows f cs (with_content n v g)
rows_keep_far s no_rows f g no_comps n v e h = tt
rows_keep_far s no_rows f g (more_comps c cs) n v e h = h
rows_keep_far s (both a b l rows) f g no_comps n v e h = h
rows_keep_far s (both a b l rows) f g (more_comps c cs) n v e h =
    let none = sym (far_name s a b l rows n) ∙ e in (
      (h.0.0, h.0.1, h.0.2, keep_there n (far s a b) v h.0.1 g (or_left (bytes_eq n (far s a b)) (has_name n (names_on (other s) rows)) none) h.0.3, h.0.4),
      rows_keep_far s rows f g cs n v (neither_second (bytes_eq n (far s a b)) (has_name n (names_on (other s) rows)) none) h.1,
    )
rows_keep_far s (only_left a t rows) f g cs n v e h = rows_keep_far s rows f g cs n v (not_behind_left (other s) a t rows n e) h
rows_keep_far s (only_right b t rows) f g cs n v e h = rows_keep_far s rows f g cs n v (not_behind_right (other s) b t rows n e) h

-- the names of a side are distinct
abbrev pub AreApart : Side → RowTrees → Type 0
AreApart s rows = are_distinct (names_on s rows) ≡ true

pub head_apart : (s : Side) (a b : List ℕ) (l : FormTree) (rows : RowTrees) → AreApart s (both a b l rows) → has_name (near s a b) (names_on s rows) ≡ false
head_apart Left a b l rows h = not-true (has_name a (left_names rows)) (first (not (has_name a (left_names rows))) (are_distinct (left_names rows)) h)
head_apart Right a b l rows h = not-true (has_name b (right_names rows)) (first (not (has_name b (right_names rows))) (are_distinct (right_names rows)) h)

pub tail_apart : (s : Side) (a b : List ℕ) (l : FormTree) (rows : RowTrees) → AreApart s (both a b l rows) → AreApart s rows
tail_apart Left a b l rows h = second (not (has_name a (left_names rows))) (are_distinct (left_names rows)) h
tail_apart Right a b l rows h = second (not (has_name b (right_names rows))) (are_distinct (right_names rows)) h

pub far_head_apart : (s : Side) (a b : List ℕ) (l : FormTree) (rows : RowTrees) → AreApart (other s) (both a b l rows) → has_name (far s a b) (names_on (other s) rows) ≡ false
far_head_apart Left a b l rows h = head_apart Right a b l rows h
far_head_apart Right a b l rows h = head_apart Left a b l rows h

pub left_tail_apart : (s : Side) (a : List ℕ) (t : TyTree) (rows : RowTrees) → AreApart s (only_left a t rows) → AreApart s rows
left_tail_apart Left a t rows h = second (not (has_name a (left_names rows))) (are_distinct (left_names rows)) h
left_tail_apart Right a t rows h = h

pub right_tail_apart : (s : Side) (b : List ℕ) (t : TyTree) (rows : RowTrees) → AreApart s (only_right b t rows) → AreApart s rows
right_tail_apart Left b t rows h = h
right_tail_apart Right b t rows h = second (not (has_name b (right_names rows))) (are_distinct (right_names rows)) h

pub head_left : (a : List ℕ) (t : TyTree) (rows : RowTrees) → AreApart Left (only_left a t rows) → has_name a (left_names rows) ≡ false
head_left a t rows h = not-true (has_name a (left_names rows)) (first (not (has_name a (left_names rows))) (are_distinct (left_names rows)) h)

pub head_right : (b : List ℕ) (t : TyTree) (rows : RowTrees) → AreApart Right (only_right b t rows) → has_name b (right_names rows) ≡ false
head_right b t rows h = not-true (has_name b (right_names rows)) (first (not (has_name b (right_names rows))) (are_distinct (right_names rows)) h)

pub far_left_tail : (s : Side) (a : List ℕ) (t : TyTree) (rows : RowTrees) → AreApart (other s) (only_left a t rows) → AreApart (other s) rows
far_left_tail Left a t rows h = h
far_left_tail Right a t rows h = left_tail_apart Left a t rows h

pub far_right_tail : (s : Side) (b : List ℕ) (t : TyTree) (rows : RowTrees) → AreApart (other s) (only_right b t rows) → AreApart (other s) rows
far_right_tail Left b t rows h = right_tail_apart Right b t rows h
far_right_tail Right b t rows h = h

pub far_tail : (s : Side) (a b : List ℕ) (l : FormTree) (rows : RowTrees) → AreApart (other s) (both a b l rows) → AreApart (other s) rows
far_tail Left a b l rows h = tail_apart Right a b l rows h
far_tail Right a b l rows h = tail_apart Left a b l rows h

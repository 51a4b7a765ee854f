-- Reading the paired rows of a record: a complement for each, in written order.
use Rattle.std.proofs.Common.{◌≡◌, ◌≢◌, ℕ, zero, suc, ◌+◌, ◌<◌, ◌≤◌, ◌&&◌, true, List, [], ◌∷◌, ◌++◌, map, drop, length, get_or, IsTrue, sym, ap, ap₂, subst, arith}
use Rattle.std.proofs.lemmas.List.{drop_all}
use Rattle.texts.proofs.Conjunction.{first, second}
use Rattle.serde_json.specs.Data.{Data, Items, no_items, item}
use Rattle.serde_json.specs.View.{view, items_view}
use Rattle.serde_json.specs.declared.value.Value.{Value}
use Rattle.doc_values.specs.Types.{ty_tree, is_well_formed}
use Rattle.doc_values.specs.declared.ty.Ty.{Ty}
use Rattle.lens_forms.specs.Forms.{FormTree, form_tree, RowTrees, no_rows, both, row_tree, form_rows_of}
use Rattle.lens_forms.specs.Typing.{is_typed, are_typed_rows}
use Rattle.lens_forms.specs.declared.form.Form.{Form}
use Rattle.lens_forms.specs.declared.form.FormRow.{FormRow}
use Rattle.lens_forms.specs.declared.form.FormRow.TheVariants.{Both, OnlyLeft, OnlyRight}
use Rattle.lens_forms.proofs.TreesOfRows.{rows_from, next_both, next_left, next_right}
use Rattle.lens_core.specs.Complements.{CompTree, CompTrees, no_comps, more_comps, comps_of}
use Rattle.complement_file.specs.ComplementJson.{tree_of_complement, row_items}
use Rattle.complement_file.specs.Reading.{IsComplement, AreRows}
use Rattle.complement_file.proofs.ReadSoFar.{CompsRead, no_comps_yet, next_comp, all_comps, none_left, then_comps}
use Rattle.complement_file.proofs.ReadPlaces.{items_next, items_end}

-- ---- one more paired row

module _ (a b : List ℕ) (l : FormTree) (rows : RowTrees) (d : Data) (ds : Items) where
  row_into : (c : CompTree) → IsComplement l d c → (cs : CompTrees) → AreRows rows ds cs → AreRows (both a b l rows) (item d ds) (more_comps c cs)
  row_into c p cs h = ((p.0, h.0), ap₂ item p.1 h.1)

  row_out : (cs : CompTrees) → AreRows (both a b l rows) (item d ds) cs → (es : CompTrees) × AreRows rows ds es
  row_out no_comps h = absurd h.0
  row_out (more_comps c cs) h =
      let q : item (tree_of_complement l c) (row_items rows cs) ≡ item d ds = h.1 in
      let rest : row_items rows cs ≡ ds = cc in
      (cs, (h.0.1, rest))

  row_refused : ((c : CompTree) → IsComplement l d c → ⊥) → (cs : CompTrees) → AreRows (both a b l rows) (item d ds) cs → ⊥
  row_refused none no_comps h = absurd h.0
  row_refused none (more_comps c cs) h =
      let q : item (tree_of_complement l c) (row_items rows cs) ≡ item d ds = h.1 in
      let this : tree_of_complement l c ≡ d = cc in
      none c (h.0.0, this)

row_missing : (a b : List ℕ) (l : FormTree) (rows : RowTrees) (cs : CompTrees) → AreRows (both a b l rows) no_items cs → ⊥
row_missing a b l rows no_comps h = absurd h.0
row_missing a b l rows (more_comps c cs) h = let q : item (tree_of_complement l c) (row_items rows cs) ≡ no_items = h.1 in cc

-- ---- the rows

-- What has been read: the rows from i on, and the items from n on, are left. The complements that were read are cs.
pub record RowsRead (rows : List FormRow) (vs : List Value) (i n : ℕ) (cs : List CompTree) : Type 0 where
  pub read : CompsRead (AreRows (form_rows_of (map row_tree rows)) (items_view vs)) (AreRows (rows_from rows i) (items_view (drop n vs))) cs
  pub typed : are_typed_rows (rows_from rows i) ≡ true
  pub within : n ≤ length vs

pub rows_at_first : (rows : List FormRow) (vs : List Value) → are_typed_rows (form_rows_of (map row_tree rows)) ≡ true → RowsRead rows vs 0 0 []
rows_at_first rows vs typed = record { read = no_comps_yet (AreRows (form_rows_of (map row_tree rows)) (items_view vs)); typed = typed; within = omega arith }

module _ (rows : List FormRow) (vs : List Value) (i n : ℕ) (cs : List CompTree) (r : FormRow) (a b : List ℕ) (l : Form)
    (h : i < length rows) (is : r ≡ get_or rows i r) (row : r ≡ Both a b l) (so_far : RowsRead rows vs i n cs) where
  both_typed : (is_typed (form_tree l) && are_typed_rows (rows_from rows (i + 1))) ≡ true
  both_typed = subst (λ rs. are_typed_rows rs ≡ true) (next_both rows i r a b l h is row) so_far.typed

  pub lens_typed : IsTrue (is_typed (form_tree l))
  lens_typed = first (is_typed (form_tree l)) _ both_typed

  read_here : (xs : Items) → items_view (drop n vs) ≡ xs
      → CompsRead (AreRows (form_rows_of (map row_tree rows)) (items_view vs)) (AreRows (both a b (form_tree l) (rows_from rows (i + 1))) xs) cs
  read_here xs e =
      subst (λ ys. CompsRead (AreRows (form_rows_of (map row_tree rows)) (items_view vs)) (AreRows (both a b (form_tree l) (rows_from rows (i + 1))) ys) cs) e
      (subst (λ rs. CompsRead (AreRows (form_rows_of (map row_tree rows)) (items_view vs)) (AreRows rs (items_view (drop n vs))) cs) (next_both rows i r a b l h is row) so_far.read)

  pub row_read : (v : Value) (c : CompTree) → n < length vs → v ≡ get_or vs n v → IsComplement (form_tree l) (view v) c → RowsRead rows vs (i + 1) (n + 1) (cs ++ c ∷ [])
  row_read v c within at p =
      let later = rows_from rows (i + 1) in
      let ds = items_view (drop (n + 1) vs) in
      record {
        read =
            next_comp (AreRows (form_rows_of (map row_tree rows)) (items_view vs)) (AreRows (both a b (form_tree l) later) (item (view v) ds)) (AreRows later ds) cs c
            (read_here (item (view v) ds) (items_next vs n v within at))
            (row_into a b (form_tree l) later (view v) ds c p) (row_out a b (form_tree l) later (view v) ds);
        typed = second (is_typed (form_tree l)) _ both_typed;
        within = omega (arith, within);
      }

  pub no_item : length vs ≤ n → (es : CompTrees) → AreRows (form_rows_of (map row_tree rows)) (items_view vs) es → ⊥
  no_item past =
      none_left CompTrees (AreRows (form_rows_of (map row_tree rows)) (items_view vs)) (AreRows (both a b (form_tree l) (rows_from rows (i + 1))) no_items) (then_comps cs)
      (read_here no_items (items_end vs n past)) (row_missing a b (form_tree l) (rows_from rows (i + 1)))

  pub item_refused : (v : Value) → n < length vs → v ≡ get_or vs n v → ((c : CompTree) → IsComplement (form_tree l) (view v) c → ⊥)
      → (es : CompTrees) → AreRows (form_rows_of (map row_tree rows)) (items_view vs) es → ⊥
  item_refused v within at none =
      let later = rows_from rows (i + 1) in
      let ds = items_view (drop (n + 1) vs) in
      none_left CompTrees (AreRows (form_rows_of (map row_tree rows)) (items_view vs)) (AreRows (both a b (form_tree l) later) (item (view v) ds)) (then_comps cs)
      (read_here (item (view v) ds) (items_next vs n v within at)) (row_refused a b (form_tree l) later (view v) ds none)

-- ---- a field of one side alone

pub left_skipped : (rows : List FormRow) (vs : List Value) (i n : ℕ) (cs : List CompTree) (r : FormRow) (a : List ℕ) (t : Ty) → i < length rows → r ≡ get_or rows i r → r ≡ OnlyLeft a t
    → RowsRead rows vs i n cs → RowsRead rows vs (i + 1) n cs
left_skipped rows vs i n cs r a t h is row so_far =
    let e = next_left rows i r a t h is row in
    record {
      read = subst (λ rs. CompsRead (AreRows (form_rows_of (map row_tree rows)) (items_view vs)) (AreRows rs (items_view (drop n vs))) cs) e so_far.read;
      typed = second (is_well_formed (ty_tree t)) _ (subst (λ rs. are_typed_rows rs ≡ true) e so_far.typed);
      within = so_far.within;
    }

pub right_skipped : (rows : List FormRow) (vs : List Value) (i n : ℕ) (cs : List CompTree) (r : FormRow) (b : List ℕ) (t : Ty) → i < length rows → r ≡ get_or rows i r → r ≡ OnlyRight b t
    → RowsRead rows vs i n cs → RowsRead rows vs (i + 1) n cs
right_skipped rows vs i n cs r b t h is row so_far =
    let e = next_right rows i r b t h is row in
    record {
      read = subst (λ rs. CompsRead (AreRows (form_rows_of (map row_tree rows)) (items_view vs)) (AreRows rs (items_view (drop n vs))) cs) e so_far.read;
      typed = second (is_well_formed (ty_tree t)) _ (subst (λ rs. are_typed_rows rs ≡ true) e so_far.typed);
      within = so_far.within;
    }

-- ---- the end

rows_end : (rows : List FormRow) (i : ℕ) → length rows ≤ i → rows_from rows i ≡ no_rows
rows_end rows i past = ap (λ rs. form_rows_of (map row_tree rs)) (drop_all i rows past)

pub all_rows : (rows : List FormRow) (vs : List Value) (i n : ℕ) (cs : List CompTree) → length rows ≤ i → length vs ≤ n → RowsRead rows vs i n cs
    → AreRows (form_rows_of (map row_tree rows)) (items_view vs) (comps_of cs)
all_rows rows vs i n cs past done so_far =
    all_comps (AreRows (form_rows_of (map row_tree rows)) (items_view vs)) (AreRows (rows_from rows i) (items_view (drop n vs))) cs so_far.read
    (subst (λ rs. AreRows rs (items_view (drop n vs)) no_comps) (sym (rows_end rows i past)) (tt, sym (items_end vs n done)))

some_left : (vs : List Value) (n : ℕ) → n < length vs → items_view (drop n vs) ≡ no_items → ⊥
some_left [] n h e = absurd (omega arith)
some_left (v ∷ vs) zero h e = cc
some_left (v ∷ vs) (suc n) h e = some_left vs n (omega arith) e

none_for_more : (xs : Items) → (xs ≡ no_items → ⊥) → (cs : CompTrees) → AreRows no_rows xs cs → ⊥
none_for_more xs some cs h = some (sym h.1)

pub item_left : (rows : List FormRow) (vs : List Value) (i n : ℕ) (cs : List CompTree) → length rows ≤ i → n ≢ length vs → RowsRead rows vs i n cs
    → (es : CompTrees) → AreRows (form_rows_of (map row_tree rows)) (items_view vs) es → ⊥
item_left rows vs i n cs past differ so_far =
    none_left CompTrees (AreRows (form_rows_of (map row_tree rows)) (items_view vs)) (AreRows (rows_from rows i) (items_view (drop n vs))) (then_comps cs) so_far.read
    (subst (λ rs. (es : CompTrees) → AreRows rs (items_view (drop n vs)) es → ⊥) (sym (rows_end rows i past))
    (none_for_more (items_view (drop n vs)) (some_left vs n (omega (arith, so_far.within, differ)))))

-- The far fields of a record: they come in the order of the rows, and each is put at its place.
use Rattle.std.proofs.Common.{◌≡◌, ◌∙◌, ℕ, zero, suc, ◌+◌, ◌<◌, ◌≤◌, Bool, true, false, List, [], ◌∷◌, length, map, drop, drop-cons, get_or, add-one, Option, None, Some, option_map, refl, ap, sym, subst, arith}
use Rattle.std.specs.List.{insert}
use Rattle.std.specs.Prelude.{◌||◌, bytes_eq, not, option_and_then}
use Rattle.std.proofs.lemmas.List.{drop_all}
use Rattle.texts.specs.declared.side.Side.{Side}
use Rattle.texts.specs.declared.side.Side.TheVariants.{Left, Right}
use Rattle.texts.specs.Sides.{other}
use Rattle.texts.specs.Keys.{has_name}
use Rattle.texts.proofs.Conjunction.{first as first_and, second as second_and}
use Rattle.doc_values.specs.Types.{FieldTrees, no_fields, more_fields, names_of, are_distinct}
use Rattle.doc_values.specs.declared.ty.Ty.{Ty}
use Rattle.lens_forms.specs.Forms.{FormTree, form_tree, form_rec, RowTrees, no_rows, both, only_left, only_right, FormRowTree, row_both, row_left, row_right, row_tree, with_form_row, form_rows_of}
use Rattle.lens_forms.specs.declared.form.Form.{Form}
use Rattle.lens_forms.specs.declared.form.FormRow.{FormRow}
use Rattle.lens_forms.specs.declared.form.FormRow.TheVariants.{Both, OnlyLeft, OnlyRight}
use Rattle.lens_forms.proofs.TreesOfRows.{row_tree-both, rows_from, next_both, next_left, next_right}
use Rattle.lens_core.specs.Complements.{nil, rec_comp, CompTrees, no_comps, more_comps, comps_of, comp_list, comp_count}
use Rattle.lens_core.specs.Sides.{near, far, fields_on, names_on}
use Rattle.lens_core.proofs.ComplementTrees.{comps_of-comp_list, comp_count-length}
use Rattle.law_images.specs.Image.{image, image_rows, with_named, named, patterns_by_name}
use Rattle.law_images.specs.Patterns.{PatternTree, hole, rec_pattern, patterns_from, pattern_list, in_order}
use Rattle.law_images.proofs.PatternLists.{patterns_from-pattern_list}
use Rattle.lens_check.specs.ImageParts.{place_among, if_far}
use Rattle.lens_check.specs.ReadyComplements.{IsReady, AreReadyRows}
use Rattle.lens_check.proofs.SortedNames.{insert_name, sort_names, put_names, put_sorted, insert-place, insert-place-name}
use Rattle.lens_check.proofs.FieldPlaces.{fields_on-names}
use Rattle.std.proofs.lemmas.Bool.{not-true}
use Rattle.std.proofs.lemmas.Option.{same_Some}
use Rattle.texts.proofs.Tests.{or_second}
use Rattle.texts.proofs.KeyOrder.{bytes_eq-refl}

-- ---- named patterns put at their places

abbrev pub placed : List (List ℕ × PatternTree) → List (List ℕ) → List PatternTree → List PatternTree
placed [] ns ps = ps
placed (q ∷ qs) ns ps = placed qs (insert ns (place_among q.0 ns) q.0) (insert ps (place_among q.0 ns) q.1)

abbrev pub first_names : List (List ℕ × PatternTree) → List (List ℕ)
first_names [] = []
first_names (q ∷ qs) = q.0 ∷ first_names qs

-- each name has its own pattern
abbrev Agrees : (List ℕ → PatternTree) → List (List ℕ × PatternTree) → Type 0
Agrees at [] = Unit {0}
Agrees at (q ∷ qs) = (at q.0 ≡ q.1) × Agrees at qs

placed_at : (at : List ℕ → PatternTree) (qs : List (List ℕ × PatternTree)) (ns : List (List ℕ)) → Agrees at qs
    → placed qs ns (map at ns) ≡ map at (put_names (first_names qs) ns)
placed_at at [] ns h = refl
placed_at at (q ∷ qs) ns h =
    ap (λ z. placed qs (insert ns (place_among q.0 ns) q.0) (insert (map at ns) (place_among q.0 ns) z)) (sym h.0)
    ∙ ap (λ z. placed qs (insert ns (place_among q.0 ns) q.0) z) (insert-place at q.0 ns)
    ∙ ap (λ z. placed qs z (map at (insert_name q.0 ns))) (insert-place-name q.0 ns)
    ∙ placed_at at qs (insert_name q.0 ns) h.1

agrees_more : (m : List ℕ) (v : PatternTree) (qs rs : List (List ℕ × PatternTree)) → has_name m (first_names rs) ≡ false → Agrees (named qs) rs
    → Agrees (named ((m, v) ∷ qs)) rs
agrees_more m v qs [] h a = tt
agrees_more m v qs (r ∷ rs) h a = go (bytes_eq m r.0) refl h (λ k. agrees_more m v qs rs k a.1)
  where
    go : (b : Bool) → bytes_eq m r.0 ≡ b → (b || has_name m (first_names rs)) ≡ false → (has_name m (first_names rs) ≡ false → Agrees (named ((m, v) ∷ qs)) rs)
        → Agrees (named ((m, v) ∷ qs)) (r ∷ rs)
    go true e k again = cc
    go false e k again = (rw e a.0, again k)

distinct_agrees : (qs : List (List ℕ × PatternTree)) → are_distinct (first_names qs) ≡ true → Agrees (named qs) qs
distinct_agrees [] h = tt
distinct_agrees (q ∷ qs) h = (
  rw (bytes_eq-refl q.0) refl,
  agrees_more q.0 q.1 qs qs (not-true (has_name q.0 (first_names qs)) (first_and (not (has_name q.0 (first_names qs))) (are_distinct (first_names qs)) h))
      (distinct_agrees qs (second_and (not (has_name q.0 (first_names qs))) (are_distinct (first_names qs)) h)),
)

in_order-map : (fs : FieldTrees) (at : List ℕ → PatternTree) → pattern_list (in_order fs at) ≡ map at (names_of fs)
in_order-map no_fields at = refl
in_order-map (more_fields n t fs) at = ap (λ z. at n ∷ z) (in_order-map fs at)

-- ---- the names of the far fields

paired_names : (s : Side) (a b : List ℕ) (l : FormTree) (rows : RowTrees) → names_on (other s) (both a b l rows) ≡ far s a b ∷ names_on (other s) rows
paired_names Left a b l rows = refl
paired_names Right a b l rows = refl

one_more : (n : List ℕ) (q : PatternTree) (o : Option (List (List ℕ × PatternTree))) (ns : List (List ℕ)) (qs : List (List ℕ × PatternTree))
    → option_map (with_named n q) o ≡ Some qs → ((rs : List (List ℕ × PatternTree)) → o ≡ Some rs → first_names rs ≡ ns) → first_names qs ≡ n ∷ ns
one_more n q None ns qs e again = cc
one_more n q (Some rs) ns qs e again = subst (λ z. first_names z ≡ n ∷ ns) (same_Some ((n, q) ∷ rs) qs e) (ap (λ z. n ∷ z) (again rs refl))

rows_named : (rows : RowTrees) (s : Side) (cs : CompTrees) (at : List ℕ → PatternTree) (qs : List (List ℕ × PatternTree)) → image_rows rows s cs at ≡ Some qs
    → first_names qs ≡ names_on (other s) rows
rows_named no_rows Left cs at qs e = subst (λ z. first_names z ≡ []) (same_Some [] qs e) refl
rows_named no_rows Right cs at qs e = subst (λ z. first_names z ≡ []) (same_Some [] qs e) refl
rows_named (both a b l rows) s no_comps at qs e = cc
rows_named (both a b l rows) s (more_comps c cs) at qs e = go (image l s c (at (near s a b))) e (λ rs k. rows_named rows s cs at rs k) ∙ sym (paired_names s a b l rows)
  where
    go : (o : Option PatternTree) → option_and_then (λ q. option_map (with_named (far s a b) q) (image_rows rows s cs at)) o ≡ Some qs
        → ((rs : List (List ℕ × PatternTree)) → image_rows rows s cs at ≡ Some rs → first_names rs ≡ names_on (other s) rows)
        → first_names qs ≡ far s a b ∷ names_on (other s) rows
    go None k again = cc
    go (Some q) k again = one_more (far s a b) q (image_rows rows s cs at) (names_on (other s) rows) qs k again
rows_named (only_left a t rows) Left cs at qs e = rows_named rows Left cs at qs e
rows_named (only_left a t rows) Right cs at qs e = one_more a hole (image_rows rows Right cs at) (names_on Left rows) qs e (λ rs k. rows_named rows Right cs at rs k)
rows_named (only_right b t rows) Left cs at qs e = one_more b hole (image_rows rows Left cs at) (names_on Right rows) qs e (λ rs k. rows_named rows Left cs at rs k)
rows_named (only_right b t rows) Right cs at qs e = rows_named rows Right cs at qs e

-- the patterns put at their places are in the order of the fields
placed_rows : (rows : RowTrees) (s : Side) (cs : CompTrees) (at : List ℕ → PatternTree) (qs : List (List ℕ × PatternTree))
    → are_distinct (names_on (other s) rows) ≡ true → image_rows rows s cs at ≡ Some qs
    → placed qs [] [] ≡ pattern_list (in_order (fields_on (other s) rows) (named qs))
placed_rows rows s cs at qs apart e =
    let names = rows_named rows s cs at qs e in
    placed_at (named qs) qs [] (distinct_agrees qs (subst (λ z. are_distinct z ≡ true) (sym names) apart))
    ∙ ap (map (named qs)) (put_sorted (first_names qs) ∙ ap sort_names names ∙ sym (fields_on-names (other s) rows))
    ∙ sym (in_order-map (fields_on (other s) rows) (named qs))

-- ---- the image of a record, from what the rows gave

record_of : (rows : RowTrees) (s : Side) (cs : CompTrees) (p : PatternTree) (o : Option (List (List ℕ × PatternTree))) → are_distinct (names_on (other s) rows) ≡ true
    → image_rows rows s cs (patterns_by_name (fields_on s rows) p) ≡ o
    → option_map (λ ps. rec_pattern (patterns_from ps)) (option_map (λ qs. placed qs [] []) o) ≡ option_map (λ qs. rec_pattern (in_order (fields_on (other s) rows) (named qs))) o
record_of rows s cs p None apart e = refl
record_of rows s cs p (Some qs) apart e =
    ap (λ z. Some (rec_pattern z))
    (ap patterns_from (placed_rows rows s cs (patterns_by_name (fields_on s rows) p) qs apart e) ∙ patterns_from-pattern_list (in_order (fields_on (other s) rows) (named qs)))

pub record_is : (rows : RowTrees) (s : Side) (cs : CompTrees) (p : PatternTree) → are_distinct (names_on (other s) rows) ≡ true
    → option_map (λ ps. rec_pattern (patterns_from ps)) (option_map (λ qs. placed qs [] []) (image_rows rows s cs (patterns_by_name (fields_on s rows) p)))
    ≡ image (form_rec rows) s (rec_comp cs) p
record_is rows s cs p apart = record_of rows s cs p (image_rows rows s cs (patterns_by_name (fields_on s rows) p)) apart refl

-- ---- the rows one after the other

-- the complements from one on
abbrev pub comps_from : CompTrees → ℕ → CompTrees
comps_from cs k = comps_of (drop k (comp_list cs))

-- the patterns of the record, where those of the rows before are at their places
abbrev pub still_placed : List FormRow → Side → CompTrees → (List ℕ → PatternTree) → ℕ → ℕ → List (List ℕ) → List PatternTree → Option (List PatternTree)
still_placed rows s cs at i k ns ps = option_map (λ qs. placed qs ns ps) (image_rows (rows_from rows i) s (comps_from cs k) at)

pub comps_next : (cs : CompTrees) (k : ℕ) → k < comp_count cs → comps_from cs k ≡ more_comps (get_or (comp_list cs) k nil) (comps_from cs (k + 1))
comps_next cs k h = rw (drop-cons (comp_list cs) k nil (omega (arith, comp_count-length cs)), add-one) refl

pub comps_past : (cs : CompTrees) (k : ℕ) → comp_count cs ≤ k → comps_from cs k ≡ no_comps
comps_past cs k h = rw (drop_all k (comp_list cs) (omega (arith, comp_count-length cs))) refl

put_first : (n : List ℕ) (q : PatternTree) (o : Option (List (List ℕ × PatternTree))) (ns : List (List ℕ)) (ps : List PatternTree)
    → option_map (λ qs. placed qs ns ps) (option_map (with_named n q) o) ≡ option_map (λ qs. placed qs (insert ns (place_among n ns) n) (insert ps (place_among n ns) q)) o
put_first n q None ns ps = refl
put_first n q (Some qs) ns ps = refl

-- a paired row has an image
pub placed_both : (rows : List FormRow) (s : Side) (cs : CompTrees) (at : List ℕ → PatternTree) (i k : ℕ) (ns : List (List ℕ)) (ps : List PatternTree)
    (r : FormRow) (a b : List ℕ) (l : Form) (q : PatternTree)
    → i < length rows → r ≡ get_or rows i r → r ≡ Both a b l → k < comp_count cs → image (form_tree l) s (get_or (comp_list cs) k nil) (at (near s a b)) ≡ Some q
    → still_placed rows s cs at i k ns ps
    ≡ still_placed rows s cs at (i + 1) (k + 1) (insert ns (place_among (far s a b) ns) (far s a b)) (insert ps (place_among (far s a b) ns) q)
placed_both rows s cs at i k ns ps r a b l q h is row small e =
    rw (next_both rows i r a b l h is row, comps_next cs k small, e) (put_first (far s a b) q (image_rows (rows_from rows (i + 1)) s (comps_from cs (k + 1)) at) ns ps)

-- it has none, or there is no complement for it
pub placed_none : (rows : List FormRow) (s : Side) (cs : CompTrees) (at : List ℕ → PatternTree) (i k : ℕ) (ns : List (List ℕ)) (ps : List PatternTree)
    (r : FormRow) (a b : List ℕ) (l : Form)
    → i < length rows → r ≡ get_or rows i r → r ≡ Both a b l → k < comp_count cs → image (form_tree l) s (get_or (comp_list cs) k nil) (at (near s a b)) ≡ None
    → still_placed rows s cs at i k ns ps ≡ None
placed_none rows s cs at i k ns ps r a b l h is row small e = rw (next_both rows i r a b l h is row, comps_next cs k small, e) refl

pub placed_short : (rows : List FormRow) (s : Side) (cs : CompTrees) (at : List ℕ → PatternTree) (i k : ℕ) (ns : List (List ℕ)) (ps : List PatternTree)
    (r : FormRow) (a b : List ℕ) (l : Form)
    → i < length rows → r ≡ get_or rows i r → r ≡ Both a b l → comp_count cs ≤ k → still_placed rows s cs at i k ns ps ≡ None
placed_short rows s cs at i k ns ps r a b l h is row large = rw (next_both rows i r a b l h is row, comps_past cs k large) refl

-- a field of one side alone
pub placed_left : (rows : List FormRow) (s : Side) (cs : CompTrees) (at : List ℕ → PatternTree) (i k : ℕ) (ns : List (List ℕ)) (ps : List PatternTree)
    (r : FormRow) (a : List ℕ) (t : Ty) → i < length rows → r ≡ get_or rows i r → r ≡ OnlyLeft a t
    → still_placed rows s cs at i k ns ps
    ≡ still_placed rows s cs at (i + 1) k (if_far Left s (insert ns (place_among a ns) a) ns) (if_far Left s (insert ps (place_among a ns) hole) ps)
placed_left rows Left cs at i k ns ps r a t h is row = rw (next_left rows i r a t h is row) refl
placed_left rows Right cs at i k ns ps r a t h is row =
    rw (next_left rows i r a t h is row) (put_first a hole (image_rows (rows_from rows (i + 1)) Right (comps_from cs k) at) ns ps)

pub placed_right : (rows : List FormRow) (s : Side) (cs : CompTrees) (at : List ℕ → PatternTree) (i k : ℕ) (ns : List (List ℕ)) (ps : List PatternTree)
    (r : FormRow) (b : List ℕ) (t : Ty) → i < length rows → r ≡ get_or rows i r → r ≡ OnlyRight b t
    → still_placed rows s cs at i k ns ps
    ≡ still_placed rows s cs at (i + 1) k (if_far Right s (insert ns (place_among b ns) b) ns) (if_far Right s (insert ps (place_among b ns) hole) ps)
placed_right rows Left cs at i k ns ps r b t h is row =
    rw (next_right rows i r b t h is row) (put_first b hole (image_rows (rows_from rows (i + 1)) Left (comps_from cs k) at) ns ps)
placed_right rows Right cs at i k ns ps r b t h is row = rw (next_right rows i r b t h is row) refl

-- after the last row
pub placed_end : (rows : List FormRow) (s : Side) (cs : CompTrees) (at : List ℕ → PatternTree) (i k : ℕ) (ns : List (List ℕ)) (ps : List PatternTree)
    → length rows ≤ i → still_placed rows s cs at i k ns ps ≡ Some ps
placed_end rows s cs at i k ns ps h = rw (drop_all i rows h) refl

-- before the first one
pub placed_start : (rows : List FormRow) (s : Side) (cs : CompTrees) (at : List ℕ → PatternTree)
    → still_placed rows s cs at 0 0 [] [] ≡ option_map (λ qs. placed qs [] []) (image_rows (form_rows_of (map row_tree rows)) s cs at)
placed_start rows s cs at = rw (comps_of-comp_list cs) refl

-- ---- what is ready from one row on

pub ready_both : (rows : List FormRow) (cs : CompTrees) (i k : ℕ) (r : FormRow) (a b : List ℕ) (l : Form) → i < length rows → r ≡ get_or rows i r → r ≡ Both a b l
    → k < comp_count cs → AreReadyRows (rows_from rows i) (comps_from cs k)
    → IsReady (form_tree l) (get_or (comp_list cs) k nil) × AreReadyRows (rows_from rows (i + 1)) (comps_from cs (k + 1))
ready_both rows cs i k r a b l h is row small ready =
    let here : AreReadyRows (both a b (form_tree l) (rows_from rows (i + 1))) (comps_from cs k) = subst (λ z. AreReadyRows z (comps_from cs k)) (next_both rows i r a b l h is row) ready in
    subst (λ z. AreReadyRows (both a b (form_tree l) (rows_from rows (i + 1))) z) (comps_next cs k small) here

pub ready_left : (rows : List FormRow) (cs : CompTrees) (i : ℕ) (r : FormRow) (a : List ℕ) (t : Ty) → i < length rows → r ≡ get_or rows i r → r ≡ OnlyLeft a t
    → AreReadyRows (rows_from rows i) cs → AreReadyRows (rows_from rows (i + 1)) cs
ready_left rows cs i r a t h is row ready = subst (λ z. AreReadyRows z cs) (next_left rows i r a t h is row) ready

pub ready_right : (rows : List FormRow) (cs : CompTrees) (i : ℕ) (r : FormRow) (b : List ℕ) (t : Ty) → i < length rows → r ≡ get_or rows i r → r ≡ OnlyRight b t
    → AreReadyRows (rows_from rows i) cs → AreReadyRows (rows_from rows (i + 1)) cs
ready_right rows cs i r b t h is row ready = subst (λ z. AreReadyRows z cs) (next_right rows i r b t h is row) ready

-- ---- the near field of a paired row is one of its side

first_has : (s : Side) (a b : List ℕ) (l : FormTree) (rows : RowTrees) → has_name (near s a b) (names_on s (both a b l rows)) ≡ true
first_has Left a b l rows = rw (bytes_eq-refl a) refl
first_has Right a b l rows = rw (bytes_eq-refl b) refl

later_has : (s : Side) (n : List ℕ) (r : FormRowTree) (rows : RowTrees) → has_name n (names_on s rows) ≡ true → has_name n (names_on s (with_form_row r rows)) ≡ true
later_has Left n (row_both a b l) rows h = or_second (bytes_eq n a) (has_name n (names_on Left rows)) h
later_has Left n (row_left a t) rows h = or_second (bytes_eq n a) (has_name n (names_on Left rows)) h
later_has Left n (row_right b t) rows h = h
later_has Right n (row_both a b l) rows h = or_second (bytes_eq n b) (has_name n (names_on Right rows)) h
later_has Right n (row_left a t) rows h = h
later_has Right n (row_right b t) rows h = or_second (bytes_eq n b) (has_name n (names_on Right rows)) h

pub near_among : (rows : List FormRow) (s : Side) (i : ℕ) (r : FormRow) (a b : List ℕ) (l : Form) → i < length rows → r ≡ get_or rows i r → r ≡ Both a b l
    → has_name (near s a b) (names_on s (form_rows_of (map row_tree rows))) ≡ true
near_among [] s i r a b l h is row = absurd (omega arith)
near_among (q ∷ rows) s zero r a b l h is row = subst (λ z. has_name (near s a b) (names_on s (with_form_row z (form_rows_of (map row_tree rows)))) ≡ true) (sym (ap row_tree (sym is ∙ row) ∙ row_tree-both a b l)) (first_has s a b (form_tree l) (form_rows_of (map row_tree rows)))
near_among (q ∷ rows) s (suc i) r a b l h is row = later_has s (near s a b) (row_tree q) (form_rows_of (map row_tree rows)) (near_among rows s i r a b l (omega arith) is row)

-- The translation of a record is its beginning, the translation of the lens inside, and its finish.
use Rattle.std.proofs.Common.{◌≡◌, ℕ, suc, ◌+◌, Bool, true, false, List, [], ◌∷◌, Option, None, Some, option_map, refl, ap, sym, ◌∙◌, subst, arith, add-one}
use Rattle.std.specs.Prelude.{option_and_then, nat_eq, bytes_eq, cond}
use Rattle.texts.specs.declared.side.Side.{Side}
use Rattle.texts.specs.declared.side.Side.TheVariants.{Left, Right}
use Rattle.edit_module.specs.Words.{PrimitiveTree, set as set_to, add, splice, at, stay, switch, modify, shape, WordTree, no_primitives}
use Rattle.lens_forms.specs.Forms.{FormTree, form_rec, RowTrees, no_rows, both, only_left, only_right, FormRowTree, row_both, row_left, row_right, form_row_list, paired_rows}
use Rattle.lens_core.specs.Sides.{near, far}
use Rattle.lens_core.specs.Emitted.{at_word}
use Rattle.lens_core.specs.Complements.{CompTree, rec_comp, CompTrees, no_comps, more_comps, comp_count}
use Rattle.lens_core.specs.Translation.{Translated, translate_one, translate, translate_at, in_row, past_row, in_record, comp_at, put_comp}
use Rattle.lens_core.proofs.ComplementTrees.{comps_of-comp_list}
use Rattle.lens_core.specs.Beginnings.{inside, carried_on}
use Rattle.lens_branch.specs.RecordSteps.{has_near, pairs_of, RowAt, row_behind, row_of, begin_row, begin_in, begin_record, finish_row, finish_in, finish_record, row_lens, row_translation}
use Rattle.std.proofs.lemmas.Bool.{eqb-true}

-- ---- what the row of a field translates

-- At of the far field, and the new complement in its place among all
abbrev put_in : List ℕ → CompTrees → ℕ → Translated → WordTree × CompTrees
put_in f cs k r = (at_word f r.0, put_comp cs k r.1)

abbrev row_word : Side → CompTrees → WordTree → ℕ → FormRowTree → Option (WordTree × CompTrees)
row_word side cs u k (row_both a b l) = option_map (put_in (far side a b) cs k) (translate l side (comp_at cs k) u)
row_word side cs u k (row_left a t) = Some (no_primitives, cs)
row_word side cs u k (row_right b t) = Some (no_primitives, cs)

abbrev found_word : Side → CompTrees → WordTree → RowAt → Option (WordTree × CompTrees)
found_word side cs u q = row_word side cs u q.pairs q.row

put_first : (f : List ℕ) (c : CompTree) (cs : CompTrees) (o : Option Translated) → option_map (in_row f cs) o ≡ option_map (put_in f (more_comps c cs) 0) o
put_first f c cs None = refl
put_first f c cs (Some r) = ap (λ z. Some (at_word f r.0, more_comps r.1 z)) (sym (comps_of-comp_list cs))

put_later : (f : List ℕ) (c : CompTree) (cs : CompTrees) (k : ℕ) (o : Option Translated)
    → option_map (past_row c) (option_map (put_in f cs k) o) ≡ option_map (put_in f (more_comps c cs) (suc k)) o
put_later f c cs k None = refl
put_later f c cs k (Some r) = refl

-- behind a paired row the complements begin with that row's
word_behind : (side : Side) (c : CompTree) (cs : CompTrees) (u : WordTree) (k : ℕ) (r : FormRowTree)
    → option_map (past_row c) (row_word side cs u k r) ≡ row_word side (more_comps c cs) u (k + 1) r
word_behind side c cs u k (row_both a b l) = rw add-one (put_later (far side a b) c cs k (translate l side (comp_at cs k) u))
word_behind side c cs u k (row_left a t) = refl
word_behind side c cs u k (row_right b t) = refl

behind_paired : (side : Side) (c : CompTree) (cs : CompTrees) (u : WordTree) (o : Option RowAt)
    → option_map (past_row c) (option_and_then (found_word side cs u) o) ≡ option_and_then (found_word side (more_comps c cs) u) (option_map (row_behind 1) o)
behind_paired side c cs u None = refl
behind_paired side c cs u (Some q) = word_behind side c cs u q.pairs q.row

nothing_more : (k : ℕ) → k ≡ k + 0
nothing_more k = omega arith

behind_alone : (side : Side) (cs : CompTrees) (u : WordTree) (o : Option RowAt)
    → option_and_then (found_word side cs u) o ≡ option_and_then (found_word side cs u) (option_map (row_behind 0) o)
behind_alone side cs u None = refl
behind_alone side cs u (Some q) = ap (λ k. row_word side cs u k q.row) (nothing_more q.pairs)

one_less : (m n : ℕ) → m + 1 ≡ n + 1 → m ≡ n
one_less m n e = omega arith

rows_translate : (side : Side) (f : List ℕ) (u : WordTree) (rows : RowTrees) (cs : CompTrees) → comp_count cs ≡ paired_rows rows
    → translate_at rows side f u cs ≡ option_and_then (found_word side cs u) (row_of (form_row_list rows) side f)
rows_translate side f u no_rows cs e = refl
rows_translate side f u (both a b l rows) no_comps e = absurd (omega arith)
rows_translate side f u (both a b l rows) (more_comps c cs) e =
    go (bytes_eq (near side a b) f) (rows_translate side f u rows cs (one_less (comp_count cs) (paired_rows rows) e))
  where
    go : (q : Bool) → translate_at rows side f u cs ≡ option_and_then (found_word side cs u) (row_of (form_row_list rows) side f)
        → cond q (option_map (in_row (far side a b) cs) (translate l side c u)) (option_map (past_row c) (translate_at rows side f u cs))
        ≡ option_and_then (found_word side (more_comps c cs) u) (cond q (Some (record { pairs = 0; row = row_both a b l })) (option_map (row_behind 1) (row_of (form_row_list rows) side f)))
    go true again = put_first (far side a b) c cs (translate l side c u)
    go false again = ap (option_map (past_row c)) again ∙ behind_paired side c cs u (row_of (form_row_list rows) side f)
rows_translate Left f u (only_left a t rows) cs e = go (bytes_eq a f) (rows_translate Left f u rows cs e)
  where
    go : (q : Bool) → translate_at rows Left f u cs ≡ option_and_then (found_word Left cs u) (row_of (form_row_list rows) Left f)
        → cond q (Some (no_primitives, cs)) (translate_at rows Left f u cs)
        ≡ option_and_then (found_word Left cs u) (cond q (Some (record { pairs = 0; row = row_left a t })) (option_map (row_behind 0) (row_of (form_row_list rows) Left f)))
    go true again = refl
    go false again = again ∙ behind_alone Left cs u (row_of (form_row_list rows) Left f)
rows_translate Right f u (only_left a t rows) cs e = rows_translate Right f u rows cs e ∙ behind_alone Right cs u (row_of (form_row_list rows) Right f)
rows_translate Left f u (only_right b t rows) cs e = rows_translate Left f u rows cs e ∙ behind_alone Left cs u (row_of (form_row_list rows) Left f)
rows_translate Right f u (only_right b t rows) cs e = go (bytes_eq b f) (rows_translate Right f u rows cs e)
  where
    go : (q : Bool) → translate_at rows Right f u cs ≡ option_and_then (found_word Right cs u) (row_of (form_row_list rows) Right f)
        → cond q (Some (no_primitives, cs)) (translate_at rows Right f u cs)
        ≡ option_and_then (found_word Right cs u) (cond q (Some (record { pairs = 0; row = row_right b t })) (option_map (row_behind 0) (row_of (form_row_list rows) Right f)))
    go true again = refl
    go false again = again ∙ behind_alone Right cs u (row_of (form_row_list rows) Right f)

-- ---- the lens of the row of a field

-- if the row is paired, its lens has the number of the paired rows before it
abbrev HasLens : List FormRowTree → ℕ → FormRowTree → Type 0
HasLens rows k r = (a b : List ℕ) (l : FormTree) → r ≡ row_both a b l → row_lens rows k ≡ Some l

lens_first : (r : FormRowTree) (rows : List FormRowTree) → HasLens (r ∷ rows) 0 r
lens_first r rows a b l e = rw e refl

lens_later : (r : FormRowTree) (rows : List FormRowTree) (k : ℕ) → row_lens (r ∷ rows) (k + pairs_of r) ≡ row_lens rows k
lens_later (row_both a b l) rows k = rw add-one refl
lens_later (row_left a t) rows k = ap (row_lens rows) (sym (nothing_more k))
lens_later (row_right b t) rows k = ap (row_lens rows) (sym (nothing_more k))

lens_found : (rows : List FormRowTree) (side : Side) (f : List ℕ) (q : RowAt) → row_of rows side f ≡ Some q → HasLens rows q.pairs q.row
lens_found [] side f q e = cc
lens_found (r ∷ rows) side f q e = go (has_near side f r) (row_of rows side f) e (λ p h. lens_found rows side f p h)
  where
    go : (b : Bool) (o : Option RowAt) → cond b (Some (record { pairs = 0; row = r })) (option_map (row_behind (pairs_of r)) o) ≡ Some q
        → ((p : RowAt) → o ≡ Some p → HasLens rows p.pairs p.row) → HasLens (r ∷ rows) q.pairs q.row
    go true o h again =
        let first : RowAt = record { pairs = 0; row = r } in
        let same : first ≡ q = cc in
        subst (λ (z : RowAt). HasLens (r ∷ rows) z.pairs z.row) same (lens_first r rows)
    go false None h again = cc
    go false (Some p) h again =
        let same : row_behind (pairs_of r) p ≡ q = cc in
        subst (λ (z : RowAt). HasLens (r ∷ rows) z.pairs z.row) same (λ a b l e. lens_later r rows p.pairs ∙ again p refl a b l e)

-- where a lens inside is needed, its row is there and is paired
begun_in_row : (rows : List FormRowTree) (cs : CompTrees) (u : WordTree) (k : ℕ) (r : FormRowTree) (i : ℕ) (c : CompTree) (w : WordTree) → HasLens rows k r
    → Some (begin_row cs u k r) ≡ Some (inside i c w) → (l : FormTree) × (row_lens rows i ≡ Some l)
begun_in_row rows cs u k (row_both a b l) i c w found e = let same : k ≡ i = cc in (l, subst (λ z. row_lens rows z ≡ Some l) same (found a b l refl))
begun_in_row rows cs u k (row_left a t) i c w found e = cc
begun_in_row rows cs u k (row_right b t) i c w found e = cc

begun_found : (rows : List FormRowTree) (side : Side) (f : List ℕ) (cs : CompTrees) (u : WordTree) (i : ℕ) (c : CompTree) (w : WordTree) (b : Bool) (o : Option RowAt) → row_of rows side f ≡ o
    → cond b (option_map (begin_in cs u) o) None ≡ Some (inside i c w) → (l : FormTree) × (row_lens rows i ≡ Some l)
begun_found rows side f cs u i c w false o found e = cc
begun_found rows side f cs u i c w true None found e = cc
begun_found rows side f cs u i c w true (Some q) found e = begun_in_row rows cs u q.pairs q.row i c w (lens_found rows side f q found) e

pub record_begins_in_row : (rows : RowTrees) (side : Side) (cs : CompTrees) (p : PrimitiveTree) (i : ℕ) (c : CompTree) (w : WordTree)
    → begin_record rows side cs p ≡ Some (inside i c w) → (l : FormTree) × (row_lens (form_row_list rows) i ≡ Some l)
record_begins_in_row rows side cs (at f u) i c w e =
    begun_found (form_row_list rows) side f cs u i c w (nat_eq (comp_count cs) (paired_rows rows)) (row_of (form_row_list rows) side f) refl e
record_begins_in_row rows side cs (set_to a) i c w e = cc
record_begins_in_row rows side cs (add n) i c w e = cc
record_begins_in_row rows side cs (splice j k s) i c w e = cc
record_begins_in_row rows side cs (stay t u) i c w e = cc
record_begins_in_row rows side cs (switch m n u) i c w e = cc
record_begins_in_row rows side cs (modify q u) i c w e = cc
record_begins_in_row rows side cs (shape a) i c w e = cc

translation_found : (rows : RowTrees) (side : Side) (i : ℕ) (c : CompTree) (u : WordTree) (l : FormTree) → row_lens (form_row_list rows) i ≡ Some l
    → translate l side c u ≡ row_translation rows side i c u
translation_found rows side i c u l e = rw e refl

-- ---- the finish

paired_finish : (side : Side) (a b : List ℕ) (l : FormTree) (cs : CompTrees) (k : ℕ) (o : Option Translated)
    → option_map in_record (option_map (put_in (far side a b) cs k) o) ≡ option_map (λ r. finish_row side cs r k (row_both a b l)) o
paired_finish side a b l cs k None = refl
paired_finish side a b l cs k (Some r) = refl

row_round : (rows : RowTrees) (side : Side) (cs : CompTrees) (u : WordTree) (k : ℕ) (r : FormRowTree) → HasLens (form_row_list rows) k r
    → option_map in_record (row_word side cs u k r) ≡ carried_on (row_translation rows side) (λ z. finish_row side cs z k r) (begin_row cs u k r)
row_round rows side cs u k (row_both a b l) found =
    paired_finish side a b l cs k (translate l side (comp_at cs k) u)
    ∙ ap (option_map (λ r. finish_row side cs r k (row_both a b l))) (translation_found rows side k (comp_at cs k) u l (found a b l refl))
row_round rows side cs u k (row_left a t) found = refl
row_round rows side cs u k (row_right b t) found = refl

found_round : (rows : RowTrees) (side : Side) (f : List ℕ) (cs : CompTrees) (u : WordTree) (o : Option RowAt) → row_of (form_row_list rows) side f ≡ o
    → option_map in_record (option_and_then (found_word side cs u) o)
    ≡ option_and_then (carried_on (row_translation rows side) (λ r. finish_in side cs r o)) (option_map (begin_in cs u) o)
found_round rows side f cs u None e = refl
found_round rows side f cs u (Some q) e = row_round rows side cs u q.pairs q.row (lens_found (form_row_list rows) side f q e)

at_round : (rows : RowTrees) (side : Side) (cs : CompTrees) (f : List ℕ) (u : WordTree) (b : Bool) → nat_eq (comp_count cs) (paired_rows rows) ≡ b
    → cond b (option_map in_record (translate_at rows side f u cs)) None
    ≡ option_and_then (carried_on (row_translation rows side) (finish_record rows side cs (at f u))) (cond b (option_map (begin_in cs u) (row_of (form_row_list rows) side f)) None)
at_round rows side cs f u true e =
    ap (option_map in_record) (rows_translate side f u rows cs (eqb-true (comp_count cs) (paired_rows rows) e))
    ∙ found_round rows side f cs u (row_of (form_row_list rows) side f) refl
at_round rows side cs f u false e = refl

-- the translation of a record goes round that of the lens inside
pub record_round : (rows : RowTrees) (side : Side) (cs : CompTrees) (p : PrimitiveTree)
    → translate_one (form_rec rows) side (rec_comp cs) p
    ≡ option_and_then (carried_on (row_translation rows side) (finish_record rows side cs p)) (begin_record rows side cs p)
record_round rows side cs (at f u) = at_round rows side cs f u (nat_eq (comp_count cs) (paired_rows rows)) refl
record_round rows side cs (set_to a) = refl
record_round rows side cs (add n) = refl
record_round rows side cs (splice i k s) = refl
record_round rows side cs (stay t u) = refl
record_round rows side cs (switch m n u) = refl
record_round rows side cs (modify q u) = refl
record_round rows side cs (shape e) = refl

-- Records keep the equations.
use Rattle.std.proofs.Common.{◌≡◌, refl, sym, ap, ap₂, subst, Bool, true, false, cond, Option, None, Some, option_map, List, ℕ, ◌+◌, nat_eq, bytes_eq, ◌∙◌}
use Rattle.hold_shapes.specs.declared.edit.Place.{Place}
use Rattle.texts.specs.declared.side.Side.{Side}
use Rattle.texts.specs.declared.side.Side.TheVariants.{Left, Right}
use Rattle.edit_module.specs.Words.{PrimitiveTree, set, add, splice, at, stay, switch, modify, shape, WordTree, no_primitives, joined}
use Rattle.lens_forms.specs.Forms.{form_rec, RowTrees, no_rows, both, only_left, only_right, paired_rows}
use Rattle.lens_core.specs.Complements.{CompTree, rec_comp, CompTrees, no_comps, more_comps, comp_count}
use Rattle.lens_core.specs.Sides.{near, far}
use Rattle.lens_core.specs.Emitted.{at_word, behind, one_by_one}
use Rattle.lens_core.specs.Translation.{Translated, in_row, past_row, in_record, translate_one, translate_at}
use Rattle.law_equations.specs.Alike.{KeepsEquations, RowsKeepEquations}
use Rattle.law_equations.proofs.Glue.{normalized, normalized_one}
use Rattle.law_equations.proofs.Normals.{merge-cases, normalized-again}
use Rattle.law_equations.proofs.EmittedAlike.{at_word-normalized, at_word-joined}
use Rattle.law_equations.proofs.Alikes.{in_normal_form, same-parts, in_order, in_order-same, in_parts, form-keeps, owed-form}

-- ---- a word in a row

in_row-same : (f : List ℕ) (cs : CompTrees) (o p : Option Translated) → in_normal_form o ≡ in_normal_form p → in_normal_form (option_map (in_row f cs) o) ≡ in_normal_form (option_map (in_row f cs) p)
in_row-same f cs None None e = refl
in_row-same f cs None (Some q) e = cc
in_row-same f cs (Some q) None e = cc
in_row-same f cs (Some q) (Some r) e = ap₂ (λ w c. Some (w, more_comps c cs)) (at_word-normalized f q.0 r.0 (same-parts q r e).0) (same-parts q r e).1

past_row-same : (c : CompTree) (o p : Option (WordTree × CompTrees)) → in_normal_form o ≡ in_normal_form p → in_normal_form (option_map (past_row c) o) ≡ in_normal_form (option_map (past_row c) p)
past_row-same c None None e = refl
past_row-same c None (Some q) e = cc
past_row-same c (Some q) None e = cc
past_row-same c (Some q) (Some r) e = ap₂ (λ w cs. Some (w, more_comps c cs)) (same-parts q r e).0 (same-parts q r e).1

-- two words in a row, one after the other
in_row-order : (f : List ℕ) (cs : CompTrees) (o : Option Translated) (k : CompTree → Option Translated) (next : CompTrees → Option (WordTree × CompTrees))
    → ((c : CompTree) → next (more_comps c cs) ≡ option_map (in_row f cs) (k c))
    → in_normal_form (option_map (in_row f cs) (in_order o k)) ≡ in_normal_form (in_order (option_map (in_row f cs) o) next)
in_row-order f cs None k next h = refl
in_row-order f cs (Some r) k next h = rw (h r.1) (go (k r.1))
  where
    go : (o : Option Translated) → in_normal_form (option_map (in_row f cs) (option_map (behind r.0) o)) ≡ in_normal_form (option_map (behind (at_word f r.0)) (option_map (in_row f cs) o))
    go None = refl
    go (Some q) = ap (λ w. Some (w, more_comps q.1 cs)) (at_word-joined f r.0 q.0)

past_row-order : (c : CompTree) (o : Option (WordTree × CompTrees)) (k next : CompTrees → Option (WordTree × CompTrees))
    → ((cs : CompTrees) → next (more_comps c cs) ≡ option_map (past_row c) (k cs))
    → in_normal_form (option_map (past_row c) (in_order o k)) ≡ in_normal_form (in_order (option_map (past_row c) o) next)
past_row-order c None k next h = refl
past_row-order c (Some r) k next h = rw (h r.1) (go (k r.1))
  where
    go : (o : Option (WordTree × CompTrees)) → in_normal_form (option_map (past_row c) (option_map (behind r.0) o)) ≡ in_normal_form (option_map (behind r.0) (option_map (past_row c) o))
    go None = refl
    go (Some q) = refl

-- ---- a word in a field

field-same : (rows : RowTrees) → RowsKeepEquations rows → (side : Side) (f : List ℕ) (u w : WordTree) (cs : CompTrees) → normalized u ≡ normalized w
    → in_normal_form (translate_at rows side f u cs) ≡ in_normal_form (translate_at rows side f w cs)
field-same no_rows h side f u w cs e = refl
field-same (both a b l rows) h side f u w no_comps e = refl
field-same (both a b l rows) h side f u w (more_comps c cs) e = go (bytes_eq (near side a b) f) (field-same rows h.1 side f u w cs e)
  where
    go : (t : Bool) → in_normal_form (translate_at rows side f u cs) ≡ in_normal_form (translate_at rows side f w cs)
        → in_normal_form (cond t (option_map (in_row (far side a b) cs) (one_by_one (translate_one l side) c u)) (option_map (past_row c) (translate_at rows side f u cs)))
        ≡ in_normal_form (cond t (option_map (in_row (far side a b) cs) (one_by_one (translate_one l side) c w)) (option_map (past_row c) (translate_at rows side f w cs)))
    go true i = in_row-same (far side a b) cs (one_by_one (translate_one l side) c u) (one_by_one (translate_one l side) c w) (form-keeps l h.0 side c u w e)
    go false i = past_row-same c (translate_at rows side f u cs) (translate_at rows side f w cs) i
field-same (only_left a t rows) h Left f u w cs e = go (bytes_eq a f) (field-same rows h Left f u w cs e)
  where
    go : (t : Bool) → in_normal_form (translate_at rows Left f u cs) ≡ in_normal_form (translate_at rows Left f w cs)
        → in_normal_form (cond t (Some (no_primitives, cs)) (translate_at rows Left f u cs)) ≡ in_normal_form (cond t (Some (no_primitives, cs)) (translate_at rows Left f w cs))
    go true i = refl
    go false i = i
field-same (only_left a t rows) h Right f u w cs e = field-same rows h Right f u w cs e
field-same (only_right b t rows) h Left f u w cs e = field-same rows h Left f u w cs e
field-same (only_right b t rows) h Right f u w cs e = go (bytes_eq b f) (field-same rows h Right f u w cs e)
  where
    go : (t : Bool) → in_normal_form (translate_at rows Right f u cs) ≡ in_normal_form (translate_at rows Right f w cs)
        → in_normal_form (cond t (Some (no_primitives, cs)) (translate_at rows Right f u cs)) ≡ in_normal_form (cond t (Some (no_primitives, cs)) (translate_at rows Right f w cs))
    go true i = refl
    go false i = i

-- a field of the near side alone keeps nothing of what it is given
passed-over : (b : Bool) (o : CompTrees → Option (WordTree × CompTrees)) (k n : CompTrees → Option (WordTree × CompTrees)) (cs : CompTrees)
    → ((ds : CompTrees) → n ds ≡ cond b (Some (no_primitives, ds)) (k ds)) → (j : Option (WordTree × CompTrees)) → in_normal_form j ≡ in_normal_form (in_order (o cs) k)
    → in_normal_form (cond b (Some (no_primitives, cs)) j) ≡ in_normal_form (in_order (cond b (Some (no_primitives, cs)) (o cs)) n)
passed-over true o k n cs h j e = rw (h cs) refl
passed-over false o k n cs h j e = e ∙ in_order-same (o cs) (o cs) k n refl (λ ds. ap in_normal_form (sym (h ds)))

field-two : (rows : RowTrees) → RowsKeepEquations rows → (side : Side) (f : List ℕ) (u v : WordTree) (cs : CompTrees)
    → in_normal_form (translate_at rows side f (joined u v) cs) ≡ in_normal_form (in_order (translate_at rows side f u cs) (λ ds. translate_at rows side f v ds))
field-two no_rows h side f u v cs = refl
field-two (both a b l rows) h side f u v no_comps = refl
field-two (both a b l rows) h side f u v (more_comps c cs) = go (bytes_eq (near side a b) f) refl (field-two rows h.1 side f u v cs)
  where
    go : (t : Bool) → bytes_eq (near side a b) f ≡ t → in_normal_form (translate_at rows side f (joined u v) cs) ≡ in_normal_form (in_order (translate_at rows side f u cs) (λ ds. translate_at rows side f v ds))
        → in_normal_form (cond t (option_map (in_row (far side a b) cs) (one_by_one (translate_one l side) c (joined u v))) (option_map (past_row c) (translate_at rows side f (joined u v) cs)))
        ≡ in_normal_form (in_order (cond t (option_map (in_row (far side a b) cs) (one_by_one (translate_one l side) c u)) (option_map (past_row c) (translate_at rows side f u cs)))
        (λ ds. translate_at (both a b l rows) side f v ds))
    go true e i =
        ap (λ o. in_normal_form (option_map (in_row (far side a b) cs) o)) (in_parts (translate_one l side) c u v)
        ∙ in_row-order (far side a b) cs (one_by_one (translate_one l side) c u) (λ d. one_by_one (translate_one l side) d v) (λ ds. translate_at (both a b l rows) side f v ds) (λ d. rw e refl)
    go false e i =
        past_row-same c (translate_at rows side f (joined u v) cs) (in_order (translate_at rows side f u cs) (λ ds. translate_at rows side f v ds)) i
        ∙ past_row-order c (translate_at rows side f u cs) (λ ds. translate_at rows side f v ds) (λ ds. translate_at (both a b l rows) side f v ds) (λ ds. rw e refl)
field-two (only_left a t rows) h Left f u v cs =
    passed-over (bytes_eq a f) (λ ds. translate_at rows Left f u ds) (λ ds. translate_at rows Left f v ds) (λ ds. translate_at (only_left a t rows) Left f v ds) cs (λ ds. refl)
    (translate_at rows Left f (joined u v) cs) (field-two rows h Left f u v cs)
field-two (only_left a t rows) h Right f u v cs = field-two rows h Right f u v cs
field-two (only_right b t rows) h Left f u v cs = field-two rows h Left f u v cs
field-two (only_right b t rows) h Right f u v cs =
    passed-over (bytes_eq b f) (λ ds. translate_at rows Right f u ds) (λ ds. translate_at rows Right f v ds) (λ ds. translate_at (only_right b t rows) Right f v ds) cs (λ ds. refl)
    (translate_at rows Right f (joined u v) cs) (field-two rows h Right f u v cs)

-- ---- a record

in_record-same : (o p : Option (WordTree × CompTrees)) → in_normal_form o ≡ in_normal_form p → in_normal_form (option_map in_record o) ≡ in_normal_form (option_map in_record p)
in_record-same None None e = refl
in_record-same None (Some q) e = cc
in_record-same (Some q) None e = cc
in_record-same (Some q) (Some r) e = ap₂ (λ w cs. Some (w, rec_comp cs)) (same-parts q r e).0 (same-parts q r e).1

-- the row of a field has as many complements after it as before
field-count : (rows : RowTrees) (side : Side) (f : List ℕ) (u : WordTree) (cs : CompTrees) (r : WordTree × CompTrees) → translate_at rows side f u cs ≡ Some r → comp_count r.1 ≡ comp_count cs
field-count no_rows side f u cs r e = cc
field-count (both a b l rows) side f u no_comps r e = cc
field-count (both a b l rows) side f u (more_comps c cs) r e = go (bytes_eq (near side a b) f) (one_by_one (translate_one l side) c u) (translate_at rows side f u cs) (λ q i. field-count rows side f u cs q i) e
  where
    go : (t : Bool) (o : Option Translated) (p : Option (WordTree × CompTrees)) → ((q : WordTree × CompTrees) → p ≡ Some q → comp_count q.1 ≡ comp_count cs)
        → cond t (option_map (in_row (far side a b) cs) o) (option_map (past_row c) p) ≡ Some r → comp_count r.1 ≡ comp_count cs + 1
    go true None p h e = cc
    go true (Some q) p h e = let same : in_row (far side a b) cs q ≡ r = cc in subst (λ z. comp_count z.1 ≡ comp_count cs + 1) same refl
    go false o None h e = cc
    go false o (Some q) h e = let same : past_row c q ≡ r = cc in subst (λ z. comp_count z.1 ≡ comp_count cs + 1) same (ap (λ n. n + 1) (h q refl))
field-count (only_left a t rows) Left f u cs r e = go (bytes_eq a f) (translate_at rows Left f u cs) (λ i. field-count rows Left f u cs r i) e
  where
    go : (t : Bool) (p : Option (WordTree × CompTrees)) → (p ≡ Some r → comp_count r.1 ≡ comp_count cs) → cond t (Some (no_primitives, cs)) p ≡ Some r → comp_count r.1 ≡ comp_count cs
    go true p h e = let same : (no_primitives, cs) ≡ r = cc in subst (λ z. comp_count z.1 ≡ comp_count cs) same refl
    go false p h e = h e
field-count (only_left a t rows) Right f u cs r e = field-count rows Right f u cs r e
field-count (only_right b t rows) Left f u cs r e = field-count rows Left f u cs r e
field-count (only_right b t rows) Right f u cs r e = go (bytes_eq b f) (translate_at rows Right f u cs) (λ i. field-count rows Right f u cs r i) e
  where
    go : (t : Bool) (p : Option (WordTree × CompTrees)) → (p ≡ Some r → comp_count r.1 ≡ comp_count cs) → cond t (Some (no_primitives, cs)) p ≡ Some r → comp_count r.1 ≡ comp_count cs
    go true p h e = let same : (no_primitives, cs) ≡ r = cc in subst (λ z. comp_count z.1 ≡ comp_count cs) same refl
    go false p h e = h e

record-one : (rows : RowTrees) → RowsKeepEquations rows → (side : Side) (c : CompTree) (p : PrimitiveTree)
    → in_normal_form (translate_one (form_rec rows) side c (normalized_one p)) ≡ in_normal_form (translate_one (form_rec rows) side c p)
record-one rows h side (rec_comp cs) (at f u) = go (nat_eq (comp_count cs) (paired_rows rows))
  where
    go : (b : Bool) → in_normal_form (cond b (option_map in_record (translate_at rows side f (normalized u) cs)) None) ≡ in_normal_form (cond b (option_map in_record (translate_at rows side f u cs)) None)
    go true = in_record-same (translate_at rows side f (normalized u) cs) (translate_at rows side f u cs) (field-same rows h side f (normalized u) u cs (normalized-again u))
    go false = refl
record-one rows h side (rec_comp cs) (set a) = refl
record-one rows h side (rec_comp cs) (add a) = refl
record-one rows h side (rec_comp cs) (splice i k s) = refl
record-one rows h side (rec_comp cs) (stay f u) = refl
record-one rows h side (rec_comp cs) (switch s f u) = refl
record-one rows h side (rec_comp cs) (modify f u) = refl
record-one rows h side (rec_comp cs) (shape a) = refl
record-one rows h side _ p = refl

record-at : (rows : RowTrees) → RowsKeepEquations rows → (side : Side) (c : CompTree) (f : List ℕ) (u v : WordTree)
    → in_normal_form (translate_one (form_rec rows) side c (at f (joined u v))) ≡ in_normal_form (in_order (translate_one (form_rec rows) side c (at f u)) (λ d. translate_one (form_rec rows) side d (at f v)))
record-at rows h side (rec_comp cs) f u v = go (nat_eq (comp_count cs) (paired_rows rows)) refl
  where
    next : nat_eq (comp_count cs) (paired_rows rows) ≡ true → (o : Option (WordTree × CompTrees)) → translate_at rows side f u cs ≡ o
        → in_normal_form (option_map in_record (in_order o (λ ds. translate_at rows side f v ds))) ≡ in_normal_form (in_order (option_map in_record o) (λ d. translate_one (form_rec rows) side d (at f v)))
    next e None i = refl
    next e (Some r) i = rw (field-count rows side f u cs r i, e) (last (translate_at rows side f v r.1))
      where
        last : (o : Option (WordTree × CompTrees)) → in_normal_form (option_map in_record (option_map (behind r.0) o)) ≡ in_normal_form (option_map (behind r.0) (option_map in_record o))
        last None = refl
        last (Some q) = refl

    go : (b : Bool) → nat_eq (comp_count cs) (paired_rows rows) ≡ b → in_normal_form (cond b (option_map in_record (translate_at rows side f (joined u v) cs)) None)
        ≡ in_normal_form (in_order (cond b (option_map in_record (translate_at rows side f u cs)) None) (λ d. translate_one (form_rec rows) side d (at f v)))
    go true e =
        in_record-same (translate_at rows side f (joined u v) cs) (in_order (translate_at rows side f u cs) (λ ds. translate_at rows side f v ds)) (field-two rows h side f u v cs)
        ∙ next e (translate_at rows side f u cs) refl
    go false e = refl
record-at rows h side _ f u v = refl

record-none : (rows : RowTrees) (side : Side) (c : CompTree) (p r : PrimitiveTree) (k : CompTree → Option Translated) → translate_one (form_rec rows) side c r ≡ None → translate_one (form_rec rows) side c p ≡ None
    → in_normal_form (translate_one (form_rec rows) side c r) ≡ in_normal_form (in_order (translate_one (form_rec rows) side c p) k)
record-none rows side c p r k e f = rw (e, f) refl

no_stay : (rows : RowTrees) (side : Side) (c : CompTree) (t : List ℕ) (u : WordTree) → translate_one (form_rec rows) side c (stay t u) ≡ None
no_stay rows side (rec_comp cs) t u = refl
no_stay rows side _ t u = refl

no_switch : (rows : RowTrees) (side : Side) (c : CompTree) (s t : List ℕ) (u : WordTree) → translate_one (form_rec rows) side c (switch s t u) ≡ None
no_switch rows side (rec_comp cs) s t u = refl
no_switch rows side _ s t u = refl

no_modify : (rows : RowTrees) (side : Side) (c : CompTree) (x : Place) (u : WordTree) → translate_one (form_rec rows) side c (modify x u) ≡ None
no_modify rows side (rec_comp cs) x u = refl
no_modify rows side _ x u = refl

pub record_keeps : (rows : RowTrees) → RowsKeepEquations rows → KeepsEquations (form_rec rows)
record_keeps rows h = owed-form (form_rec rows) (λ side. record {
  ones = λ c p. record-one rows h side c p;
  pairs = λ c p q r e. merge-cases
      (λ p q r. in_normal_form (translate_one (form_rec rows) side c r) ≡ in_normal_form (in_order (translate_one (form_rec rows) side c p) (λ d. translate_one (form_rec rows) side d q)))
      (λ f u v. record-at rows h side c f u v)
      (λ t u v. record-none rows side c (stay t u) (stay t (joined u v)) (λ d. translate_one (form_rec rows) side d (stay t v)) (no_stay rows side c t (joined u v)) (no_stay rows side c t u))
      (λ x u v. record-none rows side c (modify x u) (modify x (joined u v)) (λ d. translate_one (form_rec rows) side d (modify x v)) (no_modify rows side c x (joined u v)) (no_modify rows side c x u))
      (λ s t u v. record-none rows side c (switch s t u) (switch s t (joined u v)) (λ d. translate_one (form_rec rows) side d (stay t v)) (no_switch rows side c s t (joined u v)) (no_switch rows side c s t u))
      p q r e;
})

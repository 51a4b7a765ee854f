-- The test of a complement is true if and only if the complement fits.
use Rattle.std.proofs.Common.{◌≡◌, ◌⊎◌, inl, inr, ℕ, Bool, true, false, ◌&&◌, ◌||◌, List, refl, sym, subst}
use Rattle.std.specs.Prelude.{◌↔◌, IsTrue, bytes_eq}
use Rattle.std.proofs.lemmas.Slice.Eq.{bytes_eq-Decides}
use Rattle.texts.proofs.Conjunction.{first, second, both as both_true}
use Rattle.doc_values.specs.Typing.{is_list_of, is_keyed_of, is_tree_of}
use Rattle.lens_forms.specs.Forms.{FormTree, form_id, form_bij, form_disc, form_then, form_rec, form_alt, form_each, form_keyed, form_ordered, form_part, form_inv, RowTrees, no_rows, both, only_left, only_right, ArmTrees, no_arms, more_arms}
use Rattle.lens_core.specs.Complements.{CompTree, nil, then_comp, rec_comp, alt_comp, hold_comp, tags_comp, CompTrees, no_comps, more_comps, comp_count, IsNil, AllFit, Fits, FitRows, FitsArm}
use Rattle.lens_check.specs.FitTest.{is_nil, all_pass, fits, rows_fit, arm_fits}
use Rattle.texts.proofs.Tests.{or_second}

nil_passes : (c : CompTree) → IsNil c → is_nil c ≡ true
nil_passes nil h = refl
nil_passes c h = absurd h

passes_nil : (c : CompTree) → is_nil c ≡ true → IsNil c
passes_nil nil h = tt
passes_nil (then_comp c d) h = cc
passes_nil (rec_comp cs) h = cc
passes_nil (alt_comp t c) h = cc
passes_nil (hold_comp s cs) h = cc
passes_nil (tags_comp ts) h = cc

all_of : (P : CompTree → Type 0) (test : CompTree → Bool) → ((c : CompTree) → P c → test c ≡ true) → (cs : CompTrees) → AllFit P cs → all_pass test cs ≡ true
all_of P test f no_comps h = refl
all_of P test f (more_comps c cs) h = both_true (test c) (all_pass test cs) (f c h.0) (all_of P test f cs h.1)

of_all : (P : CompTree → Type 0) (test : CompTree → Bool) → ((c : CompTree) → test c ≡ true → P c) → (cs : CompTrees) → all_pass test cs ≡ true → AllFit P cs
of_all P test f no_comps h = tt
of_all P test f (more_comps c cs) h = (f c (first (test c) (all_pass test cs) h), of_all P test f cs (second (test c) (all_pass test cs) h))

choose : {A B : Type 0} (a b : Bool) → (a || b) ≡ true → (a ≡ true → A) → (b ≡ true → B) → A ⊎ B
choose true b h f g = inl (f refl)
choose false b h f g = inr (g h)

or_first : (a b : Bool) → a ≡ true → (a || b) ≡ true
or_first true b h = refl
or_first false b h = cc

mutual
  pub fit_passes : (l : FormTree) (c : CompTree) → Fits l c → fits l c ≡ true
  fit_passes (form_id t) c h = nil_passes c h
  fit_passes (form_bij ps n) c h = nil_passes c h
  fit_passes (form_disc t u) c h = nil_passes c h
  fit_passes (form_then l k) (then_comp c d) h = both_true (fits l c) (fits k d) (fit_passes l c h.0) (fit_passes k d h.1)
  fit_passes (form_then l k) c h = absurd h
  fit_passes (form_rec rows) (rec_comp cs) h = rows_pass rows cs h
  fit_passes (form_rec rows) c h = absurd h
  fit_passes (form_alt arms) (alt_comp t c) h = arm_passes arms t c h
  fit_passes (form_alt arms) c h = absurd h
  fit_passes (form_each l) (hold_comp s cs) h = both_true (is_list_of s (comp_count cs)) (all_pass (fits l) cs) h.0 (all_of (Fits l) (fits l) (λ c k. fit_passes l c k) cs h.1)
  fit_passes (form_each l) c h = absurd h
  fit_passes (form_keyed l) (hold_comp s cs) h = both_true (is_keyed_of s (comp_count cs)) (all_pass (fits l) cs) h.0 (all_of (Fits l) (fits l) (λ c k. fit_passes l c k) cs h.1)
  fit_passes (form_keyed l) c h = absurd h
  fit_passes (form_ordered l) (hold_comp s cs) h = both_true (is_tree_of s (comp_count cs)) (all_pass (fits l) cs) h.0 (all_of (Fits l) (fits l) (λ c k. fit_passes l c k) cs h.1)
  fit_passes (form_ordered l) c h = absurd h
  fit_passes (form_part fs) (tags_comp ts) h = h
  fit_passes (form_part fs) c h = absurd h
  fit_passes (form_inv l) c h = fit_passes l c h

  rows_pass : (rows : RowTrees) (cs : CompTrees) → FitRows rows cs → rows_fit rows cs ≡ true
  rows_pass no_rows no_comps h = refl
  rows_pass no_rows (more_comps c cs) h = absurd h
  rows_pass (both a b l rows) no_comps h = absurd h
  rows_pass (both a b l rows) (more_comps c cs) h = both_true (fits l c) (rows_fit rows cs) (fit_passes l c h.0) (rows_pass rows cs h.1)
  rows_pass (only_left a t rows) cs h = rows_pass rows cs h
  rows_pass (only_right b t rows) cs h = rows_pass rows cs h

  arm_passes : (arms : ArmTrees) (t : List ℕ) (c : CompTree) → FitsArm arms t c → arm_fits arms t c ≡ true
  arm_passes no_arms t c h = absurd h
  arm_passes (more_arms a b l arms) t c (inl h) = or_first (bytes_eq t a && fits l c) (arm_fits arms t c) (both_true (bytes_eq t a) (fits l c) ((bytes_eq-Decides t a).1 h.0) (fit_passes l c h.1))
  arm_passes (more_arms a b l arms) t c (inr h) = or_second (bytes_eq t a && fits l c) (arm_fits arms t c) (arm_passes arms t c h)

mutual
  pub passes_fit : (l : FormTree) (c : CompTree) → fits l c ≡ true → Fits l c
  passes_fit (form_id t) c h = passes_nil c h
  passes_fit (form_bij ps n) c h = passes_nil c h
  passes_fit (form_disc t u) c h = passes_nil c h
  passes_fit (form_then l k) (then_comp c d) h = (passes_fit l c (first (fits l c) (fits k d) h), passes_fit k d (second (fits l c) (fits k d) h))
  passes_fit (form_then l k) c h = cc
  passes_fit (form_rec rows) (rec_comp cs) h = pass_rows rows cs h
  passes_fit (form_rec rows) c h = cc
  passes_fit (form_alt arms) (alt_comp t c) h = passes_arm arms t c h
  passes_fit (form_alt arms) c h = cc
  passes_fit (form_each l) (hold_comp s cs) h = (first (is_list_of s (comp_count cs)) (all_pass (fits l) cs) h, of_all (Fits l) (fits l) (λ c k. passes_fit l c k) cs (second (is_list_of s (comp_count cs)) (all_pass (fits l) cs) h))
  passes_fit (form_each l) c h = cc
  passes_fit (form_keyed l) (hold_comp s cs) h = (first (is_keyed_of s (comp_count cs)) (all_pass (fits l) cs) h, of_all (Fits l) (fits l) (λ c k. passes_fit l c k) cs (second (is_keyed_of s (comp_count cs)) (all_pass (fits l) cs) h))
  passes_fit (form_keyed l) c h = cc
  passes_fit (form_ordered l) (hold_comp s cs) h = (first (is_tree_of s (comp_count cs)) (all_pass (fits l) cs) h, of_all (Fits l) (fits l) (λ c k. passes_fit l c k) cs (second (is_tree_of s (comp_count cs)) (all_pass (fits l) cs) h))
  passes_fit (form_ordered l) c h = cc
  passes_fit (form_part fs) (tags_comp ts) h = h
  passes_fit (form_part fs) c h = cc
  passes_fit (form_inv l) c h = passes_fit l c h

  pass_rows : (rows : RowTrees) (cs : CompTrees) → rows_fit rows cs ≡ true → FitRows rows cs
  pass_rows no_rows no_comps h = tt
  pass_rows no_rows (more_comps c cs) h = cc
  pass_rows (both a b l rows) no_comps h = cc
  pass_rows (both a b l rows) (more_comps c cs) h = (passes_fit l c (first (fits l c) (rows_fit rows cs) h), pass_rows rows cs (second (fits l c) (rows_fit rows cs) h))
  pass_rows (only_left a t rows) cs h = pass_rows rows cs h
  pass_rows (only_right b t rows) cs h = pass_rows rows cs h

  passes_arm : (arms : ArmTrees) (t : List ℕ) (c : CompTree) → arm_fits arms t c ≡ true → FitsArm arms t c
  passes_arm no_arms t c h = cc
  passes_arm (more_arms a b l arms) t c h = choose (bytes_eq t a && fits l c) (arm_fits arms t c) h
      (λ k. ((bytes_eq-Decides t a).0 (first (bytes_eq t a) (fits l c) k), passes_fit l c (second (bytes_eq t a) (fits l c) k))) (λ k. passes_arm arms t c k)

-- a test that is this one
pub fit_test : (b : Bool) (l : FormTree) (c : CompTree) → b ≡ fits l c → IsTrue b ↔ Fits l c
fit_test b l c e = (λ h. passes_fit l c (subst (λ t. t ≡ true) e h), λ f. subst (λ t. t ≡ true) (sym e) (fit_passes l c f))

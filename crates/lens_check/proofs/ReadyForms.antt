-- A typed form with a complement that fits is ready.
use Rattle.std.proofs.Common.{◌≡◌, inl, inr, ℕ, Bool, true, false, ◌&&◌, List, refl, sym, subst}
use Rattle.std.specs.Prelude.{bytes_eq, not}
use Rattle.texts.specs.Keys.{has_name}
use Rattle.texts.proofs.Conjunction.{first as first_and, second as second_and}
use Rattle.doc_values.specs.Types.{are_distinct, are_choices, is_well_formed, is_same_ty}
use Rattle.doc_values.proofs.DistinctNames.{are_choices-distinct}
use Rattle.lens_forms.specs.Forms.{FormTree, form_id, form_bij, form_disc, form_then, form_rec, form_alt, form_each, form_keyed, form_ordered, form_part, form_inv, RowTrees, no_rows, both, only_left, only_right, ArmTrees, no_arms, more_arms, left_type, right_type}
use Rattle.lens_forms.specs.Typing.{is_typed, are_typed_rows, are_typed_arms, left_names, right_names, left_arms, right_arms}
use Rattle.lens_core.specs.Complements.{CompTree, nil, then_comp, rec_comp, alt_comp, hold_comp, tags_comp, CompTrees, no_comps, more_comps, AllFit, Fits, FitRows, FitsArm}
use Rattle.lens_core.proofs.NameTests.{fits_among}
use Rattle.lens_check.specs.ReadyComplements.{IsReady, AreReadyRows, IsReadyArm, Chosen}
use Rattle.std.proofs.lemmas.Bool.{not-true}
use Rattle.texts.proofs.Tests.{bytes_eq-is}
use Rattle.texts.proofs.KeyOrder.{bytes_eq-refl}

all_ready : (fits ready : CompTree → Type 0) → ((c : CompTree) → fits c → ready c) → (cs : CompTrees) → AllFit fits cs → AllFit ready cs
all_ready fits ready each no_comps f = tt
all_ready fits ready each (more_comps c cs) f = (each c f.0, all_ready fits ready each cs f.1)

-- ---- the first arm of a tag is the one that the complement fits

first_fits : (a b : List ℕ) (l : FormTree) (arms : ArmTrees) (t : List ℕ) (c : CompTree) → are_distinct (left_arms (more_arms a b l arms)) ≡ true
    → bytes_eq t a ≡ true → FitsArm (more_arms a b l arms) t c → Fits l c
first_fits a b l arms t c apart e (inl f) = f.1
first_fits a b l arms t c apart e (inr f) =
    let here : has_name a (left_arms arms) ≡ true = subst (λ z. has_name z (left_arms arms) ≡ true) (bytes_eq-is t a e) (fits_among arms t c f) in
    let off = not-true (has_name a (left_arms arms)) (first_and (not (has_name a (left_arms arms))) (are_distinct (left_arms arms)) apart) in
    cc

later_fits : (a b : List ℕ) (l : FormTree) (arms : ArmTrees) (t : List ℕ) (c : CompTree) → bytes_eq t a ≡ false → FitsArm (more_arms a b l arms) t c → FitsArm arms t c
later_fits a b l arms t c e (inl f) = let same = subst (λ z. bytes_eq z a ≡ true) (sym f.0) (bytes_eq-refl a) in cc
later_fits a b l arms t c e (inr f) = f

either : (b : Bool) (P Q : Type 0) → (b ≡ true → P) → (b ≡ false → Q) → Chosen b P Q
either true P Q p q = p refl
either false P Q p q = q refl

-- ---- all forms

mutual
  pub fits_ready : (l : FormTree) (c : CompTree) → is_typed l ≡ true → Fits l c → IsReady l c
  fits_ready (form_id t) c h f = tt
  fits_ready (form_bij ps n) c h f = tt
  fits_ready (form_disc t u) c h f = tt
  fits_ready (form_then l k) (then_comp c d) h f =
      let each = first_and (is_typed l && is_typed k) (is_same_ty (right_type l) (left_type k)) h in
      (fits_ready l c (first_and (is_typed l) (is_typed k) each) f.0, fits_ready k d (second_and (is_typed l) (is_typed k) each) f.1)
  fits_ready (form_then l k) nil h f = tt
  fits_ready (form_then l k) (rec_comp cs) h f = tt
  fits_ready (form_then l k) (alt_comp t c) h f = tt
  fits_ready (form_then l k) (hold_comp s cs) h f = tt
  fits_ready (form_then l k) (tags_comp ts) h f = tt
  fits_ready (form_rec rows) (rec_comp cs) h f =
      let apart = second_and (are_typed_rows rows) (are_distinct (left_names rows) && are_distinct (right_names rows)) h in (
        first_and (are_distinct (left_names rows)) (are_distinct (right_names rows)) apart,
        second_and (are_distinct (left_names rows)) (are_distinct (right_names rows)) apart,
        rows_ready rows cs (first_and (are_typed_rows rows) (are_distinct (left_names rows) && are_distinct (right_names rows)) h) f,
      )
  fits_ready (form_rec rows) nil h f = tt
  fits_ready (form_rec rows) (then_comp c d) h f = tt
  fits_ready (form_rec rows) (alt_comp t c) h f = tt
  fits_ready (form_rec rows) (hold_comp s cs) h f = tt
  fits_ready (form_rec rows) (tags_comp ts) h f = tt
  fits_ready (form_alt arms) (alt_comp t c) h f =
      arm_ready arms t c (first_and (are_typed_arms arms) (are_choices (left_arms arms) && are_choices (right_arms arms)) h)
      (are_choices-distinct (left_arms arms) (first_and (are_choices (left_arms arms)) (are_choices (right_arms arms)) (second_and (are_typed_arms arms) (are_choices (left_arms arms) && are_choices (right_arms arms)) h)))
      f
  fits_ready (form_alt arms) nil h f = tt
  fits_ready (form_alt arms) (then_comp c d) h f = tt
  fits_ready (form_alt arms) (rec_comp cs) h f = tt
  fits_ready (form_alt arms) (hold_comp s cs) h f = tt
  fits_ready (form_alt arms) (tags_comp ts) h f = tt
  fits_ready (form_each l) (hold_comp s cs) h f = all_ready (Fits l) (IsReady l) (λ c k. fits_ready l c h k) cs f.1
  fits_ready (form_each l) nil h f = tt
  fits_ready (form_each l) (then_comp c d) h f = tt
  fits_ready (form_each l) (rec_comp cs) h f = tt
  fits_ready (form_each l) (alt_comp t c) h f = tt
  fits_ready (form_each l) (tags_comp ts) h f = tt
  fits_ready (form_keyed l) (hold_comp s cs) h f = all_ready (Fits l) (IsReady l) (λ c k. fits_ready l c h k) cs f.1
  fits_ready (form_keyed l) nil h f = tt
  fits_ready (form_keyed l) (then_comp c d) h f = tt
  fits_ready (form_keyed l) (rec_comp cs) h f = tt
  fits_ready (form_keyed l) (alt_comp t c) h f = tt
  fits_ready (form_keyed l) (tags_comp ts) h f = tt
  fits_ready (form_ordered l) (hold_comp s cs) h f = all_ready (Fits l) (IsReady l) (λ c k. fits_ready l c h k) cs f.1
  fits_ready (form_ordered l) nil h f = tt
  fits_ready (form_ordered l) (then_comp c d) h f = tt
  fits_ready (form_ordered l) (rec_comp cs) h f = tt
  fits_ready (form_ordered l) (alt_comp t c) h f = tt
  fits_ready (form_ordered l) (tags_comp ts) h f = tt
  fits_ready (form_part fs) (tags_comp ts) h f = f
  fits_ready (form_part fs) nil h f = tt
  fits_ready (form_part fs) (then_comp c d) h f = tt
  fits_ready (form_part fs) (rec_comp cs) h f = tt
  fits_ready (form_part fs) (alt_comp t c) h f = tt
  fits_ready (form_part fs) (hold_comp s cs) h f = tt
  fits_ready (form_inv l) c h f = fits_ready l c h f

  rows_ready : (rows : RowTrees) (cs : CompTrees) → are_typed_rows rows ≡ true → FitRows rows cs → AreReadyRows rows cs
  rows_ready no_rows cs h f = tt
  rows_ready (both a b l rows) no_comps h f = tt
  rows_ready (both a b l rows) (more_comps c cs) h f =
      (fits_ready l c (first_and (is_typed l) (are_typed_rows rows) h) f.0, rows_ready rows cs (second_and (is_typed l) (are_typed_rows rows) h) f.1)
  rows_ready (only_left a t rows) cs h f = rows_ready rows cs (second_and (is_well_formed t) (are_typed_rows rows) h) f
  rows_ready (only_right b t rows) cs h f = rows_ready rows cs (second_and (is_well_formed t) (are_typed_rows rows) h) f

  arm_ready : (arms : ArmTrees) (t : List ℕ) (c : CompTree) → are_typed_arms arms ≡ true → are_distinct (left_arms arms) ≡ true → FitsArm arms t c → IsReadyArm arms t c
  arm_ready no_arms t c h apart f = tt
  arm_ready (more_arms a b l arms) t c h apart f =
      either (bytes_eq t a) (IsReady l c) (IsReadyArm arms t c)
      (λ e. fits_ready l c (first_and (is_typed l) (are_typed_arms arms) h) (first_fits a b l arms t c apart e f))
      (λ e. arm_ready arms t c (second_and (is_typed l) (are_typed_arms arms) h) (second_and (not (has_name a (left_arms arms))) (are_distinct (left_arms arms)) apart) (later_fits a b l arms t c e f))

-- What holds of the first record, and is kept by each other record, holds of all that stands. A lemma, which stands
-- here since the laws of an `impl` cite it.
use Rattle.std.proofs.Common.{◌≡◌, ℕ, ◌+◌, List, [], ◌∷◌, Option, Some, None, Result, Ok, Err, refl, subst}
use Rattle.lens_forms.specs.Forms.{FormTree}
use Rattle.store_records.specs.RecordJson.{RecordTree, record_in}
use Rattle.store_records.specs.StoredLens.{lens_and_version}
use Rattle.store_records.specs.declared.record_fault.RecordFault.{RecordFault}
use Rattle.store_session.specs.Stands.{Standing, going_on, after_record, after_payloads, at_start, from_opening, stands}

module _ (P : Standing → Type 0) (keeps : (n : ℕ) (s t : Standing) (r : Option RecordTree) → P s → after_record n s r
    ≡ Ok t → P t) where
  others_hold : (others : Standing → Result Standing RecordFault) (r : Result Standing RecordFault) (u : Standing)
      → ((t : Standing) → r ≡ Ok t → others t ≡ Ok u → P u) → going_on others r ≡ Ok u → P u
  others_hold others (Ok t) u all h = all t refl h
  others_hold others (Err fault) u all h = cc

  payloads_hold : (n : ℕ) (s u : Standing) (ps : List (List ℕ)) → P s → after_payloads n s ps ≡ Ok u → P u
  payloads_hold n s u [] k h = let same : s ≡ u = cc in subst P same k
  payloads_hold n s u (p ∷ ps) k h =
      others_hold (λ t. after_payloads (n + 1) t ps) (after_record n s (record_in p)) u
      (λ t e more. payloads_hold (n + 1) t u ps (keeps n s t (record_in p) k e) more) h

  from_holds : (ps : List (List ℕ)) (o : Option (FormTree × ℕ)) (u : Standing)
      → ((x : FormTree × ℕ) → o ≡ Some x → P (at_start x)) → from_opening ps o ≡ Ok u → P u
  from_holds ps (Some x) u all h = payloads_hold 2 (at_start x) u ps (all x refl) h
  from_holds ps None u all h = cc

  pub all_stood : ((p : List ℕ) (x : FormTree × ℕ) → lens_and_version p ≡ Some x → P (at_start x))
      → (ps : List (List ℕ)) (u : Standing) → stands ps ≡ Ok u → P u
  all_stood first [] u h = cc
  all_stood first (p ∷ ps) u h = from_holds ps (lens_and_version p) u (first p) h

-- What is made of payloads, from how they are opened.
use Rattle.std.proofs.Common.{◌≡◌, ℕ, List, Option, Some, Result, Ok, Err, MatchResult, refl, sym, ap, subst, ◌∙◌}
use Rattle.std.specs.Prelude.{IsErrOf}
use Rattle.std.proofs.lemmas.Option.{same_Some}
use Rattle.store_run.proofs.Outcomes.{same_ok}
use Rattle.store_run.proofs.StoreOpenings.{same_fault}
use Rattle.store_run.specs.Making.{IsMakingFault}
use Rattle.store_run.specs.Opening.{FailsToOpen, IsRefusedFor}
use Rattle.store_run.specs.Refusals.{refusal_of_payloads}
use Rattle.store_run.specs.Reopening.{IsReopenFault}
use Rattle.store_run.specs.declared.opening.OpenFault.{OpenFault}
use Rattle.store_run.specs.declared.opening.OpenFault.TheVariants as opening
use Rattle.store_run.specs.declared.refusals.StoreRefusal.{StoreRefusal}
use Rattle.store_run.specs.declared.session.ReopenFault.{ReopenFault}
use Rattle.store_run.specs.declared.session.ReopenFault.TheVariants.{BadRecord, NotConsistent, NoMemory}
use Rattle.store_run.specs.declared.undo_session.MakingFault.{MakingFault}
use Rattle.store_run.specs.declared.undo_session.MakingFault.TheVariants as making
use Rattle.store_copy.specs.Unmade.{unmade_by, unopened_by}

-- ---- payloads that were opened, or not

module _ {T : Type 0} (r : Result (T × Option (List ℕ)) ReopenFault) where
  -- what holds of the state that was opened holds of the state for which they stand
  pub opened_same : (P : T → Option (List ℕ) → Type 0) (t u : T) (v w : Option (List ℕ)) → r ≡ Ok (t, v) → r ≡ Ok (u, w) → P t v → P u w
  opened_same P t u v w e f p = subst (λ (x : T × Option (List ℕ)). P x.0 x.1) (same_ok (t, v) (u, w) r e f) p

  -- payloads that stand are not refused
  pub unmade_memory : (x : T × Option (List ℕ)) → r ≡ Ok x → (fault : ReopenFault) → IsReopenFault r fault → unmade_by fault ≡ making.NoMemory
  unmade_memory x e (BadRecord n) h = let never = sym e ∙ h in cc
  unmade_memory x e (NotConsistent n) h = let never = sym e ∙ h in cc
  unmade_memory x e NoMemory h = refl

  pub unmade_refused : (reason : StoreRefusal) → refusal_of_payloads r ≡ Some reason → (fault : ReopenFault) → IsReopenFault r fault → IsMakingFault (Some reason) (unmade_by fault)
  unmade_refused reason q (BadRecord n) h = sym q ∙ ap refusal_of_payloads h
  unmade_refused reason q (NotConsistent n) h = sym q ∙ ap refusal_of_payloads h
  unmade_refused reason q NoMemory h = tt

-- ---- what was made, or its fault

-- the same text, or what the fault means for the store
abbrev IsOpenedText : {X : Type 0} → Result X MakingFault → Result X OpenFault → Type 0
IsOpenedText made result = MatchResult result (λ text. made ≡ Ok text) (λ fault. (cause : MakingFault) × (made ≡ Err cause) × (fault ≡ unopened_by cause))

refused_by : (reason : StoreRefusal) (cause : MakingFault) → IsMakingFault (Some reason) cause → IsRefusedFor reason (unopened_by cause)
refused_by reason (making.Refused refusal) h = sym (same_Some reason refusal h)
refused_by reason making.NoMemory h = tt

never_at_disk : (cause : MakingFault) → unopened_by cause ≡ opening.DiskFault → ⊥
never_at_disk (making.Refused refusal) e = cc
never_at_disk making.NoMemory e = cc

module _ {X : Type 0} (made : Result X MakingFault) where
  pub text_made : (result : Result X OpenFault) (P : X → Type 0) → IsOpenedText made result → MatchResult made P (λ fault. fault ≡ making.NoMemory) → MatchResult result P FailsToOpen
  text_made (Ok text) P h m = subst (λ (r : Result X MakingFault). MatchResult r P (λ fault. fault ≡ making.NoMemory)) h m
  text_made (Err fault) P h m =
      let is : h.0 ≡ making.NoMemory = subst (λ (r : Result X MakingFault). MatchResult r P (λ fault. fault ≡ making.NoMemory)) h.1 m in
      subst FailsToOpen (sym (h.2 ∙ ap unopened_by is)) tt

  pub text_refused : (result : Result X OpenFault) (reason : StoreRefusal) → IsOpenedText made result → MatchResult made (λ _. ⊥) (IsMakingFault (Some reason))
      → MatchResult result (λ _. ⊥) (IsRefusedFor reason)
  text_refused (Ok text) reason h m = subst (λ (r : Result X MakingFault). MatchResult r (λ _. ⊥) (IsMakingFault (Some reason))) h m
  text_refused (Err fault) reason h m =
      subst (IsRefusedFor reason) (sym h.2) (refused_by reason h.0 (subst (λ (r : Result X MakingFault). MatchResult r (λ _. ⊥) (IsMakingFault (Some reason))) h.1 m))

  pub text_not_at_disk : (result : Result X OpenFault) → IsOpenedText made result → IsErrOf result opening.DiskFault → ⊥
  text_not_at_disk (Ok text) h e = cc
  text_not_at_disk (Err fault) h e = never_at_disk h.0 (sym h.2 ∙ same_fault fault opening.DiskFault e)

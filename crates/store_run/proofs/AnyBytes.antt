-- Any bytes are refused as a store, or hold a state that is in step, and never both.
use Rattle.std.proofs.Common.{◌≡◌, inl, inr, List, ℕ, Option, Some, Result, Ok, Err, refl, sym, ap, ◌∙◌}
use Rattle.gate_log.specs.LogBytes.{LogContent, payloads, not_a_log, bad_record, log_of}
use Rattle.store_run.specs.Refusals.{refusal_of_payloads, refusal_of_log, refusal_in}
use Rattle.store_run.specs.StoreBytes.{HoldsState, IsRefusedOrInStep}
use Rattle.store_run.specs.declared.refusals.StoreRefusal.{StoreRefusal}
use Rattle.store_run.specs.declared.refusals.StoreRefusal.TheVariants.{NotALog, BadRecord, NotConsistent}
use Rattle.store_run.specs.declared.session.ReopenFault.{ReopenFault}
use Rattle.store_run.specs.declared.session.ReopenFault.TheVariants as reopening
use Rattle.store_run.specs.declared.session.StoredSession as OfSession
use Rattle.store_run.proofs.Openings.{never_refused}

-- What payloads represent is in step, and they are never refused since memory ran out.
module _ {A : Type 0} (session : OfSession.Ghosts A) (IsInStep : session.State → Type 0)
    (in_step : (held : List (List ℕ)) (state : session.State) (version : Option (List ℕ)) → session.stands_for held ≡ Ok (state, version) → IsInStep state)
    (known : (held : List (List ℕ)) → session.stands_for held ≡ Err reopening.NoMemory → ⊥) (bytes : List ℕ) where
  refused_by : (held : List (List ℕ)) (r : Result (session.State × Option (List ℕ)) ReopenFault) → log_of bytes ≡ payloads held → session.stands_for held ≡ r → refusal_in session bytes ≡ refusal_of_payloads r
  refused_by held r is e = ap (refusal_of_log session) is ∙ ap refusal_of_payloads e

  by_payloads : (held : List (List ℕ)) (r : Result (session.State × Option (List ℕ)) ReopenFault) → log_of bytes ≡ payloads held → session.stands_for held ≡ r → IsRefusedOrInStep session IsInStep bytes
  by_payloads held (Ok s) is e = inr (record { payloads = held; holds = is; state = s.0; version = s.1; represents = e; in_step = in_step held s.0 s.1 e })
  by_payloads held (Err (reopening.BadRecord n)) is e = inl (BadRecord n, refused_by held (Err (reopening.BadRecord n)) is e)
  by_payloads held (Err (reopening.NotConsistent n)) is e = inl (NotConsistent n, refused_by held (Err (reopening.NotConsistent n)) is e)
  by_payloads held (Err reopening.NoMemory) is e = absurd (known held e)

  by_log : (l : LogContent) → log_of bytes ≡ l → IsRefusedOrInStep session IsInStep bytes
  by_log (payloads held) is = by_payloads held (session.stands_for held) is refl
  by_log not_a_log is = inl (NotALog, ap (refusal_of_log session) is)
  by_log (bad_record n) is = inl (BadRecord n, ap (refusal_of_log session) is)

  pub refused_or_in_step : IsRefusedOrInStep session IsInStep bytes
  refused_or_in_step = by_log (log_of bytes) refl

  pub never_both : (refusal : StoreRefusal) → refusal_in session bytes ≡ Some refusal → HoldsState session IsInStep bytes → ⊥
  never_both refusal q h = never_refused (session.stands_for h.payloads) (h.state, h.version) refusal h.represents (sym (ap (refusal_of_log session) h.holds) ∙ q)

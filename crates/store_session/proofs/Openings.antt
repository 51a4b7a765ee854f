-- What was opened, in the words of a store.
use Rattle.std.proofs.Common.{◌≡◌, ℕ, List, [], ◌∷◌, Option, None, Result, Ok, Err, refl, sym, ap, subst, ◌∙◌}
use Rattle.lens_forms.specs.Forms.{FormTree}
use Rattle.edit_session.specs.Step.{TripleTree}
use Rattle.store_records.specs.RecordOutcomes.{IsBadFirst}
use Rattle.store_records.specs.StoredLens.{stored_lens}
use Rattle.store_records.specs.declared.record_fault.RecordFault.{RecordFault}
use Rattle.store_records.specs.declared.record_fault.RecordFault.TheVariants as of_records
use Rattle.store_run.specs.Reopening.{IsReopenFault}
use Rattle.store_run.specs.declared.session.ReopenFault.{ReopenFault}
use Rattle.store_session.specs.ReopenOutcomes.{IsReopenFault as IsRecordFault}
use Rattle.store_session.specs.Stands.{from_opening, stands}
use Rattle.store_session.specs.Standings.{standing}
use Rattle.store_session.specs.StoredStates.{StoredState, state_with, version_for, fault_of, opened_as, stands_for, counted, changes_counted}

no_lens : (ps : List (List ℕ)) → stored_lens ps ≡ None → stands ps ≡ Err (of_records.BadRecord 1)
no_lens [] h = refl
no_lens (p ∷ ps) h = ap (from_opening ps) h

-- a store without a lens stands for nothing
pub bad_first : (ps : List (List ℕ)) (fault : RecordFault) → IsBadFirst (stored_lens ps) fault → IsRecordFault (stands ps) fault
bad_first ps (of_records.BadRecord number) h = no_lens ps h.1 ∙ ap (λ n. Err (of_records.BadRecord n)) (sym h.0)
bad_first ps (of_records.NotConsistent number) h = absurd h
bad_first ps of_records.NoMemory h = tt

-- the fault of the records is that of the store
pub fault_stands : (ps : List (List ℕ)) (fault : RecordFault) (x : ReopenFault) → IsRecordFault (stands ps) fault → x ≡ fault_of fault → IsReopenFault (stands_for ps) x
fault_stands ps (of_records.BadRecord number) x h e = subst (IsReopenFault (stands_for ps)) (sym e) (ap opened_as h)
fault_stands ps (of_records.NotConsistent number) x h e = subst (IsReopenFault (stands_for ps)) (sym e) (ap opened_as h)
fault_stands ps of_records.NoMemory x h e = subst (IsReopenFault (stands_for ps)) (sym e) tt

-- and so is what was opened
abbrev opened_to : FormTree → TripleTree → Option (List ℕ) → Result (StoredState × Option (List ℕ)) ReopenFault
opened_to l t v = Ok (state_with l t, v)

pub opened_stands : (ps : List (List ℕ)) (l : FormTree) (t : TripleTree) (count number : ℕ) (version : Option (List ℕ)) → stands ps ≡ Ok (standing l t count number)
    → version ≡ version_for number → stands_for ps ≡ Ok (state_with l t, version)
opened_stands ps l t count number version h e =
    ap opened_as h ∙ ap (λ (v : Option (List ℕ)). opened_to l t v) (sym e)

pub opened_counts : (ps : List (List ℕ)) (l : FormTree) (t : TripleTree) (count number : ℕ) → stands ps ≡ Ok (standing l t count number) → count ≡ changes_counted ps
opened_counts ps l t count number h = sym (ap counted h)

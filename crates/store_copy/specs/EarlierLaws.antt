-- A store of a pair represented a state after each record, and goes back to it by its snapshot.
-- Lemmas, which stand here since the laws of an `impl` cite them.
use Rattle.std.proofs.Common.{◌≡◌, ℕ, zero, suc, ◌+◌, ◌<◌, List, [], ◌∷◌, ◌++◌, Option}
use Rattle.std.proofs.Common.{Some, None, Result, Ok, Err, refl, sym, ap, subst, ◌∙◌, take, arith}
use Rattle.lens_forms.specs.Forms.{FormTree}
use Rattle.store_records.specs.RecordJson.{record_in}
use Rattle.store_records.specs.StoredLens.{lens_and_version}
use Rattle.store_records.specs.declared.record_fault.RecordFault.{RecordFault}
use Rattle.store_session.specs.Standings.{standing}
use Rattle.store_session.specs.Stands.{Standing, after_payloads, after_record, at_start, from_opening, going_on, stands}
use Rattle.store_session.specs.StoredStates.{HasSnapshot, StoredState, opened_as, snapshot_text, stands_for, state_of}
use Rattle.store_session.specs.StoredStates.{version_for}
use Rattle.store_session.specs.TypedStores.{typed_stood}
use Rattle.store_session.specs.Written.{the_snapshot}
use Rattle.store_session.specs.WrittenStands.{one_stands}
use Rattle.store_copy.specs.PairLaws.{same_form}

-- what stands after the first payloads
record StandsSo (r : Result Standing RecordFault) : Type 0 where
  pub s : Standing
  pub is : r ≡ Ok s

so_far : (others front : Standing → Result Standing RecordFault) (r : Result Standing RecordFault) (u : Standing)
    → ((t : Standing) → others t ≡ Ok u → StandsSo (front t)) → going_on others r ≡ Ok u → StandsSo (going_on front r)
so_far others front (Ok t) u all h = all t h
so_far others front (Err fault) u all h = cc

front_after : (number n : ℕ) (s u : Standing) (ps : List (List ℕ)) → after_payloads n s ps ≡ Ok u
    → StandsSo (after_payloads n s (take number ps))
front_after zero n s u ps h = record { s = s; is = refl }
front_after (suc number) n s u [] h = record { s = s; is = refl }
front_after (suc number) n s u (p ∷ ps) h =
    so_far (λ t. after_payloads (n + 1) t ps) (λ t. after_payloads (n + 1) t (take number ps))
    (after_record n s (record_in p)) u (λ t more. front_after number (n + 1) t u ps more) h

front_from : (number : ℕ) (ps : List (List ℕ)) (o : Option (FormTree × ℕ)) (u : Standing) → from_opening ps o ≡ Ok u
    → StandsSo (from_opening (take number ps) o)
front_from number ps (Some x) u h = front_after number 2 (at_start x) u ps h
front_from number ps None u h = cc

front_stands : (number : ℕ) (ps : List (List ℕ)) (u : Standing) → 0 < number → stands ps ≡ Ok u
    → StandsSo (stands (take number ps))
front_stands zero ps u some h = absurd (omega (arith, some))
front_stands (suc number) [] u some h = cc
front_stands (suc number) (p ∷ ps) u some h = front_from number ps (lens_and_version p) u h

earlier_by : (number : ℕ) (ps : List (List ℕ)) (t : StoredState) (v : Option (List ℕ))
    (r : Result Standing RecordFault) → stands ps ≡ r → opened_as r ≡ Ok (t, v) → 0 < number
    → (u : StoredState) × (w : Option (List ℕ)) × (stands_for (take number ps) ≡ Ok (u, w))
earlier_by number ps t v (Ok s) e h some =
    let k = front_stands number ps s some e in
    (state_of k.s, version_for k.s.version, ap opened_as k.is)
earlier_by number ps t v (Err fault) e h some = cc

pub earlier_stands : (number : ℕ) (ps : List (List ℕ)) (t : StoredState) (v : Option (List ℕ)) → 0 < number
    → stands_for ps ≡ Ok (t, v)
    → (u : StoredState) × (w : Option (List ℕ)) × (stands_for (take number ps) ≡ Ok (u, w))
earlier_stands number ps t v some h = earlier_by number ps t v (stands ps) refl h some

-- ---- the form is that of all payloads

same_first : (ps qs : List (List ℕ)) (o : Option (FormTree × ℕ)) (s t : Standing) → from_opening ps o ≡ Ok s
    → from_opening qs o ≡ Ok t → s.form ≡ t.form
same_first ps qs (Some x) s t h k = sym (same_form 2 (at_start x) s ps h) ∙ same_form 2 (at_start x) t qs k
same_first ps qs None s t h k = cc

front_form : (number : ℕ) (ps : List (List ℕ)) (s t : Standing) → stands ps ≡ Ok s → stands (take number ps) ≡ Ok t
    → s.form ≡ t.form
front_form zero ps s t h k = cc
front_form (suc number) [] s t h k = cc
front_form (suc number) (p ∷ ps) s t h k = same_first ps (take number ps) (lens_and_version p) s t h k

-- ---- the snapshot behind all payloads

snapshot_again : (ps : List (List ℕ)) (s t : Standing) → stands ps ≡ Ok s → s.form ≡ t.form
    → HasSnapshot (state_of t)
    → stands (ps ++ snapshot_text (state_of t) ∷ []) ≡ Ok (standing t.form t.triple s.count s.version)
snapshot_again ps s t h same has =
    let stood : stands ps ≡ Ok (standing t.form s.triple s.count s.version) =
    subst (λ l. stands ps ≡ Ok (standing l s.triple s.count s.version)) same h in
    one_stands ps (snapshot_text (state_of t)) (the_snapshot t.triple) (standing t.form s.triple s.count s.version)
    (standing t.form t.triple s.count s.version)
    (typed_stood ps (standing t.form s.triple s.count s.version) stood) stood has.reads
    (has.consistent, has.left_whole, has.right_whole, refl)

abbrev Opening : Type 0
Opening = StoredState × Option (List ℕ)

by_parts : (number : ℕ) (ps : List (List ℕ)) (t u : StoredState) (v w : Option (List ℕ))
    (r r' : Result Standing RecordFault) → stands ps ≡ r → opened_as r ≡ Ok (t, v) → stands (take number ps) ≡ r'
    → opened_as r' ≡ Ok (u, w) → HasSnapshot u → stands_for (ps ++ snapshot_text u ∷ []) ≡ Ok (u, v)
by_parts number ps t u v w (Ok s) (Ok s') e h e' h' has =
    let pair : (state_of s, version_for s.version) ≡ (t, v) = cc in
    let other : (state_of s', version_for s'.version) ≡ (u, w) = cc in
    let state : state_of s' ≡ u = ap (λ (x : Opening). x.0) other in
    let version : version_for s.version ≡ v = ap (λ (x : Opening). x.1) pair in
    subst (λ (x : StoredState). stands_for (ps ++ snapshot_text x ∷ []) ≡ Ok (x, v)) state
    (subst (λ (x : Option (List ℕ)). stands_for (ps ++ snapshot_text (state_of s') ∷ []) ≡ Ok (state_of s', x)) version
    (ap opened_as (snapshot_again ps s s' e (front_form number ps s s' e e') (subst HasSnapshot (sym state) has))))
by_parts number ps t u v w (Ok s) (Err fault) e h e' h' has = cc
by_parts number ps t u v w (Err fault) r' e h e' h' has = cc

pub earlier_snapshot_stands : (number : ℕ) (ps : List (List ℕ)) (t u : StoredState) (v w : Option (List ℕ))
    → 0 < number → stands_for ps ≡ Ok (t, v) → stands_for (take number ps) ≡ Ok (u, w) → HasSnapshot u
    → stands_for (ps ++ snapshot_text u ∷ []) ≡ Ok (u, v)
earlier_snapshot_stands number ps t u v w some h h' has =
    by_parts number ps t u v w (stands ps) (stands (take number ps)) refl h refl h' has

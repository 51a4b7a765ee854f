-- A stored record is opened if and only if it is a sealed one.
use Rattle.std.proofs.Common.{◌≡◌, ℕ, List, Bool, true, false, bytes_eq, if◌then◌else◌, Option, Some, None, refl, sym, ap, ap₂, ◌∙◌}
use Rattle.std.proofs.lemmas.Bool.{false≢true}
use Rattle.std.proofs.lemmas.Slice.Eq.{bytes_eq-Decides}
use Rattle.sealed_log.specs.SealedRecords.{sealed_record, payload_in, opened_record}
use Rattle.sealed_log.proofs.PayloadPlaces.{payload_in-sealed}

-- what is opened
abbrev chosen : List ℕ → Bool → Option (List ℕ)
chosen payload same = if same then Some payload else None

pub opened-sealed : (before number : ℕ) (payload : List ℕ) → opened_record before number (sealed_record before number payload) ≡ Some payload
opened-sealed before number payload =
    let stored : List ℕ = sealed_record before number payload in
    let inside : payload_in number stored ≡ payload = payload_in-sealed before number payload in
    let again : stored ≡ sealed_record before number (payload_in number stored) = ap (sealed_record before number) (sym inside) in
    ap₂ chosen inside ((bytes_eq-Decides stored (sealed_record before number (payload_in number stored))).1 again)

chosen-some : (payload found : List ℕ) (same : Bool) → chosen payload same ≡ Some found → same ≡ true
chosen-some payload found true e = refl
chosen-some payload found false e = absurd (cc e)

chosen-is : (payload found : List ℕ) (same : Bool) → chosen payload same ≡ Some found → payload ≡ found
chosen-is payload found true e = cc e
chosen-is payload found false e = absurd (cc e)

-- what is opened is the record that its payload is sealed as
pub opened-some : (before number : ℕ) (stored payload : List ℕ) → opened_record before number stored ≡ Some payload → stored ≡ sealed_record before number payload
opened-some before number stored payload e =
    let inside : List ℕ = payload_in number stored in
    let test : Bool = bytes_eq stored (sealed_record before number inside) in
    (bytes_eq-Decides stored (sealed_record before number inside)).0 (chosen-some inside payload test e)
    ∙ ap (sealed_record before number) (chosen-is inside payload test e)

none_by : (o : Option (List ℕ)) → ((payload : List ℕ) → o ≡ Some payload → ⊥) → o ≡ None
none_by None never = refl
none_by (Some payload) never = absurd (never payload refl)

-- what is no sealed record is not opened
pub opened-none : (before number : ℕ) (stored : List ℕ) → ((payload : List ℕ) → stored ≡ sealed_record before number payload → ⊥)
    → opened_record before number stored ≡ None
opened-none before number stored never =
    none_by (opened_record before number stored) (λ payload e. never payload (opened-some before number stored payload e))

-- ---- by a comparison with what is sealed anew

pub opened-other : (before number : ℕ) (stored found : List ℕ) → found ≡ sealed_record before number (payload_in number stored) → bytes_eq found stored ≡ false
    → opened_record before number stored ≡ None
opened-other before number stored found is unlike =
    opened-none before number stored (λ payload e.
    let inside : payload_in number stored ≡ payload = ap (payload_in number) e ∙ payload_in-sealed before number payload in
    let same : found ≡ stored = is ∙ ap (sealed_record before number) inside ∙ sym e in
    false≢true (sym unlike ∙ (bytes_eq-Decides found stored).1 same))

pub opened-same : (before number : ℕ) (stored found : List ℕ) → found ≡ sealed_record before number (payload_in number stored) → bytes_eq found stored ≡ true
    → opened_record before number stored ≡ Some (payload_in number stored)
opened-same before number stored found is like =
    let same : stored ≡ sealed_record before number (payload_in number stored) = sym ((bytes_eq-Decides found stored).0 like) ∙ is in
    ap (opened_record before number) same ∙ opened-sealed before number (payload_in number stored)

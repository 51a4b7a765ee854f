-- The laws of undoing the last changes of the store of a hub. Lemmas, which stand here since the laws of an `impl` cite
-- them.
use Rattle.std.proofs.Common.{◌≡◌, ℕ, List, [], ◌∷◌, ◌++◌, Option, Some, None, Result, Ok, Err, refl, ap, ◌∙◌}
use Rattle.std.proofs.Common.{append-nil}
use Rattle.std.specs.Prelude.{option_map, option_and_then}
use Rattle.store_records.specs.declared.record_fault.RecordFault.{RecordFault}
use Rattle.store_undo.specs.Undoing.{payloads_before}
use Rattle.view_hub.specs.Hubs.{HubTree, CarriedTree}
use Rattle.hub_records.specs.HubChanges.{HubChangeTree}
use Rattle.hub_records.specs.HubStands.{HubStanding, stands_as_hub}
use Rattle.hub_undo.specs.HubUndoing.{HubUndoing, hub_undoing_from, hub_undoing_of, hub_undoing, last_hub_changes}
use Rattle.hub_undo.specs.HubUndoing.{hub_refusal_of, hub_undo_refusal, RepresentsNow}

made_from : (now : HubStanding) (h : HubTree) (o : Option (HubTree × CarriedTree)) (u : HubUndoing)
    → option_map {U = HubUndoing} (λ (r : HubTree × CarriedTree). record { now = now; before = h; words = r.1 }) o
    ≡ Some u → now ≡ u.now
made_from now h (Some r) u e =
    let same : record { now = now; before = h; words = r.1 } ≡ u = cc in
    ap (λ (x : HubUndoing). x.now) same
made_from now h None u e = cc

from_now : (now : HubStanding) (cs : List HubChangeTree) (r : Result HubStanding RecordFault) (u : HubUndoing)
    → hub_undoing_from now cs r ≡ Some u → now ≡ u.now
from_now now cs (Ok was) u e = made_from now was.hub _ u e
from_now now cs (Err fault) u e = cc

of_changes : (now : HubStanding) (r : Result HubStanding RecordFault) (o : Option (List HubChangeTree)) (u : HubUndoing)
    → option_and_then (λ (cs : List HubChangeTree). hub_undoing_from now cs r) o ≡ Some u
    → (now ≡ u.now) × (hub_refusal_of (Ok now) o ≡ None)
of_changes now r (Some cs) u e = (from_now now cs r u e, refl)
of_changes now r None u e = cc

of_standing : (count : ℕ) (held : List (List ℕ)) (r : Result HubStanding RecordFault) (u : HubUndoing)
    → stands_as_hub held ≡ r → hub_undoing_of count held r ≡ Some u
    → (stands_as_hub held ≡ Ok u.now) × (hub_refusal_of r (last_hub_changes count held) ≡ None)
of_standing count held (Ok now) u is e =
    let both = of_changes now (stands_as_hub (payloads_before count held)) (last_hub_changes count held) u e in
    (is ∙ ap Ok both.0, both.1)
of_standing count held (Err fault) u is e = cc

pub never_refused : (count : ℕ) (held : List (List ℕ)) (u : HubUndoing) → hub_undoing count held ≡ Some u
    → hub_undo_refusal count held ≡ None
never_refused count held u e = (of_standing count held (stands_as_hub held) u refl e).1

-- no record is before the snapshot
pub version_stands : (count : ℕ) (held front rest : List (List ℕ)) (u : HubUndoing) → hub_undoing count held ≡ Some u
    → [] ≡ front ++ rest → RepresentsNow (held ++ front) u
version_stands count held [] rest u e none =
    ap stands_as_hub (append-nil held) ∙ (of_standing count held (stands_as_hub held) u refl e).0
version_stands count held (p ∷ front) rest u e none = cc

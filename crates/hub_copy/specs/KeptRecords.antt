-- The payloads of the store of a hub that stay if others are left out, and the hub that they stand for.
-- Read it from the end: `KeepsViews`, `HasMoreViews`, then `kept_records`.
use Rattle.std.specs.Prelude.{◌≡◌, ℕ, Bool, true, false, List, [], ◌∷◌, ◌++◌, take, drop, Option, Some}
use Rattle.std.specs.Prelude.{if◌then◌else◌, Ok}
use Rattle.view_hub.specs.Hubs.{ViewTree}
use Rattle.hub_records.specs.HubRecords.{HubRecordTree, add_record, hub_record_in}
use Rattle.hub_records.specs.HubStands.{HubStanding, stands_as_hub}

-- the record is of a view more
abbrev pub is_view_more : Option HubRecordTree → Bool
is_view_more (Some (add_record text)) = true
is_view_more _ = false

-- the payload adds a view
abbrev pub adds_view : List ℕ → Bool
adds_view payload = is_view_more (hub_record_in payload)

-- those of some payloads that add a view, in order
abbrev pub added_views : List (List ℕ) → List (List ℕ)
added_views [] = []
added_views (p ∷ ps) = if adds_view p then p ∷ added_views ps else added_views ps

-- the first payloads, as many as the number says or all, and of the others those that add a view
abbrev pub kept_records : ℕ → List (List ℕ) → List (List ℕ)
kept_records number payloads = take number payloads ++ added_views (drop number payloads)

-- The same document and the same number of changes, and behind the views that there were, more of them.
pub record HasMoreViews (before after : HubStanding) : Type 0 where
  pub document : after.hub.hub ≡ before.hub.hub
  pub later : List ViewTree
  pub views : after.hub.views ≡ before.hub.views ++ later
  pub count : after.count ≡ before.count

-- The first payloads stood for a hub. What is kept has the lenses of all payloads, and stands for that hub, with the
-- views behind its own that were added later.
pub record KeepsViews (number : ℕ) (payloads : List (List ℕ)) (all : HubStanding) : Type 0 where
  pub before : HubStanding
  pub stood : stands_as_hub (take number payloads) ≡ Ok before
  pub kept : HubStanding
  pub stand : stands_as_hub (kept_records number payloads) ≡ Ok kept
  pub lenses : kept.forms ≡ all.forms
  pub more : HasMoreViews before kept

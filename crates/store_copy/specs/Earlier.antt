-- What going back to an earlier state needs of a session: `EarlierStands`, and `EarlierSnapshotStands`.
use Rattle.std.specs.Prelude.{◌≡◌, ℕ, ◌<◌, List, [], ◌∷◌, ◌++◌, Option, Ok}
use Rattle.store_run.specs.declared.session.StoredSession as OfSession

-- `earlier` says which payloads stand for the state to which a store goes back, of the number of a record and all
-- payloads.
module _ {A : Type 0} (session : OfSession.Ghosts A) (earlier : ℕ → List (List ℕ) → List (List ℕ)) where
  -- these payloads stand for a state if all do
  abbrev pub EarlierStands : Type 0
  EarlierStands = (number : ℕ) (ps : List (List ℕ)) (t : session.State) (v : Option (List ℕ)) → 0 < number
      → session.stands_for ps ≡ Ok (t, v)
      → (u : session.State) × (w : Option (List ℕ)) × (session.stands_for (earlier number ps) ≡ Ok (u, w))

  -- the snapshot of the earlier state stands for that state behind all payloads, and leaves the version
  abbrev pub EarlierSnapshotStands : Type 0
  EarlierSnapshotStands = (number : ℕ) (ps : List (List ℕ)) (t u : session.State) (v w : Option (List ℕ))
      → 0 < number → session.stands_for ps ≡ Ok (t, v) → session.stands_for (earlier number ps) ≡ Ok (u, w)
      → session.has_snapshot u
      → session.stands_for (ps ++ session.snapshot_text u ∷ []) ≡ Ok (u, v)

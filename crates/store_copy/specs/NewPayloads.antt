-- The payloads of a store that is made anew, and the line that says so. Read it from the end: `IsPlanned`, `IsAllowed`,
-- `IsTakenBack`, `IsCopied`, then `IsCompacted`.
use Rattle.std.specs.Prelude.{◌≡◌, ℕ, ◌<◌, List, [], ◌∷◌, ◌++◌, length, codes, decimal, Option, None, Ok}
use Rattle.store_run.specs.declared.session.StoredSession as OfSession
use Rattle.store_copy.specs.declared.new_payloads.Remaking.{Remaking}
use Rattle.store_copy.specs.declared.new_payloads.Remaking.TheVariants.{Compact, Copy, Back}

-- `compacted N M`: how many records the store had, and how many the new one has
abbrev pub compacted_line : ℕ → ℕ → List ℕ
compacted_line before after = codes "compacted " ++ decimal before ++ codes " " ++ decimal after ++ codes "\n"

-- `copied N`
abbrev pub copied_line : ℕ → List ℕ
copied_line count = codes "copied " ++ decimal count ++ codes "\n"

-- `back N`
abbrev pub back_line : ℕ → List ℕ
back_line number = codes "back " ++ decimal number ++ codes "\n"

-- A store has some payloads, which stand for the state t, with the version record if it is still to be stored.
module _ {A : Type 0} (session : OfSession.Ghosts A) (beginning : List (List ℕ) → List (List ℕ)) where
  -- The new payloads are those that such a store begins with, and the snapshot of the state. They stand for the same
  -- state, none is of a change, and the line is `compacted N M`.
  pub record IsCompacted (before : List (List ℕ)) (t : session.State) (version : Option (List ℕ))
      (payloads : List (List ℕ)) (line : List ℕ) : Type 0 where
    pub has : session.has_snapshot t
    pub are : payloads ≡ beginning before ++ session.snapshot_text t ∷ []
    pub stand : session.stands_for payloads ≡ Ok (t, None)
    pub forgets : session.count_of payloads ≡ 0
    pub said : line ≡ compacted_line (length before) (length payloads)

module _ {A : Type 0} (session : OfSession.Ghosts A) where
  -- The new payloads are the same, so they stand for the same state. The line is `copied N`.
  pub record IsCopied (before : List (List ℕ)) (t : session.State) (version : Option (List ℕ))
      (payloads : List (List ℕ)) (line : List ℕ) : Type 0 where
    pub are : payloads ≡ before
    pub stand : session.stands_for payloads ≡ Ok (t, version)
    pub said : line ≡ copied_line (length before)

-- `earlier_payloads` says which payloads stand for the state to which a store goes back, of the number of a record and
-- all payloads.
module _ {A : Type 0} (session : OfSession.Ghosts A) (earlier_payloads : ℕ → List (List ℕ) → List (List ℕ)) where
  -- The new payloads are the same and one more, the snapshot of the earlier state. They stand for that state, at the
  -- version from before. The line is `back N`.
  pub record IsTakenBack (number : ℕ) (before : List (List ℕ)) (t : session.State) (version : Option (List ℕ))
      (payloads : List (List ℕ)) (line : List ℕ) : Type 0 where
    pub earlier : session.State
    pub due : Option (List ℕ)
    pub stood : session.stands_for (earlier_payloads number before) ≡ Ok (earlier, due)
    pub has : session.has_snapshot earlier
    pub are : payloads ≡ before ++ session.snapshot_text earlier ∷ []
    pub stand : session.stands_for payloads ≡ Ok (earlier, version)
    pub said : line ≡ back_line number

-- what a command needs: only going back needs something, a record that there may be
abbrev pub IsAllowed : Remaking → Type 0
IsAllowed Compact = Unit {0}
IsAllowed Copy = Unit {0}
IsAllowed (Back number) = 0 < number

-- what each command makes
abbrev pub IsPlanned : {A : Type 0} → (session : OfSession.Ghosts A) → (List (List ℕ) → List (List ℕ))
    → (ℕ → List (List ℕ) → List (List ℕ)) → Remaking → List (List ℕ) → session.State → Option (List ℕ)
    → List (List ℕ) → List ℕ → Type 0
IsPlanned session beginning earlier Compact before t version payloads line =
    IsCompacted session beginning before t version payloads line
IsPlanned session beginning earlier Copy before t version payloads line =
    IsCopied session before t version payloads line
IsPlanned session beginning earlier (Back number) before t version payloads line =
    IsTakenBack session earlier number before t version payloads line

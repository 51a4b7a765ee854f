-- What `undo` makes before anything is stored. Read it from the end: `IsMakingFault`, then `IsMade`.
use Rattle.std.specs.Prelude.{◌≡◌, ℕ, List, Option, Some}
use Rattle.store_run.specs.declared.refusals.StoreRefusal.{StoreRefusal}
use Rattle.store_run.specs.declared.undo_session.Making.{Making}
use Rattle.store_run.specs.declared.undo_session.MakingFault.{MakingFault}
use Rattle.store_run.specs.declared.undo_session.MakingFault.TheVariants.{Refused, NoMemory}

-- Undoing the last changes comes to something, and what is made is what that stores and writes.
pub record IsMade {Undone : Type 0} (found : Option Undone) (version_due : Undone → Option (List ℕ))
    (snapshot_text undo_text : Undone → List ℕ) (TakesBack : Undone → Type 0) (made : Making) : Type 0 where
  pub u : Undone
  pub is : found ≡ Some u
  pub version : made.version ≡ version_due u
  pub snapshot : made.texts.payload ≡ snapshot_text u
  pub lines : made.texts.lines ≡ undo_text u
  pub takes_back : TakesBack u

-- the refusal is the one that there is; running out of memory says nothing
abbrev pub IsMakingFault : Option StoreRefusal → MakingFault → Type 0
IsMakingFault wanted (Refused refusal) = wanted ≡ Some refusal
IsMakingFault wanted NoMemory = Unit {0}

-- The log that a caller keeps of a session. Read it from the end: `IsLogged`, `IsLoggedFirst`, `IsLog`, then
-- `log_text`.
use Rattle.std.specs.Prelude.{◌≡◌, ℕ, List, [], ◌∷◌, ◌++◌, true, Ok}
use Rattle.edit_session.specs.Views.{triple_tree}
use Rattle.lens_forms.specs.Typing.{is_typed}
use Rattle.store_session.specs.Stands.{stands}
use Rattle.store_session.specs.Standings.{standing}
use Rattle.embed_session.specs.Journals.{IsSameState}
use Rattle.embed_session.specs.Embedded.{IsStepped, IsShown, text_of}
use Rattle.embed_session.specs.Steps.{form_of}
use Rattle.embed_session.specs.declared.embedded.EmbeddedSession.{EmbeddedSession}
use Rattle.embed_session.specs.declared.embedded.EmbeddedSession.TheVariants as embedded
use Rattle.embed_session.specs.declared.outcome.Outcome.{Outcome}
use Rattle.embed_session.specs.declared.outcome.Outcome.TheVariants as outcome
use Rattle.embed_session.specs.declared.outcome.Part.TheVariants as part
use Rattle.embed_session.specs.declared.running.Running.{Running}

-- the records, with an LF behind each
abbrev pub log_text : List (List ℕ) → List ℕ
log_text [] = []
log_text (text ∷ records) = text ++ 10 ∷ log_text records

-- the records stand for the session, in a log of version 2
pub record IsLog (records : List (List ℕ)) (r : Running) : Type 0 where
  pub count : ℕ
  pub stand : stands records ≡ Ok (standing (form_of r) (triple_tree r.session.triple) count 2)
  pub typed : is_typed (form_of r) ≡ true

-- a session of the form and at the triple of this one; or memory ran out
abbrev pub IsSameSession : EmbeddedSession → EmbeddedSession → Type 0
IsSameSession (embedded.Open r) k = IsSameState (form_of r) (triple_tree r.session.triple) k
IsSameSession before k = ⊥

-- the change is shown, and its text is the record
pub record IsRecorded (stepped : EmbeddedSession) (records : List (List ℕ)) (next : EmbeddedSession) : Type 0 where
  pub shown : IsShown stepped part.Change outcome.Done next
  pub are : records ≡ text_of next ∷ []

-- a line that was accepted has a record, which is shown then; any other has none
abbrev pub records_line : Outcome → EmbeddedSession → List (List ℕ) → EmbeddedSession → Type 0
records_line outcome.Done stepped records next = IsRecorded stepped records next
records_line end stepped records next = (records ≡ []) × (next ≡ stepped)

-- one line was given and recorded, and then the others
pub record IsLoggedFirst (before : EmbeddedSession) (line : List ℕ) (records : List (List ℕ)) (others : EmbeddedSession → List (List ℕ)
    → Type 0) : Type 0 where
  pub stepped : EmbeddedSession
  pub end : Outcome
  pub next : EmbeddedSession
  pub own : List (List ℕ)
  pub rest : List (List ℕ)
  pub steps : IsStepped before line end stepped
  pub recorded : records_line end stepped own next
  pub are : records ≡ own ++ rest
  pub others_logged : others next rest

-- these lines were given one after another, whatever came of each, and these are the records of those that were
-- accepted
abbrev pub IsLogged : EmbeddedSession → List (List ℕ) → List (List ℕ) → EmbeddedSession → Type 0
IsLogged before [] records after = (records ≡ []) × (after ≡ before)
IsLogged before (line ∷ lines) records after =
    IsLoggedFirst before line records (λ next rest. IsLogged next lines rest after)

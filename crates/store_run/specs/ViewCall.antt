-- The commands that only read a store: what they write, and how they end. Read it from the end: `Views`, then
-- `view_text`.
use Rattle.std.specs.Prelude.{◌≡◌, ◌⊎◌, ℕ, List}
use Rattle.lens_io.specs.Calls.{Gave, GaveFront}
use Rattle.lens_io.specs.declared.sink.Sink as OfSink
use Rattle.store_run.specs.CountLines.{consistent_line}
use Rattle.store_run.specs.Refusals.{FailsEarly}
use Rattle.store_run.specs.declared.session.StoredSession as OfSession
use Rattle.command_ends.specs.declared.status.Status.{Status}
use Rattle.command_ends.specs.declared.status.Status.TheVariants as ending
use Rattle.store_run.specs.declared.view_call.StoreView.{StoreView}
use Rattle.store_run.specs.declared.view_call.StoreView.TheVariants as view

-- the text of a view: the state lines for `show`, and the line `consistent N` for `verify`
abbrev pub view_text : {A : Type 0} → (session : OfSession.Ghosts A) → StoreView → session.State → ℕ → List ℕ
view_text session view.State t count = session.state_text t
view_text session view.Count t count = consistent_line count

-- The text was written. Or the sink failed at it, or the disk failed or memory ran out before it.
abbrev pub Views : {K : Type 0} → OfSink.Ghosts K → K → K → List ℕ → Status → Type 0
Views sink old new text status =
    (status ≡ ending.Done) × Gave sink old new text
    ⊎ (status ≡ ending.SinkFault) × GaveFront sink old new text
    ⊎ FailsEarly sink old new status

-- The end of a command by a refusal: its line was written, which is no `ok` line.
use Rattle.command_ends.specs.Statuses.{IsFinished}
use Rattle.std.proofs.Common.{◌≡◌, ◌⊎◌, inl, inr, ℕ, List, [], ◌∷◌, ◌++◌, take, refl, sym, append-nil, ap, subst, ◌∙◌}
use Rattle.std.specs.Prelude.{codes, decimal}
use Rattle.lens_io.specs.Calls.{Gave, GaveFront}
use Rattle.lens_io.specs.declared.sink.Sink as OfSink
use Rattle.store_run.specs.OkLines.{ok_lines, AreOtherLines}
use Rattle.store_run.specs.Refusals.{refusal_line, WritesRefusal}
use Rattle.store_run.specs.declared.refusals.StoreRefusal.{StoreRefusal}
use Rattle.store_run.specs.declared.refusals.StoreRefusal.TheVariants.{NotALog, LogExists, LogFull, BadRecord, NotConsistent, NothingToUndo}
use Rattle.command_ends.specs.declared.status.Status.{Status}
use Rattle.command_ends.specs.declared.status.Status.TheVariants as ending
use Rattle.store_run.proofs.ApplyEndsHold.{none_of, none_of_front}

-- these bytes were written, and no `ok` line among them
abbrev pub GivesOther : {K : Type 0} → OfSink.Ghosts K → K → K → Type 0
GivesOther sink old new = (given : List ℕ) × (ok_lines given ≡ 0) × Gave sink old new given

-- a line was written that is the one of this refusal, or a prefix of it
pub refuses_given : {K : Type 0} (sink : OfSink.Ghosts K) (old new : K) (line : List ℕ) (r r' : StoreRefusal) (status : Status) → line ≡ refusal_line r → r' ≡ r
    → (status ≡ ending.StoreRefused) × Gave sink old new line ⊎ (status ≡ ending.SinkFault) × GaveFront sink old new line → WritesRefusal sink old new r' status
refuses_given sink old new line r r' status e is (inl h) = inl (h.0, subst (Gave sink old new) (e ∙ ap refusal_line (sym is)) h.1)
refuses_given sink old new line r r' status e is (inr h) = inr (inl (h.0, subst (λ (x : List ℕ). GaveFront sink old new x) (e ∙ ap refusal_line (sym is)) h.1))

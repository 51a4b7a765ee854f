-- What `gen` promises.
use Rattle.std.specs.Prelude.{◌≡◌, ◌⊎◌, ℕ}
use Rattle.lens_io.specs.Calls.{SinkFailed}
use Rattle.lens_io.specs.declared.sink.Sink as OfSink
use Rattle.editlens_main.specs.Generated.{WritesSummary}
use Rattle.command_ends.specs.declared.status.Status.{Status}
use Rattle.command_ends.specs.declared.status.Status.TheVariants.{Done, NoMemory}

pub record Generates (count seed : ℕ) {K : Type 0} (sink : OfSink.Ghosts K) (old new : K)
    (status : Status) : Type 0 where
  -- at its end the summary of the generated run was written, in which every entry is accepted; else a beginning of it,
  -- or nothing
  pub reports : WritesSummary count seed (sink.held old) (sink.held new) status
  -- if the sink does not fail, it comes to its end, or memory runs out
  pub completes : (SinkFailed sink old new → ⊥) → (status ≡ Done) ⊎ (status ≡ NoMemory)

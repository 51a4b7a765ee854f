-- An input whose rest was read and forgotten.
use Rattle.std.specs.Prelude.{ℕ, ◌+◌, ◌≤◌, List, length, Result, IfOk, IfErr}
use Rattle.std.specs.declared.option.Option.{Option}
use Rattle.std.specs.Io.KnownBytes.{Consumes, IsAtEnd}
use Rattle.lens_io.specs.declared.failed.TakeFault.{TakeFault}
use Rattle.script_input.specs.Taking.{StopsSkipping}
use Rattle.script_input.specs.declared.limits.TheConstants.{MOST_BYTES}

-- These bytes were taken behind those before, up to the end or to a fault.
pub record SkipsRest (before : ℕ) (left left' : Option (List ℕ)) (result : Result (Unit {0}) TakeFault) : Type 0 where
  pub more : List ℕ
  pub consumes : Consumes left left' more
  pub at_most : before + length more ≤ MOST_BYTES + 1
  pub ends : IfOk result (λ _. IsAtEnd left' × (before + length more ≤ MOST_BYTES))
  pub stops : IfErr result (StopsSkipping (before + length more))

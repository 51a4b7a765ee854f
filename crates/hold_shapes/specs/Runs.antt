-- Origins that are kept as runs. Read it from the end: `all_origins` are the origins of runs, `run_origins` those of
-- one run.
use Rattle.std.specs.Prelude.{ℕ, ◌+◌, ◌≤◌, ◌^◌, List, [], ◌∷◌, ◌++◌, map, replicate}
use Rattle.std.specs.List.{range_with_len}
use Rattle.hold_shapes.specs.declared.origins.Origin.{Origin}
use Rattle.hold_shapes.specs.declared.origins.Origin.TheVariants.{Old, Fresh}

-- a run of n origins: old places that follow one another from the first one, or fresh places
abbrev pub run_origins : Origin → ℕ → List Origin
run_origins (Old k) n = map Old (range_with_len k n)
run_origins Fresh n = replicate n Fresh

-- each old place of the run is below 2 ^ 64
abbrev pub RunFits : Origin → ℕ → Type 0
RunFits (Old k) n = k + n ≤ 2 ^ 64
RunFits Fresh n = Unit {0}

-- the origins of runs, one run after another
abbrev pub all_origins : List (List Origin) → List Origin
all_origins [] = []
all_origins (run ∷ runs) = run ++ all_origins runs

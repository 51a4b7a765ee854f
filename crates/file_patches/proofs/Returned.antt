-- What holds for what a definition has holds for what a call returns.
use Rattle.std.proofs.Common.{Result, Ok, Err, IfOk}
use Rattle.file_patches.specs.declared.fault.Fault.{Fault}
use Rattle.file_patches.specs.Results.{Gives}
use Rattle.file_patches.proofs.Keeps.{OkHas, of_ok}

pub returned_has : {X Y C : Type 0} (Holds : Y → Type 0) (view : X → Y) (r : Result X (Fault C)) (made : Result Y C) → Gives view r made → OkHas Holds made → IfOk r (λ x. Holds (view x))
returned_has Holds view (Ok x) made g h = of_ok Holds made (view x) g h
returned_has Holds view (Err e) made g h = tt

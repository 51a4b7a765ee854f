-- What holds of the tree that a definition has holds of the one that a call returns.
use Rattle.std.proofs.Common.{Result, Ok, Err, IfOk, subst}
use Rattle.file_patches.specs.declared.fault.Fault.{Fault}
use Rattle.file_patches.specs.declared.fault.Fault.TheVariants.{Refused, NoMemory}
use Rattle.file_patches.specs.Results.{Gives}

pub if_made : {X Y C : Type 0} (P : Y → Type 0) (view : X → Y) (r : Result X (Fault C)) (made : Result Y C) → Gives view r made → IfOk made P → IfOk r (λ x. P (view x))
if_made P view (Ok x) made g h = subst (λ m. IfOk m P) g h
if_made P view (Err (Refused c)) made g h = tt
if_made P view (Err NoMemory) made g h = tt

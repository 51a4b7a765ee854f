-- What was found, and what was refused.
use Rattle.std.proofs.Common.{Result, Ok, Err, IfOk, IsErrOf}
use Rattle.complement_file.specs.Reading.{Refuses, Finds}
use Rattle.complement_file.specs.declared.fault.CompFault.{CompFault}
use Rattle.complement_file.specs.declared.fault.CompFault.TheVariants.{NotAComplement, NoMemory}

-- what is refused with a part is refused with the whole
pub refused_with : {X Y : Type 0} (fault : CompFault) (Part : X → Type 0) (Whole : Y → Type 0) → (((x : X) → Part x → ⊥) → (y : Y) → Whole y → ⊥) → Refuses Part fault → Refuses Whole fault
refused_with NotAComplement Part Whole as_part h = as_part h
refused_with NoMemory Part Whole as_part h = tt

-- what holds of all that is wanted holds of what is found
pub found_is : {X Y : Type 0} (view : X → Y) (Wanted P : Y → Type 0) (r : Result X CompFault) → ((y : Y) → Wanted y → P y) → Finds Wanted view r → IfOk r (λ x. P (view x))
found_is view Wanted P (Ok x) each h = each (view x) h
found_is view Wanted P (Err fault) each h = tt

pub refused_none : {X Y : Type 0} (view : X → Y) (Wanted : Y → Type 0) (r : Result X CompFault) → IsErrOf r NotAComplement → Finds Wanted view r → (y : Y) → Wanted y → ⊥
refused_none view Wanted (Ok x) refused h = cc
refused_none view Wanted (Err NotAComplement) refused h = h
refused_none view Wanted (Err NoMemory) refused h = cc

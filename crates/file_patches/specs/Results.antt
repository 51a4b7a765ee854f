-- What a call returns: what the definition has, or nothing where memory ran out.
use Rattle.std.specs.Prelude.{◌≡◌, Result, Ok, Err}
use Rattle.file_patches.specs.declared.fault.Fault.{Fault}
use Rattle.file_patches.specs.declared.fault.Fault.TheVariants.{Refused, NoMemory}

-- the value goes on, and a refusal stays
abbrev pub and_then : {A B E : Type 0} → (A → Result B E) → Result A E → Result B E
and_then f (Ok a) = f a
and_then f (Err e) = Err e

abbrev pub on_ok : {A B E : Type 0} → (A → B) → Result A E → Result B E
on_ok f (Ok a) = Ok (f a)
on_ok f (Err e) = Err e

-- what is returned, value or refusal, is what the definition has; running out of memory says nothing
abbrev pub Gives : {X Y C : Type 0} → (X → Y) → Result X (Fault C) → Result Y C → Type 0
Gives view (Ok x) made = made ≡ Ok (view x)
Gives view (Err (Refused cause)) made = made ≡ Err cause
Gives view (Err NoMemory) made = Unit {0}

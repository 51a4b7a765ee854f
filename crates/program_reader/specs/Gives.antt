-- What the code reads, compared with what reading from left to right gives: `Gives` for a value and the point behind
-- it, and three forms of it for parts.
use Rattle.std.specs.Prelude.{◌≡◌, ℕ, Option, Some, None, Result, Ok, Err}
use Rattle.program_grammar.specs.Mentions.{Point}
use Rattle.program_grammar.specs.Reading.{Read}
use Rattle.program_reader.specs.declared.fault.ReadFault.{ReadFault}
use Rattle.program_reader.specs.declared.fault.ReadFault.TheVariants as faults

-- reading stops for this fault; running out of memory says nothing
abbrev pub Fails : {A : Type 0} → ReadFault → Result A (Option ℕ) → Type 0
Fails faults.NoMemory read = Unit {0}
Fails faults.Ended read = read ≡ Err None
Fails (faults.At at) read = read ≡ Err (Some at)

-- reading gives the value, as it is viewed, and the point behind it, or stops for the fault
abbrev pub Gives : {X Y : Type 0} → (X → Y) → Result X ReadFault → Point → Read Y → Type 0
Gives view (Ok x) behind read = read ≡ Ok (view x, behind)
Gives view (Err fault) behind read = Fails fault read

-- reading gives what is left, or stops for the fault
abbrev pub GivesRest : {Rest : Type 0} → Result (Unit {0}) ReadFault → Rest → Result Rest (Option ℕ) → Type 0
GivesRest (Ok x) rest read = read ≡ Ok rest
GivesRest (Err fault) rest read = Fails fault read

-- reading gives the value, as it is viewed, or stops for the fault
abbrev pub GivesAll : {X Y : Type 0} → (X → Y) → Result X ReadFault → Result Y (Option ℕ) → Type 0
GivesAll view (Ok x) read = read ≡ Ok (view x)
GivesAll view (Err fault) read = Fails fault read

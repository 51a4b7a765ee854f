-- Counts of faults, and prefixes of what is written.
use Rattle.std.proofs.Common.{◌≤◌, ◌+◌, ℕ, List, ◌++◌, length, Option, take, refl, sym, subst, length-append, arith}
use Rattle.std.specs.Io.KnownBytes.{Appends}
use Rattle.std.proofs.KnownBytes.{Appends-trans}
use Rattle.edit_journal.specs.declared.line.Line.{Line}
use Rattle.run_scripts.specs.LineEnds.{WritesPart, WritesStopped, LeavesLines}
use Rattle.run_scripts.specs.declared.stopped.Stopped.{Stopped}
use Rattle.run_scripts.specs.declared.stopped.Stopped.TheVariants.{SourceFault, TooLong, SinkFault, NoMemory}
use Rattle.lens_io.proofs.Increases.{front_behind}
use Rattle.std.proofs.Math.Seq.{take-append-add}

-- what was written at a stop, behind what was written before
pub part_behind : (stopped : Stopped) (a b c : Option (List ℕ)) (text more : List ℕ) → Appends a b text → WritesPart b c more stopped → WritesPart a c (text ++ more) stopped
part_behind SinkFault a b c text more h w = front_behind a b c text more h w
part_behind NoMemory a b c text more h w = Appends-trans a b c text more h w
part_behind SourceFault a b c text more h w = w
part_behind TooLong a b c text more h w = w

-- how many bytes were written in all, at least those before
pub stopped_behind : (stopped : Stopped) (a b c : Option (List ℕ)) (text more : List ℕ) → Appends a b text → WritesPart b c more stopped
    → (count : ℕ) × (length text ≤ count) × WritesStopped (text ++ more) count a c stopped
stopped_behind SinkFault a b c text more h w =
    (length text + w.0, omega arith, (omega (arith, w.1, length-append text more), subst (Appends a c) (sym (take-append-add text more w.0)) (Appends-trans a b c text (take w.0 more) h w.2)))
stopped_behind NoMemory a b c text more h w = (length (text ++ more), omega (arith, length-append text more), (refl, Appends-trans a b c text more h w))
stopped_behind SourceFault a b c text more h w = absurd w
stopped_behind TooLong a b c text more h w = absurd w

-- a stop at which answers were still to be written may leave any lines
pub leaves_any : (stopped : Stopped) (taken : ℕ) (rest : List Line) (a b : Option (List ℕ)) (text : List ℕ) → WritesPart a b text stopped → LeavesLines taken rest stopped
leaves_any SinkFault taken rest a b text w = tt
leaves_any NoMemory taken rest a b text w = tt
leaves_any SourceFault taken rest a b text w = absurd w
leaves_any TooLong taken rest a b text w = absurd w

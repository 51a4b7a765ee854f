-- Counts of faults that have increased, and prefixes of what is written.
use Rattle.std.proofs.Common.{◌≤◌, ◌+◌, ◌⊎◌, inl, inr, ℕ, List, ◌++◌, length, Option, take, sym, subst, length-append, arith}
use Rattle.std.specs.Io.KnownBytes.{Appends}
use Rattle.std.proofs.KnownBytes.{Appends-trans}
use Rattle.std.proofs.Math.Seq.{take-append-add}
use Rattle.lens_io.specs.Causes.{Increased}
use Rattle.lens_io.specs.Content.{AppendsFront}

-- a count that has increased later has increased
pub increased_since : (a b c : ℕ) → a ≤ b → Increased b c → Increased a c
increased_since a b c first h = omega (arith, first, h)

-- a sink that has failed later has failed
pub sink_failed_since : (f f' f'' e e' e'' : ℕ) (R : Type 0) → f ≤ f' → e ≤ e' → Increased f' f'' ⊎ Increased e' e'' × R → Increased f f'' ⊎ Increased e e'' × R
sink_failed_since f f' f'' e e' e'' R faults empty (inl h) = inl (increased_since f f' f'' faults h)
sink_failed_since f f' f'' e e' e'' R faults empty (inr h) = inr (increased_since e e' e'' empty h.0, h.1)

-- a prefix behind what was written
pub front_behind : (a b c : Option (List ℕ)) (text more : List ℕ) → Appends a b text → AppendsFront b c more → AppendsFront a c (text ++ more)
front_behind a b c text more h f =
    (length text + f.0, omega (arith, f.1, length-append text more), subst (Appends a c) (sym (take-append-add text more f.0)) (Appends-trans a b c text (take f.0 more) h f.2))

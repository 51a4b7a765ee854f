use Rattle.std.proofs.Common.{◌≡◌, ◌++◌, length, option_map, string_bytes}
use denote.Shadow.{shadow}
use denote.Text.{Utf8}
use Rattle.file_patches.specs.Pointers.{unescaped}
use Rattle.file_patches.proofs.pointers.unescaped.Given as goal

abbrev pub invariant-loop-front : goal.invariant-loop-front
invariant-loop-front l = shadow (Utf8 l.rest) × (option_map (λ s. string_bytes l.name ++ s) (unescaped l.rest) ≡ unescaped l.part)

abbrev pub decreases-loop-front : goal.decreases-loop-front
decreases-loop-front l = length l.rest

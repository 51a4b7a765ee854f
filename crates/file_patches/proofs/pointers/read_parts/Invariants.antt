use Rattle.std.proofs.Common.{◌≡◌, ◌++◌, drop, length, option_map}
use Rattle.std.specs.List.{slice_split}
use Rattle.file_patches.specs.Pointers.{all_unescaped, is_slash}
use Rattle.file_patches.proofs.pointers.read_parts.Given as goal

abbrev pub invariant-loop-part : goal.invariant-loop-part
invariant-loop-part l =
    option_map (λ ns. l.parts.items ++ ns) (all_unescaped (drop (length l.yielded) (slice_split is_slash l.text))) ≡ all_unescaped (slice_split is_slash l.text)

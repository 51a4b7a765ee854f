use Rattle.std.proofs.Common.{◌≡◌, drop}
use Rattle.texts.specs.Keys.{has_name}
use Rattle.lens_forms.specs.Forms.{lefts}
use Rattle.lens_types.proofs.members.has_left.Given as goal

abbrev pub invariant-loop-pair : goal.invariant-loop-pair
invariant-loop-pair l = has_name l.name (lefts (drop l.pair-index l.pairs)) ≡ has_name l.name (lefts l.pairs)

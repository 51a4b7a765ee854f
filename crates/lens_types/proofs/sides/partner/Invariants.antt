use Rattle.std.proofs.Common.{◌≡◌, drop}
use Rattle.lens_forms.specs.Forms.{partner_of}
use Rattle.lens_types.proofs.sides.partner.Given as goal

abbrev pub invariant-loop-pair : goal.invariant-loop-pair
invariant-loop-pair l = partner_of (drop l.pair-index l.pairs) l.left ≡ partner_of l.pairs l.left

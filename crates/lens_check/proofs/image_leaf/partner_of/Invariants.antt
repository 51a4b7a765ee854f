use Rattle.std.proofs.Common.{◌≡◌, drop}
use Rattle.lens_core.specs.Translation.{partner}
use Rattle.lens_check.proofs.image_leaf.partner_of.Given as goal

abbrev pub invariant-loop-pair : goal.invariant-loop-pair
invariant-loop-pair l = partner l.side (drop l.pair-index l.pair-items) l.member ≡ partner l.side l.pair-items l.member

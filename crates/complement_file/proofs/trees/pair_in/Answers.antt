use Rattle.std.proofs.Common.{◌∙◌}
use Rattle.complement_file.proofs.TreeParts.{not_a_pair}
use Rattle.complement_file.proofs.trees.pair_in.Goals as goal

pub returns-then-len-ne2 : goal.returns-then-len-ne2
returns-then-len-ne2 c = not_a_pair _ _ _ c.in_ok-items.ensures (λ two. c.if-len-ne2.true (c.len.ensures ∙ c.in_ok-items.items.now.ok.0 ∙ two))

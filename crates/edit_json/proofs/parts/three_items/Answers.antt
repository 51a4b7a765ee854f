use Rattle.std.proofs.Common.{ap, sym, ◌∙◌, arith}
use Rattle.value_json.proofs.Shapes.{is_array}
use Rattle.edit_json.specs.Parts.{three_items}
use Rattle.edit_json.proofs.Shapes.{not_three}
use Rattle.edit_json.proofs.parts.three_items.Goals as goal

pub returns-then-len-ne3 : goal.returns-then-len-ne3
returns-then-len-ne3 c = sym (ap three_items (is_array _ _ c.in_ok-items.ensures) ∙ not_three c.in_ok-items.items.now.items (λ three. c.if-len-ne3.true (omega arith)))

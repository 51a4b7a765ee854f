use Rattle.std.proofs.Common.{subst}
use Rattle.lens_forms.specs.Forms.{form_tree}
use Rattle.lens_types.specs.declared.typed.Typed.{Typed}
use Rattle.hub_records.specs.LowForms.{IsLow}
use Rattle.hub_records.proofs.LowForms.{all_low, next_low}
use Rattle.hub_records.proofs.low.lenses_are_low.Goals as goal

pub loop-lens-preserved : goal.loop-lens-preserved
loop-lens-preserved c =
    let l = c.loop-lens in
    next_low c.args.lenses.now l.lens-index c.lens-item.result c.loop-lens-test.true c.lens-item.is l.invariant
    (subst (λ (t : Typed). IsLow (form_tree t)) c.typed.ensures c.is_low.ensures)

pub returns : goal.returns
returns c = all_low c.args.lenses.now c.loop-lens.lens-index c.loop-lens-test.false c.loop-lens.invariant

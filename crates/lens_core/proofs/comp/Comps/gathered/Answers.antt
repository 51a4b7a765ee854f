use Rattle.std.proofs.Common.{◌≡◌, ℕ, All, length, ap, subst, ◌∙◌}
use Rattle.hold_shapes.specs.Gather.{IsBelow}
use Rattle.lens_core.specs.Complements.{comp_count, comps_tree}
use Rattle.lens_core.specs.declared.comp.Comps.{out-Comps}
use Rattle.lens_core.proofs.ComplementTrees.{comps_tree-out, comp_count-comps_of}
use Rattle.lens_core.proofs.comp.Comps.gathered.Goals as goal

pub gather-requires : goal.gather-requires
gather-requires c =
    let self = c.args.self.now in
    let items = (out-Comps self).items in
    let same : comp_count (comps_tree self) ≡ length items = ap comp_count (comps_tree-out self) ∙ comp_count-comps_of items in
    subst (λ (n : ℕ). All (IsBelow n) c.args.from.now) same c.requires

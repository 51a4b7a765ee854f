use Rattle.std.proofs.Common.{◌∙◌, sym}
use Rattle.lens_check.proofs.HeldPatterns.{shape_differs}
use Rattle.lens_check.proofs.image_held.has_shape.Goals as goal

pub returns-else-is_same : goal.returns-else-is_same
returns-else-is_same c =
    c.if-is_same.false ∙ sym (shape_differs c.args.shape.now c.in-Hold.other c.args.places c.is_same.result c.args.pattern.now c.in-Hold.patterns c.in-Hold.is c.is_same.ensures c.if-is_same.false)

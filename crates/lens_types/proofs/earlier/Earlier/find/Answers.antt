use Rattle.lens_types.proofs.Entries.{find_none, find_late, find_some}
use Rattle.lens_types.proofs.earlier.Earlier.find.Goals as goal

pub returns-in_err-place : goal.returns-in_err-place
returns-in_err-place c =
    rw (c.from_residual.ensures, ← c.self.view_is) (find_none c.self.inside.entries.entries c.args.name.now c.args.scope c.in_err-place.ensures.index)

pub returns-then-place-scope : goal.returns-then-place-scope
returns-then-place-scope c =
    rw (← c.self.view_is)
    (find_some c.self.inside.entries.entries c.args.name.now c.args.scope _ _ _ c.self.invariant c.in_ok-place.ensures.index c.in_ok-place.ensures.entry c.if-place-scope.true)

pub returns-else-place-scope : goal.returns-else-place-scope
returns-else-place-scope c =
    rw (← c.self.view_is)
    (find_late c.self.inside.entries.entries c.args.name.now c.args.scope _ c.in_ok-place.ensures.index c.if-place-scope.false)

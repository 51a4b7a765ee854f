use Rattle.std.proofs.Common.{subst}
use Rattle.turn_link.specs.Laws.{IsLinked}
use Rattle.turn_link.specs.LinkViews.{link_tree}
use Rattle.turn_link.specs.Views.{event_tree}
use Rattle.run_link.proofs.ToldLines.{told_has_line}
use Rattle.run_link.proofs.journal.take_event.Goals as goal

pub returns-in-Ok-clause-has_line : goal.returns-in-Ok-clause-has_line
returns-in-Ok-clause-has_line g c =
    let lens = g.L.EditLens in
    let l = c.args.link.now.left.lens in
    told_has_line (lens.holds l) (lens.left_type l) (lens.right_type l) (lens.start l) (lens.carried l)
    (link_tree c.args.link.now) (link_tree c.step.new.self) (event_tree c.args.event.now) c.in-Ok.told
    (subst (λ x. IsLinked (lens.holds x) (lens.left_type x) (lens.right_type x) (lens.start x) (lens.carried x) (link_tree c.step.new.self)) c.in-Ok.ensures.lens c.is_linked.ensures)
    c.in-Ok.ensures.happens

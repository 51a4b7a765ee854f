use Rattle.std.proofs.Common.{◌≤◌, ℕ, sym, subst}
use Rattle.edit_session.specs.Views.{triple_tree}
use Rattle.based_session.specs.KeptViews.{kept_trees}
use Rattle.based_session.proofs.StepsOver.{start_is_based}
use Rattle.based_session.proofs.session.BasedSession.over.Goals as goal

pub invariant_of-result : goal.invariant_of-result
invariant_of-result g c =
    let lens = c.args.session.lens in
    let w = c.start-window.result in
    start_is_based (g.L.EditLens.left_type lens) (g.L.EditLens.right_type lens) (triple_tree c.args.session.triple) (kept_trees w) w.number w.width
    c.start-window.ensures.kept c.start-window.ensures.number (subst (λ (n : ℕ). n ≤ 1000) (sym c.start-window.ensures.width) c.requires.narrow)

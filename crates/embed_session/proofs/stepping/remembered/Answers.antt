use Rattle.std.proofs.Common.{refl, subst}
use Rattle.edit_session.specs.Views.{triple_tree}
use Rattle.embed_session.specs.Changes.{KeepsChange}
use Rattle.embed_session.proofs.MadeChanges.{change_kept, none_kept}
use Rattle.embed_session.proofs.stepping.remembered.Goals as goal

pub returns-in-Some-clause-remembered : goal.returns-in-Some-clause-remembered
returns-in-Some-clause-remembered c = λ line end h. change_kept line end c.in-Some.change _ (triple_tree c.args.before.triple)
    (subst (λ found. KeepsChange line end found) c.in-Some.is h) refl refl

pub returns-in-None-clause-remembered : goal.returns-in-None-clause-remembered
returns-in-None-clause-remembered c = λ line end h. none_kept line end (triple_tree c.args.before.triple)
    (subst (λ found. KeepsChange line end found) c.in-None.is h)

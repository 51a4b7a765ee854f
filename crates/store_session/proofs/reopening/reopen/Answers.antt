use Rattle.edit_session.specs.Views.{triple_tree}
use Rattle.store_session.proofs.reopening.reopen.Goals as goal

pub returns-clause-consistent : goal.returns-clause-consistent
returns-clause-consistent g c =
    let t = triple_tree c.in_ok-opened.opened.session.triple in
    (c.requires.means.relates t.left t.comp t.right).0 (rw c.in_ok-opened.ensures.lens at c.comp-comp.ensures.consistent)

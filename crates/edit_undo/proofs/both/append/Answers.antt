use Rattle.edit_inverse.proofs.Walks.{appended}
use Rattle.edit_undo.proofs.both.append.Goals as goal

pub returns : goal.returns
returns c = λ rest. appended c.args.out.now.items c.append.new.self.items c.into_vec-primitives.result.items _ rest c.into_vec-primitives.ensures c.in_ok-append.ensures.items

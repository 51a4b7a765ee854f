use Rattle.std.specs.Prelude.{IsTrue}
use Rattle.bridge_lists.proofs.Edits.{edit-carries, refused-moves}
use Rattle.bridge_lists.proofs.laws.an_edit_is_carried.Goals as goal

pub returns : goal.returns
returns c = record {
  carried = λ r e m a b ls s t near q h k p ab g. edit-carries (λ x y. IsTrue (r x y)) e m a b ls s t near q h k p ab g;
  refused = refused-moves;
}

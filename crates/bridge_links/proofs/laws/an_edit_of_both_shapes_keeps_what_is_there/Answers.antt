use Rattle.bridge_links.proofs.Planned.{by-test-twice}
use Rattle.bridge_links.proofs.laws.an_edit_of_both_shapes_keeps_what_is_there.Goals as goal

pub returns : goal.returns
returns c = by-test-twice

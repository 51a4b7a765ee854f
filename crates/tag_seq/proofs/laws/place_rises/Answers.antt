use Rattle.tag_seq.proofs.Ranks.{place-rises}
use Rattle.tag_seq.proofs.laws.place_rises.Goals as goal

pub returns : goal.returns
returns c = place-rises

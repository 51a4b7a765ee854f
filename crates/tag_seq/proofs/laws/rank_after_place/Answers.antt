use Rattle.tag_seq.proofs.Ranks.{rank-after-place}
use Rattle.tag_seq.proofs.laws.rank_after_place.Goals as goal

pub returns : goal.returns
returns c = rank-after-place

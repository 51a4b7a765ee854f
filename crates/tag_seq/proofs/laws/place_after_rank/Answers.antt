use Rattle.tag_seq.proofs.Ranks.{place-after-rank}
use Rattle.tag_seq.proofs.laws.place_after_rank.Goals as goal

pub returns : goal.returns
returns c = place-after-rank

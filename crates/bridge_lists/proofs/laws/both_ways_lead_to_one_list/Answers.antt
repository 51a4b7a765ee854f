use Rattle.bridge_lists.proofs.Edits.{both-ways}
use Rattle.bridge_lists.proofs.Back.{ins-both-ways, move-both-ways}
use Rattle.bridge_lists.proofs.laws.both_ways_lead_to_one_list.Goals as goal

pub returns : goal.returns
returns c = record {
  one = λ a s t near back edits last h k. both-ways a back edits last near s t h k;
  ins = ins-both-ways;
  moved = move-both-ways;
}

use Rattle.bridge_links.proofs.Planned.{near-apart}
use Rattle.bridge_links.proofs.Kept.{near-kept, near-below}
use Rattle.bridge_links.proofs.laws.an_edit_of_the_near_shape_keeps_links.Goals as goal

pub returns : goal.returns
returns c = record {
  apart = λ n plan ls p h f. near-apart n plan ls p h f;
  below = λ n m plan ls h p. near-below n m plan ls h p;
  kept = λ n plan ls x k y e h. near-kept n plan ls x k y e h;
}

use Rattle.bridge_links.proofs.Planned.{far-apart, by-test-far}
use Rattle.bridge_links.proofs.Kept.{far-kept, far-below}
use Rattle.bridge_links.proofs.laws.an_edit_of_the_far_shape_keeps_links.Goals as goal

pub returns : goal.returns
returns c = record {
  apart = λ plan ls h. far-apart plan ls h;
  below = λ plan ls. far-below plan ls;
  kept = λ plan ls x y z a e h. far-kept plan ls x y z a e h;
  spans = λ r plan ls b s t h. by-test-far r plan ls b s t h;
}

use Rattle.bridge_lists.proofs.Plans.{ins-edited, del-edited, move-edited, order-edited}
use Rattle.bridge_lists.proofs.laws.a_plan_is_followed.Goals as goal

pub returns : goal.returns
returns c = record {
  ins = λ b c t h. ins-edited b c t h;
  del = λ b c t h p. del-edited b c t h p;
  moved = λ b i j t h p. move-edited b i j t h p;
  order = λ b f t h p. order-edited b f t h p;
}

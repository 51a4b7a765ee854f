use Rattle.based_session.proofs.StepsOver.{change_is_based}
use Rattle.based_session.proofs.laws.bases_lead_on.Goals as goal

pub returns : goal.returns
returns c = λ left right carried b u side q w left_sound right_sound left_has right_has based e. change_is_based c.a_bridge_spans.ensures left right carried b u side q w left_sound right_sound left_has right_has based e

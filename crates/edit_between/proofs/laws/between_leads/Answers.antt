use Rattle.edit_between.proofs.BetweenActs.{between-law}
use Rattle.edit_between.proofs.laws.between_leads.Goals as goal

pub returns : goal.returns
returns c = between-law

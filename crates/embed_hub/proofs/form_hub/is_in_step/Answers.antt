use Rattle.embed_hub.proofs.FormHubs.{stays_in_step}
use Rattle.embed_hub.proofs.form_hub.is_in_step.Goals as goal

pub returns-clause-of_forms : goal.returns-clause-of_forms
returns-clause-of_forms c = stays_in_step c.args.hub.now c.hub.ensures.in_step

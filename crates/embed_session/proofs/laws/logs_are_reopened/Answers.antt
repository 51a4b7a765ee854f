use Rattle.embed_session.proofs.LogTexts.{log_reopened_text}
use Rattle.embed_session.proofs.laws.logs_are_reopened.Goals as goal

pub returns : goal.returns
returns c = log_reopened_text

use Rattle.law_prefixes.proofs.TextEnd.{a_text_ends}
use Rattle.law_prefixes.proofs.tokens_never_run_out.Goals as goal

pub returns : goal.returns
returns c = a_text_ends

use Rattle.patch_words.proofs.WordsLead.{patches-lead}
use Rattle.patch_words.proofs.laws.patches_lead.Goals as goal

pub returns : goal.returns
returns c = patches-lead

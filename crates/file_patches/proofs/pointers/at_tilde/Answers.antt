use Rattle.std.proofs.Common.{lit<}
use Rattle.std.proofs.lemmas.Str.Pattern.{split_once_first}
use Rattle.file_patches.proofs.PointerParts.{tilde_cut, tilde_shorter}
use Rattle.file_patches.proofs.pointers.at_tilde.Goals as goal

pub returns-clause-cut : goal.returns-clause-cut
returns-clause-cut c =
    tilde_cut c.args.text.now c.split_once.result (split_once_first 126 c.args.text.now c.split_once.result c.split_once.ensures.cases (lit< tt))

pub returns-clause-shorter : goal.returns-clause-shorter
returns-clause-shorter c =
    tilde_shorter c.args.text.now c.split_once.result (split_once_first 126 c.args.text.now c.split_once.result c.split_once.ensures.cases (lit< tt))

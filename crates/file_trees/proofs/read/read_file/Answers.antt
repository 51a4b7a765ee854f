use Rattle.file_trees.proofs.Tokens.{same_tokens}
use Rattle.file_trees.proofs.read.read_file.Goals as goal

pub returns-clause-tokens : goal.returns-clause-tokens
returns-clause-tokens c = same_tokens c.read_text.result c.in-Ok.text.now c.args.bytes.now c.in-Ok.ensures.cases.0 c.read_text.ensures.tree

-- A file has the tokens of its tree.
use Rattle.std.proofs.Common.{◌≡◌, ℕ, List, Result, Ok, Err, Some, IfOk, sym, ap, ◌∙◌}
use Rattle.json.specs.Lex.{tokens}
use Rattle.json.specs.Json.{document}
use Rattle.json.specs.Tree.{json_tokens}
use Rattle.json.proofs.Unique.Spelling.{tokens-document}
use Rattle.file_trees.specs.FileTrees.{file_tree}
use Rattle.file_trees.specs.declared.fault.FileFault.{FileFault}
use Rattle.file_trees.specs.declared.tree.FileTree.{FileTree}

pub same_tokens : (r : Result FileTree FileFault) (text bytes : List ℕ) → text ≡ bytes → IfOk r (λ t. document text ≡ Some (file_tree t)) → IfOk r (λ t. tokens bytes ≡ json_tokens (file_tree t))
same_tokens (Ok t) text bytes e h = tokens-document bytes (file_tree t) (ap document (sym e) ∙ h)
same_tokens (Err x) text bytes e h = tt

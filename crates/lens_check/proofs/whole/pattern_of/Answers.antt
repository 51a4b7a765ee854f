use Rattle.std.proofs.Common.{◌≡◌}
use Rattle.std.specs.Prelude.{IsTrue}
use Rattle.std.proofs.lemmas.Result.{IfOk-weaker}
use Rattle.doc_values.specs.Documents.{doc_tree}
use Rattle.doc_values.specs.Types.{TyTree}
use Rattle.doc_values.specs.Typing.{has}
use Rattle.law_images.specs.declared.pattern.Pattern.{Pattern}
use Rattle.law_images.specs.Patterns.{is_of_type, pattern_tree, pattern_of}
use Rattle.lens_check.proofs.WholePatterns.{of_each_type}
use Rattle.lens_check.proofs.whole.pattern_of.Goals as goal

pub returns-clause-of_type : goal.returns-clause-of_type
returns-clause-of_type c =
    let x = doc_tree c.args.document.now in
    IfOk-weaker c.whole.result
    (λ (p : Pattern). pattern_tree p ≡ pattern_of x)
    (λ (p : Pattern). (t : TyTree) → IsTrue (has t x) → IsTrue (is_of_type (pattern_tree p) t))
    (λ (p : Pattern) e t h. of_each_type (pattern_tree p) x t e h)
    c.whole.ensures

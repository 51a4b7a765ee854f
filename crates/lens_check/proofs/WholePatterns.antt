-- The pattern of a document: its contents one by one, its one document, and its types.
use Rattle.std.proofs.Common.{◌≡◌, true, map, refl, sym, ap, subst}
use Rattle.std.specs.Prelude.{◌↔◌}
use Rattle.doc_values.specs.Documents.{DocTree, DocTrees, no_docs, more_docs, doc_list}
use Rattle.doc_values.specs.Types.{TyTree}
use Rattle.doc_values.specs.Typing.{has}
use Rattle.law_images.specs.Patterns.{PatternTree, Matches, more_patterns, patterns_from, pattern_of, patterns_of, is_of_type}
use Rattle.law_images.proofs.TypedPatterns.{pattern_typed, match_self, match_only}

-- the patterns of the contents, one by one
pub patterns_one_by_one : (ds : DocTrees) → patterns_from (map pattern_of (doc_list ds)) ≡ patterns_of ds
patterns_one_by_one no_docs = refl
patterns_one_by_one (more_docs d ds) = ap (more_patterns (pattern_of d)) (patterns_one_by_one ds)

-- the pattern of a document has it as its one document
pub one_document : (p : PatternTree) (x d : DocTree) → p ≡ pattern_of x → Matches p d ↔ (d ≡ x)
one_document p x d e = (
  (λ m. match_only x d (subst (λ q. Matches q d) e m)),
  (λ same. subst (λ q. Matches q d) (sym e) (subst (λ z. Matches (pattern_of x) z) (sym same) (match_self x))),
)

-- and it is of each type that the document has
pub of_each_type : (p : PatternTree) (x : DocTree) (t : TyTree) → p ≡ pattern_of x → has t x ≡ true → is_of_type p t ≡ true
of_each_type p x t e h = subst (λ q. is_of_type q t ≡ true) (sym e) (pattern_typed (pattern_of x) t x h (match_self x))

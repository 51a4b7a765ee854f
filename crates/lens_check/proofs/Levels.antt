-- How many levels patterns and documents have, which falls with each part: what the recursions over them go by.
use Rattle.std.proofs.Common.{◌≡◌, ℕ, zero, suc, ◌+◌, ◌<◌, ◌≤◌, length, get_or, ap, arith}
use Rattle.doc_values.specs.Documents.{DocTree, rec, alt, hold, DocTrees, no_docs, more_docs, doc_list}
use Rattle.law_images.specs.Patterns.{PatternTree, rec_pattern, alt_pattern, hold_pattern, PatternTrees, no_patterns, more_patterns, pattern_list, pattern_count}

abbrev mutual
  pub pattern_levels : PatternTree → ℕ
  pattern_levels (rec_pattern ps) = patterns_levels ps + 1
  pattern_levels (alt_pattern n p) = pattern_levels p + 1
  pattern_levels (hold_pattern s ps) = patterns_levels ps + 1
  pattern_levels _ = 0

  pub patterns_levels : PatternTrees → ℕ
  patterns_levels no_patterns = 0
  patterns_levels (more_patterns p ps) = pattern_levels p + patterns_levels ps

abbrev mutual
  pub doc_levels : DocTree → ℕ
  doc_levels (rec ds) = docs_levels ds + 1
  doc_levels (alt n d) = doc_levels d + 1
  doc_levels (hold s ds) = docs_levels ds + 1
  doc_levels _ = 0

  pub docs_levels : DocTrees → ℕ
  docs_levels no_docs = 0
  docs_levels (more_docs d ds) = doc_levels d + docs_levels ds

pub pattern_at_levels : (ps : PatternTrees) (i : ℕ) (p q : PatternTree) → i < pattern_count ps → p ≡ get_or (pattern_list ps) i q → pattern_levels p ≤ patterns_levels ps
pattern_at_levels no_patterns i p q h e = absurd (omega arith)
pattern_at_levels (more_patterns r ps) zero p q h e = omega (arith, ap pattern_levels e)
pattern_at_levels (more_patterns r ps) (suc i) p q h e = let rest = pattern_at_levels ps i p q (omega arith) e in omega (arith, rest)

pub doc_at_levels : (ds : DocTrees) (i : ℕ) (d e : DocTree) → i < length (doc_list ds) → d ≡ get_or (doc_list ds) i e → doc_levels d ≤ docs_levels ds
doc_at_levels no_docs i d e h is = absurd (omega arith)
doc_at_levels (more_docs c ds) zero d e h is = omega (arith, ap doc_levels is)
doc_at_levels (more_docs c ds) (suc i) d e h is = let rest = doc_at_levels ds i d e (omega arith) is in omega (arith, rest)

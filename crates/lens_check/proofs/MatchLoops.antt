-- Patterns and documents from a place on: what the loop over both has still to test.
use Rattle.std.proofs.Common.{◌≡◌, ℕ, suc, ◌+◌, ◌<◌, ◌≤◌, Bool, true, false, ◌&&◌, List, [], ◌∷◌, length, drop, drop-cons, get_or, add-one, refl, sym, ap, ap₂, ◌∙◌, arith}
use Rattle.std.proofs.lemmas.List.{drop_all}
use Rattle.doc_values.specs.Documents.{DocTree, DocTrees, docs_of, doc_list}
use Rattle.doc_values.proofs.Lists.{docs_of-doc_list}
use Rattle.law_images.specs.Patterns.{PatternTree, PatternTrees, patterns_from, pattern_list, pattern_count}
use Rattle.law_images.proofs.PatternLists.{patterns_from-pattern_list, pattern_count-length}
use Rattle.lens_check.specs.MatchTest.{is_match, match_each}
use Rattle.texts.proofs.Tests.{and_false}

-- whether those from a place on are in their patterns
abbrev pub match_from : PatternTrees → DocTrees → ℕ → Bool
match_from ps ds i = match_each (patterns_from (drop i (pattern_list ps))) (docs_of (drop i (doc_list ds)))

pub match_all : (ps : PatternTrees) (ds : DocTrees) → match_from ps ds 0 ≡ match_each ps ds
match_all ps ds = ap₂ match_each (patterns_from-pattern_list ps) (docs_of-doc_list ds)

pub match_next : (ps : PatternTrees) (ds : DocTrees) (i : ℕ) (p q : PatternTree) (d e : DocTree) → pattern_count ps ≡ length (doc_list ds) → i < pattern_count ps
    → p ≡ get_or (pattern_list ps) i q → d ≡ get_or (doc_list ds) i e → match_from ps ds i ≡ (is_match p d && match_from ps ds (i + 1))
match_next ps ds i p q d e many h pe de =
    rw (drop-cons (pattern_list ps) i q (omega (arith, pattern_count-length ps)), drop-cons (doc_list ds) i e (omega arith), pe, de, add-one) refl

pub match_done : (ps : PatternTrees) (ds : DocTrees) (i : ℕ) → pattern_count ps ≡ length (doc_list ds) → pattern_count ps ≤ i → match_from ps ds i ≡ true
match_done ps ds i many h = rw (drop_all i (pattern_list ps) (omega (arith, pattern_count-length ps)), drop_all i (doc_list ds) (omega arith)) refl

lengths_apart : (ps : List PatternTree) (ds : List DocTree) → (length ps ≡ length ds → ⊥) → match_each (patterns_from ps) (docs_of ds) ≡ false
lengths_apart [] [] h = absurd (h refl)
lengths_apart [] (d ∷ ds) h = refl
lengths_apart (p ∷ ps) [] h = refl
lengths_apart (p ∷ ps) (d ∷ ds) h = rw (lengths_apart ps ds (λ e. h (ap suc e))) (and_false _)

pub match_apart : (ps : PatternTrees) (ds : DocTrees) → (pattern_count ps ≡ length (doc_list ds) → ⊥) → false ≡ match_each ps ds
match_apart ps ds h = sym (sym (match_all ps ds) ∙ lengths_apart (pattern_list ps) (doc_list ds) (λ e. h (pattern_count-length ps ∙ e)))

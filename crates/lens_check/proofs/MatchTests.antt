-- The test of a document is true if and only if the document is in the pattern.
use Rattle.std.proofs.Common.{◌≡◌, Bool, true, false, refl, sym, ap, subst}
use Rattle.std.specs.Prelude.{◌↔◌, IsTrue, bytes_eq}
use Rattle.std.proofs.lemmas.Bool.Decides.{Decides-int_eq}
use Rattle.std.proofs.lemmas.Slice.Eq.{bytes_eq-Decides}
use Rattle.texts.proofs.Conjunction.{first, second, both}
use Rattle.hold_shapes.specs.declared.shape.Shape.{Shape}
use Rattle.doc_values.specs.Documents.{DocTree, unit, truth, int, text, pick, rec, alt, hold, DocTrees, no_docs, more_docs}
use Rattle.law_images.specs.Patterns.{PatternTree, hole, unit_pattern, truth_pattern, int_pattern, text_pattern, pick_pattern, rec_pattern, alt_pattern, hold_pattern, PatternTrees, no_patterns, more_patterns, Matches, MatchEach}
use Rattle.law_images.specs.Image.{is_same_shape}
use Rattle.law_images.proofs.ImagesOfContainers.{shape_same, shapes_are}
use Rattle.lens_check.specs.MatchTest.{is_same_truth, is_match, match_each}

truth_same : (b : Bool) → is_same_truth b b ≡ true
truth_same true = refl
truth_same false = refl

truths_are : (a b : Bool) → is_same_truth a b ≡ true → b ≡ a
truths_are true true h = refl
truths_are true false h = cc
truths_are false true h = cc
truths_are false false h = refl

mutual
  pub match_passes : (p : PatternTree) (v : DocTree) → Matches p v → is_match p v ≡ true
  match_passes hole v m = refl
  match_passes unit_pattern v m = subst (λ z. is_match unit_pattern z ≡ true) (sym m) refl
  match_passes (truth_pattern b) v m = subst (λ z. is_match (truth_pattern b) z ≡ true) (sym m) (truth_same b)
  match_passes (int_pattern n) v m = subst (λ z. is_match (int_pattern n) z ≡ true) (sym m) ((Decides-int_eq n n).1 refl)
  match_passes (text_pattern s) v m = subst (λ z. is_match (text_pattern s) z ≡ true) (sym m) ((bytes_eq-Decides s s).1 refl)
  match_passes (pick_pattern n) v m = subst (λ z. is_match (pick_pattern n) z ≡ true) (sym m) ((bytes_eq-Decides n n).1 refl)
  match_passes (rec_pattern ps) v m = subst (λ z. is_match (rec_pattern ps) z ≡ true) (sym m.1) (each_passes ps m.0 m.2)
  match_passes (alt_pattern n p) v m =
      subst (λ z. is_match (alt_pattern n p) z ≡ true) (sym m.1) (both (bytes_eq n n) (is_match p m.0) ((bytes_eq-Decides n n).1 refl) (match_passes p m.0 m.2))
  match_passes (hold_pattern s ps) v m =
      subst (λ z. is_match (hold_pattern s ps) z ≡ true) (sym m.1) (both (is_same_shape s s) (match_each ps m.0) (shape_same s) (each_passes ps m.0 m.2))

  each_passes : (ps : PatternTrees) (ds : DocTrees) → MatchEach ps ds → match_each ps ds ≡ true
  each_passes no_patterns no_docs m = refl
  each_passes no_patterns (more_docs d ds) m = absurd m
  each_passes (more_patterns p ps) no_docs m = absurd m
  each_passes (more_patterns p ps) (more_docs d ds) m = both (is_match p d) (match_each ps ds) (match_passes p d m.0) (each_passes ps ds m.1)

mutual
  pub passes_match : (p : PatternTree) (v : DocTree) → is_match p v ≡ true → Matches p v
  passes_match hole v h = tt
  passes_match unit_pattern unit h = refl
  passes_match (truth_pattern a) (truth b) h = ap truth (truths_are a b h)
  passes_match (int_pattern m) (int n) h = ap int (sym ((Decides-int_eq m n).0 h))
  passes_match (text_pattern r) (text s) h = ap text (sym ((bytes_eq-Decides r s).0 h))
  passes_match (pick_pattern m) (pick n) h = ap pick (sym ((bytes_eq-Decides m n).0 h))
  passes_match (rec_pattern ps) (rec ds) h = (ds, refl, passes_each ps ds h)
  passes_match (alt_pattern m p) (alt n d) h =
      (d, ap (λ k. alt k d) (sym ((bytes_eq-Decides m n).0 (first (bytes_eq m n) (is_match p d) h))), passes_match p d (second (bytes_eq m n) (is_match p d) h))
  passes_match (hold_pattern r ps) (hold s ds) h =
      (ds, ap (λ q. hold q ds) (sym (shapes_are r s (first (is_same_shape r s) (match_each ps ds) h))), passes_each ps ds (second (is_same_shape r s) (match_each ps ds) h))
  passes_match _ _ h = cc

  passes_each : (ps : PatternTrees) (ds : DocTrees) → match_each ps ds ≡ true → MatchEach ps ds
  passes_each no_patterns no_docs h = tt
  passes_each no_patterns (more_docs d ds) h = cc
  passes_each (more_patterns p ps) no_docs h = cc
  passes_each (more_patterns p ps) (more_docs d ds) h = (passes_match p d (first (is_match p d) (match_each ps ds) h), passes_each ps ds (second (is_match p d) (match_each ps ds) h))

pub match_test : (b : Bool) (p : PatternTree) (v : DocTree) → b ≡ is_match p v → IsTrue b ↔ Matches p v
match_test b p v e = (λ h. passes_match p v (subst (λ c. c ≡ true) e h), λ m. subst (λ c. c ≡ true) (sym e) (match_passes p v m))

-- a test of equality of shapes is this one
pub same_shape_test : (b : Bool) (r s : Shape) → (IsTrue b ↔ (r ≡ s)) → b ≡ is_same_shape r s
same_shape_test b r s e = go b (is_same_shape r s) e.0 e.1 (shapes_are r s) (λ k. subst (λ q. is_same_shape r q ≡ true) k (shape_same r))
  where
    go : (b c : Bool) → (b ≡ true → r ≡ s) → (r ≡ s → b ≡ true) → (c ≡ true → r ≡ s) → (r ≡ s → c ≡ true) → b ≡ c
    go true c f g h k = sym (k (f refl))
    go false true f g h k = g (h refl)
    go false false f g h k = refl

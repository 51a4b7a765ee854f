-- Contents and patterns of a record by the names of its fields, and back to lists.
use Rattle.std.proofs.Common.{◌≡◌, ◌∙◌, ℕ, Bool, true, false, List, [], ◌∷◌, Option, Some, refl, ap, sym, subst}
use Rattle.std.specs.Prelude.{◌||◌, bytes_eq, cond, not}
use Rattle.texts.specs.Keys.{is_rising, has_name}
use Rattle.texts.proofs.Conjunction.{first, second, both}
use Rattle.texts.proofs.KeyOrder.{before-differs, rising-first, rising-rest, after-member, bytes_eq-refl}
use Rattle.doc_values.specs.Documents.{DocTree, rec, DocTrees, no_docs, more_docs}
use Rattle.doc_values.specs.Types.{TyTree, FieldTrees, no_fields, more_fields, names_of, are_distinct}
use Rattle.doc_values.specs.Typing.{has, has_fields, lookup_type}
use Rattle.lens_core.specs.Consistency.{content}
use Rattle.lens_core.proofs.LawsOfLeaves.{differs_back}
use Rattle.lens_core.proofs.NameTests.{not_that}
use Rattle.lens_core.proofs.RecordFields.{lookup_type-more}
use Rattle.law_images.specs.Patterns.{PatternTree, hole, unit_pattern, truth_pattern, int_pattern, text_pattern, pick_pattern, rec_pattern, alt_pattern, hold_pattern, PatternTrees, no_patterns, more_patterns, Matches, MatchEach, in_order}
use Rattle.law_images.specs.Image.{pattern_at, patterns_by_name}
use Rattle.std.proofs.lemmas.Bool.{not-true}
use Rattle.std.proofs.lemmas.Option.{same_Some}
use Rattle.texts.proofs.Tests.{bytes_eq-is}
use Rattle.doc_values.proofs.DistinctNames.{are_distinct-rest}

abbrev pub Contents : Type 0
Contents = List ℕ → Option DocTree

-- contents by name that are in the patterns
abbrev pub AreLike : (List ℕ → PatternTree) → Contents → Type 0
AreLike at f = (n : List ℕ) (v : DocTree) → f n ≡ Some v → Matches (at n) v

-- each name with a type has a content of the type in its pattern
abbrev pub AreGood : (List ℕ → Option TyTree) → (List ℕ → PatternTree) → Contents → Type 0
AreGood types at f = (n : List ℕ) (t : TyTree) → types n ≡ Some t → (v : DocTree) × (f n ≡ Some v) × (has t v ≡ true) × Matches (at n) v

-- ---- names of fields that are sorted

rising_apart : (m : List ℕ) (ms : List (List ℕ)) → is_rising (m ∷ ms) ≡ true → has_name m ms ≡ false
rising_apart m ms r = go (has_name m ms) refl
  where
    go : (b : Bool) → has_name m ms ≡ b → b ≡ false
    go false h = refl
    go true h = let off = before-differs m m (after-member m m ms (rising-first m ms r) (rising-rest m ms r) h) in let same = bytes_eq-refl m in cc

pub rising_distinct : (ms : List (List ℕ)) → is_rising ms ≡ true → are_distinct ms ≡ true
rising_distinct [] r = refl
rising_distinct (m ∷ ms) r = both (not (has_name m ms)) (are_distinct ms) (ap not (rising_apart m ms r)) (rising_distinct ms (rising-rest m ms r))

pub head_off : (m : List ℕ) (ms : List (List ℕ)) (n : List ℕ) → are_distinct (m ∷ ms) ≡ true → has_name n ms ≡ true → bytes_eq m n ≡ false
head_off m ms n h k = differs_back n m (not_that n m ms (not-true (has_name m ms) (first (not (has_name m ms)) (are_distinct ms) h)) k)

named_later : (n m : List ℕ) (ms : List (List ℕ)) (b : Bool) → bytes_eq m n ≡ b → (b ≡ false → has_name n ms ≡ true) → has_name n (m ∷ ms) ≡ true
named_later n m ms true e h = rw (sym (bytes_eq-is m n e), bytes_eq-refl m) refl
named_later n m ms false e h = let k = h refl in go (bytes_eq n m) k
  where
    go : (b : Bool) → has_name n ms ≡ true → (b || has_name n ms) ≡ true
    go true k = refl
    go false k = k

pub content_named : (fs : FieldTrees) (ds : DocTrees) (n : List ℕ) (v : DocTree) → content fs ds n ≡ Some v → has_name n (names_of fs) ≡ true
content_named no_fields ds n v e = cc
content_named (more_fields m t fs) no_docs n v e = cc
content_named (more_fields m t fs) (more_docs d ds) n v e = go (bytes_eq m n) refl e (λ k. content_named fs ds n v k)
  where
    go : (b : Bool) → bytes_eq m n ≡ b → cond b (Some d) (content fs ds n) ≡ Some v → (content fs ds n ≡ Some v → has_name n (names_of fs) ≡ true) → has_name n (m ∷ names_of fs) ≡ true
    go true q e again = named_later n m (names_of fs) true q (λ x. cc)
    go false q e again = named_later n m (names_of fs) false q (λ x. again e)

pub lookup_named : (fs : FieldTrees) (n : List ℕ) (t : TyTree) → lookup_type fs n ≡ Some t → has_name n (names_of fs) ≡ true
lookup_named no_fields n t e = cc
lookup_named (more_fields m u fs) n t e = go (bytes_eq m n) refl (sym (lookup_type-more m u fs n) ∙ e) (λ k. lookup_named fs n t k)
  where
    go : (b : Bool) → bytes_eq m n ≡ b → cond b (Some u) (lookup_type fs n) ≡ Some t → (lookup_type fs n ≡ Some t → has_name n (names_of fs) ≡ true) → has_name n (m ∷ names_of fs) ≡ true
    go true q e again = named_later n m (names_of fs) true q (λ x. cc)
    go false q e again = named_later n m (names_of fs) false q (λ x. again e)

-- ---- a list of patterns, in the order of the fields

-- what is found first, and what is found behind
found_first : (m : List ℕ) (d : DocTree) (o : Option DocTree) → cond (bytes_eq m m) (Some d) o ≡ Some d
found_first m d o = rw (bytes_eq-refl m) refl

found_behind : (m n : List ℕ) (d v : DocTree) (o : Option DocTree) → bytes_eq m n ≡ false → o ≡ Some v → cond (bytes_eq m n) (Some d) o ≡ Some v
found_behind m n d v o e h = rw e h

pub match_in_order : (fs : FieldTrees) (at : List ℕ → PatternTree) (ds : DocTrees) → are_distinct (names_of fs) ≡ true → has_fields fs ds ≡ true → AreLike at (content fs ds) → MatchEach (in_order fs at) ds
match_in_order no_fields at no_docs apart h like = tt
match_in_order no_fields at (more_docs d ds) apart h like = cc
match_in_order (more_fields m t fs) at no_docs apart h like = cc
match_in_order (more_fields m t fs) at (more_docs d ds) apart h like = (
  like m d (found_first m d (content fs ds m)),
  match_in_order fs at ds (are_distinct-rest m (names_of fs) apart) (second (has t d) (has_fields fs ds) h)
      (λ n v e. like n v (found_behind m n d v (content fs ds n) (head_off m (names_of fs) n apart (content_named fs ds n v e)) e)),
)

pub like_in_order : (fs : FieldTrees) (at : List ℕ → PatternTree) (ds : DocTrees) → MatchEach (in_order fs at) ds → AreLike at (content fs ds)
like_in_order no_fields at ds h n v e = cc
like_in_order (more_fields m t fs) at no_docs h n v e = cc
like_in_order (more_fields m t fs) at (more_docs d ds) h n v e = go (bytes_eq m n) refl e (λ k. like_in_order fs at ds h.1 n v k)
  where
    go : (b : Bool) → bytes_eq m n ≡ b → cond b (Some d) (content fs ds n) ≡ Some v → (content fs ds n ≡ Some v → Matches (at n) v) → Matches (at n) v
    go true q e again = subst (λ z. Matches (at z) v) (bytes_eq-is m n q) (subst (Matches (at m)) (same_Some d v e) h.0)
    go false q e again = again e

-- ---- a record's pattern by names

like_inside : (fs : FieldTrees) (ps : PatternTrees) (ds : DocTrees) → MatchEach ps ds → AreLike (pattern_at fs ps) (content fs ds)
like_inside no_fields ps ds h n v e = cc
like_inside (more_fields m t fs) ps no_docs h n v e = cc
like_inside (more_fields m t fs) no_patterns (more_docs d ds) h n v e = absurd h
like_inside (more_fields m t fs) (more_patterns p ps) (more_docs d ds) h n v e = go (bytes_eq m n) e (λ k. like_inside fs ps ds h.1 n v k)
  where
    go : (b : Bool) → cond b (Some d) (content fs ds n) ≡ Some v → (content fs ds n ≡ Some v → Matches (pattern_at fs ps n) v) → Matches (cond b p (pattern_at fs ps n)) v
    go true e again = subst (Matches p) (same_Some d v e) h.0
    go false e again = again e

rec_same : (ds es : DocTrees) → rec ds ≡ rec es → ds ≡ es
rec_same ds es e = cc

pub like_by_name : (fs : FieldTrees) (p : PatternTree) (ds : DocTrees) → Matches p (rec ds) → AreLike (patterns_by_name fs p) (content fs ds)
like_by_name fs (rec_pattern ps) ds h n v e = like_inside fs ps ds (subst (MatchEach ps) (sym (rec_same ds h.0 h.1)) h.2) n v e
like_by_name fs hole ds h n v e = tt
like_by_name fs unit_pattern ds h n v e = tt
like_by_name fs (truth_pattern b) ds h n v e = tt
like_by_name fs (int_pattern b) ds h n v e = tt
like_by_name fs (text_pattern b) ds h n v e = tt
like_by_name fs (pick_pattern b) ds h n v e = tt
like_by_name fs (alt_pattern a b) ds h n v e = tt
like_by_name fs (hold_pattern a b) ds h n v e = tt

-- another record of the fields, in the same patterns
match_inside : (fs : FieldTrees) (ps : PatternTrees) (es ds : DocTrees) → are_distinct (names_of fs) ≡ true → MatchEach ps es → has_fields fs es ≡ true → has_fields fs ds ≡ true
    → AreLike (pattern_at fs ps) (content fs ds) → MatchEach ps ds
match_inside no_fields no_patterns es no_docs apart h a b like = tt
match_inside no_fields (more_patterns p ps) no_docs ds apart h a b like = absurd h
match_inside no_fields (more_patterns p ps) (more_docs e es) ds apart h a b like = cc
match_inside no_fields no_patterns es (more_docs d ds) apart h a b like = cc
match_inside (more_fields m t fs) ps no_docs ds apart h a b like = cc
match_inside (more_fields m t fs) ps (more_docs e es) no_docs apart h a b like = cc
match_inside (more_fields m t fs) no_patterns (more_docs e es) (more_docs d ds) apart h a b like = absurd h
match_inside (more_fields m t fs) (more_patterns p ps) (more_docs e es) (more_docs d ds) apart h a b like = (
  subst (λ z. Matches (cond z p (pattern_at fs ps m)) d) (bytes_eq-refl m) (like m d (found_first m d (content fs ds m))),
  match_inside fs ps es ds (are_distinct-rest m (names_of fs) apart) h.1 (second (has t e) (has_fields fs es) a) (second (has t d) (has_fields fs ds) b)
      (λ n v q.
      let off = head_off m (names_of fs) n apart (content_named fs ds n v q) in
      subst (λ z. Matches (cond z p (pattern_at fs ps n)) v) off (like n v (found_behind m n d v (content fs ds n) off q))),
)

pub match_by_name : (fs : FieldTrees) (p : PatternTree) (es ds : DocTrees) → are_distinct (names_of fs) ≡ true → Matches p (rec es) → has_fields fs es ≡ true → has_fields fs ds ≡ true
    → AreLike (patterns_by_name fs p) (content fs ds) → Matches p (rec ds)
match_by_name fs hole es ds apart h a b like = tt
match_by_name fs (rec_pattern ps) es ds apart h a b like = (ds, refl, match_inside fs ps es ds apart (subst (MatchEach ps) (sym (rec_same es h.0 h.1)) h.2) a b like)
match_by_name fs unit_pattern es ds apart h a b like = cc
match_by_name fs (truth_pattern x) es ds apart h a b like = cc
match_by_name fs (int_pattern x) es ds apart h a b like = cc
match_by_name fs (text_pattern x) es ds apart h a b like = cc
match_by_name fs (pick_pattern x) es ds apart h a b like = cc
match_by_name fs (alt_pattern x y) es ds apart h a b like = let e = h.1 in cc
match_by_name fs (hold_pattern x y) es ds apart h a b like = let e = h.1 in cc

-- ---- records and contents by name

pub found_content : (fs : FieldTrees) (ds : DocTrees) (n : List ℕ) (t : TyTree) → has_fields fs ds ≡ true → lookup_type fs n ≡ Some t → (v : DocTree) × (content fs ds n ≡ Some v) × (has t v ≡ true)
found_content no_fields ds n t h e = cc
found_content (more_fields m u fs) no_docs n t h e = cc
found_content (more_fields m u fs) (more_docs d ds) n t h e =
    go (bytes_eq m n) (sym (lookup_type-more m u fs n) ∙ e) (λ k. found_content fs ds n t (second (has u d) (has_fields fs ds) h) k)
  where
    go : (b : Bool) → cond b (Some u) (lookup_type fs n) ≡ Some t → (lookup_type fs n ≡ Some t → (v : DocTree) × (content fs ds n ≡ Some v) × (has t v ≡ true))
        → (v : DocTree) × (cond b (Some d) (content fs ds n) ≡ Some v) × (has t v ≡ true)
    go true e again = (d, refl, subst (λ z. has z d ≡ true) (same_Some u t e) (first (has u d) (has_fields fs ds) h))
    go false e again = again e

pub good_record : (fs : FieldTrees) (ds : DocTrees) (at : List ℕ → PatternTree) → has_fields fs ds ≡ true → AreLike at (content fs ds) → AreGood (lookup_type fs) at (content fs ds)
good_record fs ds at h like n t e = let r = found_content fs ds n t h e in (r.0, r.1, r.2, like n r.0 r.1)

-- the record with these contents
pub record IsRecordOf (fs : FieldTrees) (at : List ℕ → PatternTree) (f : Contents) : Type 0 where
  pub docs : DocTrees
  pub have : has_fields fs docs ≡ true
  pub agree : (n : List ℕ) (t : TyTree) → lookup_type fs n ≡ Some t → content fs docs n ≡ f n
  pub like : AreLike at (content fs docs)

lookup_here : (m : List ℕ) (t : TyTree) (fs : FieldTrees) → lookup_type (more_fields m t fs) m ≡ Some t
lookup_here m t fs = lookup_type-more m t fs m ∙ ap (λ b. cond b (Some t) (lookup_type fs m)) (bytes_eq-refl m)

lookup_behind : (m : List ℕ) (t : TyTree) (fs : FieldTrees) (n : List ℕ) (u : TyTree) → bytes_eq m n ≡ false → lookup_type fs n ≡ Some u → lookup_type (more_fields m t fs) n ≡ Some u
lookup_behind m t fs n u e h = lookup_type-more m t fs n ∙ (ap (λ b. cond b (Some t) (lookup_type fs n)) e ∙ h)

pub record_of : (fs : FieldTrees) (at : List ℕ → PatternTree) (f : Contents) → are_distinct (names_of fs) ≡ true → AreGood (lookup_type fs) at f → IsRecordOf fs at f
record_of no_fields at f apart good = record { docs = no_docs; have = refl; agree = λ n t e. cc; like = λ n v e. cc }
record_of (more_fields m t fs) at f apart good =
    let here = good m t (lookup_here m t fs) in
    let r = record_of fs at f (are_distinct-rest m (names_of fs) apart) (λ n u e. good n u (lookup_behind m t fs n u (head_off m (names_of fs) n apart (lookup_named fs n u e)) e)) in
    record {
      docs = more_docs here.0 r.docs;
      have = both (has t here.0) (has_fields fs r.docs) here.2 r.have;
      agree = λ n u e. agree here.0 here.1 r.docs r.agree n u (bytes_eq m n) refl (sym (lookup_type-more m t fs n) ∙ e);
      like = λ n v e. like here.0 here.3 r.docs r.like n v (bytes_eq m n) refl e;
    }
  where
    agree : (v : DocTree) → f m ≡ Some v → (ds : DocTrees) → ((n : List ℕ) (u : TyTree) → lookup_type fs n ≡ Some u → content fs ds n ≡ f n) → (n : List ℕ) (u : TyTree) (b : Bool) → bytes_eq m n ≡ b
        → cond b (Some t) (lookup_type fs n) ≡ Some u → cond b (Some v) (content fs ds n) ≡ f n
    agree v at ds rest n u true q e = sym at ∙ ap f (bytes_eq-is m n q)
    agree v at ds rest n u false q e = rest n u e

    like : (v : DocTree) → Matches (at m) v → (ds : DocTrees) → AreLike at (content fs ds) → (n : List ℕ) (w : DocTree) (b : Bool) → bytes_eq m n ≡ b → cond b (Some v) (content fs ds n) ≡ Some w → Matches (at n) w
    like v l ds rest n w true q e = subst (λ z. Matches (at z) w) (bytes_eq-is m n q) (subst (Matches (at m)) (same_Some v w e) l)
    like v l ds rest n w false q e = rest n w e

-- Lists by tags dealt out to items, and the patterns of the lists on the right of a partition.
use Rattle.std.proofs.Common.{◌≡◌, ◌∙◌, ℕ, zero, suc, ◌+◌, ◌<◌, Bool, true, false, List, [], ◌∷◌, length, Option, None, Some, refl, ap, sym, subst, arith}
use Rattle.std.specs.Prelude.{nat_eq, nat_lt, cond, option_map, option_and_then}
use Rattle.std.proofs.lemmas.Bool.{eqb-true, ltb-true}
use Rattle.texts.proofs.Conjunction.{first, second}
use Rattle.doc_values.specs.Documents.{DocTree, unit, DocTrees, no_docs, more_docs, docs_of}
use Rattle.doc_values.specs.Types.{FieldTrees, no_fields, more_fields}
use Rattle.doc_values.specs.Typing.{has, has_each}
use Rattle.tag_seq.specs.Tags.{are_below, count}
use Rattle.lens_core.specs.Tags.{tag_count, tag_name}
use Rattle.lens_core.proofs.ItemLists.{Item, tags_of, contents_at}
use Rattle.lens_core.proofs.RightLists.{tag_type}
use Rattle.law_images.specs.Patterns.{PatternTree, PatternTrees, no_patterns, more_patterns, pattern_count, Matches, MatchEach}
use Rattle.law_images.specs.PartImage.{patterns_in_list, list_patterns, patterns_at, first_pattern, other_patterns, dealt}
use Rattle.law_images.proofs.PatternsOfItems.{MatchItems, AreItemsOf}
use Rattle.texts.proofs.Tests.{nat_eq-refl}

-- ---- the patterns of each list

lists_are : (f g : ℕ → PatternTrees) → Some f ≡ Some g → (k : ℕ) → f k ≡ g k
lists_are f g e k = ap (λ (h : ℕ → PatternTrees). h k) (inside e)
  where
    inside : Some f ≡ Some g → f ≡ g
    inside e = cc

not_further : (k l : ℕ) → nat_eq k (k + 1 + l) ≡ false
not_further k l = go (nat_eq k (k + 1 + l)) refl
  where
    go : (b : Bool) → nat_eq k (k + 1 + l) ≡ b → b ≡ false
    go false e = refl
    go true e = let same : k ≡ k + 1 + l = eqb-true k (k + 1 + l) e in absurd (omega arith)

-- the list of the tag k with those of the others
abbrev with_lists : ℕ → Option (ℕ → PatternTrees) → PatternTrees → Option (ℕ → PatternTrees)
with_lists k r ps = option_map (λ others j. cond (nat_eq k j) ps (others j)) r

-- each list has its patterns, or one of them has none
pub lists_some : (rest : FieldTrees) (k : ℕ) (ts : List ℕ) (at : List ℕ → PatternTree) (lists : ℕ → PatternTrees) → list_patterns rest k ts at ≡ Some lists → (j : ℕ) → j < tag_count rest
    → patterns_in_list (count (k + j) ts) (at (tag_name rest j)) ≡ Some (lists (k + j))
lists_some no_fields k ts at lists e j b = absurd (omega (arith, b))
lists_some (more_fields n t rest) k ts at lists e j b =
    go (patterns_in_list (count k ts) (at n)) refl (list_patterns rest (k + 1) ts at) (λ others i l c. lists_some rest (k + 1) ts at others i l c) e j b
  where
    go : (o : Option PatternTrees) → patterns_in_list (count k ts) (at n) ≡ o → (r : Option (ℕ → PatternTrees))
        → ((others : ℕ → PatternTrees) → r ≡ Some others → (l : ℕ) → l < tag_count rest → patterns_in_list (count (k + 1 + l) ts) (at (tag_name rest l)) ≡ Some (others (k + 1 + l)))
        → option_and_then (with_lists k r) o ≡ Some lists → (j : ℕ) → j < tag_count (more_fields n t rest)
        → patterns_in_list (count (k + j) ts) (at (tag_name (more_fields n t rest) j)) ≡ Some (lists (k + j))
    go None q r again e j b = cc
    go (Some ps) q None again e j b = cc
    go (Some ps) q (Some others) again e zero b =
        let is = lists_are (λ j. cond (nat_eq k j) ps (others j)) lists e k in
        let same : k + 0 ≡ k = omega arith in
        subst (λ z. patterns_in_list (count z ts) (at n) ≡ Some (lists z)) (sym same) (q ∙ ap Some (sym (ap (λ b. cond b ps (others k)) (nat_eq-refl k)) ∙ is))
    go (Some ps) q (Some others) again e (suc l) b =
        let same : k + suc l ≡ k + 1 + l = omega arith in
        let off : nat_eq k (k + 1 + l) ≡ false = not_further k l in
        let is = lists_are (λ j. cond (nat_eq k j) ps (others j)) lists e (k + 1 + l) in
        subst (λ z. patterns_in_list (count z ts) (at (tag_name rest l)) ≡ Some (lists z)) (sym same)
        (again others refl l (omega (arith, b)) ∙ ap Some (sym (ap (λ b. cond b ps (others (k + 1 + l))) off) ∙ is))

pub lists_none : (rest : FieldTrees) (k : ℕ) (ts : List ℕ) (at : List ℕ → PatternTree) → list_patterns rest k ts at ≡ None → (j : ℕ) × (j < tag_count rest) × (patterns_in_list (count (k + j) ts) (at (tag_name rest j)) ≡ None)
lists_none no_fields k ts at e = cc
lists_none (more_fields n t rest) k ts at e = go (patterns_in_list (count k ts) (at n)) refl (list_patterns rest (k + 1) ts at) (λ i. lists_none rest (k + 1) ts at i) e
  where
    go : (o : Option PatternTrees) → patterns_in_list (count k ts) (at n) ≡ o → (r : Option (ℕ → PatternTrees))
        → (r ≡ None → (j : ℕ) × (j < tag_count rest) × (patterns_in_list (count (k + 1 + j) ts) (at (tag_name rest j)) ≡ None))
        → option_and_then (with_lists k r) o ≡ None
        → (j : ℕ) × (j < tag_count (more_fields n t rest)) × (patterns_in_list (count (k + j) ts) (at (tag_name (more_fields n t rest) j)) ≡ None)
    go None q r again e = let same : k + 0 ≡ k = omega arith in (0, omega arith, subst (λ z. patterns_in_list (count z ts) (at n) ≡ None) (sym same) q)
    go (Some ps) q None again e =
        let r = again refl in
        let low = r.1 in
        let same : k + suc r.0 ≡ k + 1 + r.0 = omega arith in
        (suc r.0, omega (arith, low), subst (λ z. patterns_in_list (count z ts) (at (tag_name rest r.0)) ≡ None) (sym same) r.2)
    go (Some ps) q (Some others) again e = cc

-- ---- items and lists

head_match : (ps : PatternTrees) (d : DocTree) (ds : DocTrees) → MatchEach ps (more_docs d ds) → Matches (first_pattern ps) d × MatchEach (other_patterns ps) ds
head_match no_patterns d ds m = absurd m
head_match (more_patterns p ps) d ds m = m

-- the contents at each tag, with an item before
contents_first : (k : ℕ) (x : Item) (its : List Item) (b : Bool) → nat_eq x.0 k ≡ b → contents_at k (x ∷ its) ≡ cond b (x.1 ∷ contents_at k its) (contents_at k its)
contents_first k x its b e = ap (λ z. cond z (x.1 ∷ contents_at k its) (contents_at k its)) e

below_first : (n t : ℕ) (ts : List ℕ) → are_below n (t ∷ ts) ≡ true → t < n
below_first n t ts h = ltb-true t n (first (nat_lt t n) (are_below n ts) h)

below_rest : (n t : ℕ) (ts : List ℕ) → are_below n (t ∷ ts) ≡ true → are_below n ts ≡ true
below_rest n t ts h = second (nat_lt t n) (are_below n ts) h

pub dealt_match : (n : ℕ) (its : List Item) (lists : ℕ → PatternTrees) → are_below n (tags_of its) ≡ true → ((k : ℕ) → k < n → MatchEach (lists k) (docs_of (contents_at k its))) → MatchItems (dealt (tags_of its) lists) its
dealt_match n [] lists b h = tt
dealt_match n (x ∷ its) lists b h =
    let here = head_match (lists x.0) x.1 (docs_of (contents_at x.0 its)) (subst (λ z. MatchEach (lists x.0) (docs_of z)) (contents_first x.0 x its true (nat_eq-refl x.0)) (h x.0 (below_first n x.0 (tags_of its) b))) in
    (here.0, dealt_match n its (λ k. cond (nat_eq x.0 k) (other_patterns (lists x.0)) (lists k)) (below_rest n x.0 (tags_of its) b) (λ k i. go k (nat_eq x.0 k) refl (h k i)))
  where
    go : (k : ℕ) (d : Bool) → nat_eq x.0 k ≡ d → MatchEach (lists k) (docs_of (cond d (x.1 ∷ contents_at k its) (contents_at k its))) → MatchEach (cond d (other_patterns (lists x.0)) (lists k)) (docs_of (contents_at k its))
    go k true e m = subst (λ z. MatchEach (other_patterns (lists z)) (docs_of (contents_at k its))) (sym (eqb-true x.0 k e)) (head_match (lists k) x.1 (docs_of (contents_at k its)) m).1
    go k false e m = m

none_match : (ps : PatternTrees) → pattern_count ps ≡ 0 → MatchEach ps no_docs
none_match no_patterns e = tt
none_match (more_patterns p ps) e = absurd (omega (arith, e))

more_match : (ps : PatternTrees) (n : ℕ) (d : DocTree) (ds : DocTrees) → pattern_count ps ≡ 1 + n → Matches (first_pattern ps) d → MatchEach (other_patterns ps) ds → MatchEach ps (more_docs d ds)
more_match no_patterns n d ds e a b = absurd (omega (arith, e))
more_match (more_patterns p ps) n d ds e a b = (a, b)

other_count : (ps : PatternTrees) (n : ℕ) → pattern_count ps ≡ 1 + n → pattern_count (other_patterns ps) ≡ n
other_count no_patterns n e = absurd (omega (arith, e))
other_count (more_patterns p ps) n e = omega (arith, e)

pub match_dealt : (n : ℕ) (its : List Item) (lists : ℕ → PatternTrees) → ((k : ℕ) → k < n → pattern_count (lists k) ≡ count k (tags_of its)) → MatchItems (dealt (tags_of its) lists) its
    → (k : ℕ) → k < n → MatchEach (lists k) (docs_of (contents_at k its))
match_dealt n [] lists h m k i = none_match (lists k) (h k i)
match_dealt n (x ∷ its) lists h m k i =
    go (nat_eq x.0 k) refl (h k i) (match_dealt n its (λ k. cond (nat_eq x.0 k) (other_patterns (lists x.0)) (lists k)) (λ j i. size j (nat_eq x.0 j) refl (h j i)) m.1 k i)
  where
    size : (j : ℕ) (d : Bool) → nat_eq x.0 j ≡ d → pattern_count (lists j) ≡ cond d 1 0 + count j (tags_of its) → pattern_count (cond d (other_patterns (lists x.0)) (lists j)) ≡ count j (tags_of its)
    size j true e q = subst (λ z. pattern_count (other_patterns (lists z)) ≡ count j (tags_of its)) (sym (eqb-true x.0 j e)) (other_count (lists j) (count j (tags_of its)) q)
    size j false e q = q ∙ omega arith

    go : (d : Bool) → nat_eq x.0 k ≡ d → pattern_count (lists k) ≡ cond d 1 0 + count k (tags_of its) → MatchEach (cond d (other_patterns (lists x.0)) (lists k)) (docs_of (contents_at k its))
        → MatchEach (lists k) (docs_of (cond d (x.1 ∷ contents_at k its) (contents_at k its)))
    go true e q a =
        let same = eqb-true x.0 k e in
        more_match (lists k) (count k (tags_of its)) x.1 (docs_of (contents_at k its)) q (subst (λ z. Matches (first_pattern (lists z)) x.1) same m.0)
        (subst (λ z. MatchEach (other_patterns (lists z)) (docs_of (contents_at k its))) same a)
    go false e q a = a

-- ---- documents dealt out

first_doc : List DocTree → DocTree
first_doc [] = unit
first_doc (d ∷ ds) = d

other_docs : List DocTree → List DocTree
other_docs [] = []
other_docs (d ∷ ds) = ds

-- for each tag the next document of its list
pub deal : List ℕ → (ℕ → List DocTree) → List Item
deal [] lists = []
deal (t ∷ ts) lists = (t, first_doc (lists t)) ∷ deal ts (λ k. cond (nat_eq t k) (other_docs (lists t)) (lists k))

pub deal_tags : (ts : List ℕ) (lists : ℕ → List DocTree) → tags_of (deal ts lists) ≡ ts
unfolding deal
deal_tags [] lists = refl
deal_tags (t ∷ ts) lists = ap (λ z. t ∷ z) (deal_tags ts (λ k. cond (nat_eq t k) (other_docs (lists t)) (lists k)))

no_docs_left : (ds : List DocTree) → length ds ≡ 0 → [] ≡ ds
no_docs_left [] e = refl
no_docs_left (d ∷ ds) e = absurd (omega (arith, e))

docs_again : (ds : List DocTree) (n : ℕ) → length ds ≡ 1 + n → first_doc ds ∷ other_docs ds ≡ ds
unfolding first_doc other_docs
docs_again [] n e = absurd (omega (arith, e))
docs_again (d ∷ ds) n e = refl

other_long : (ds : List DocTree) (n : ℕ) → length ds ≡ 1 + n → length (other_docs ds) ≡ n
unfolding other_docs
other_long [] n e = absurd (omega (arith, e))
other_long (d ∷ ds) n e = omega (arith, e)

deal_sizes : (t : ℕ) (ts : List ℕ) (lists : ℕ → List DocTree) (j : ℕ) (d : Bool) → nat_eq t j ≡ d → length (lists j) ≡ cond d 1 0 + count j ts → length (cond d (other_docs (lists t)) (lists j)) ≡ count j ts
deal_sizes t ts lists j true e q = subst (λ z. length (other_docs (lists z)) ≡ count j ts) (sym (eqb-true t j e)) (other_long (lists j) (count j ts) q)
deal_sizes t ts lists j false e q = q ∙ omega arith

pub deal_contents : (n : ℕ) (ts : List ℕ) (lists : ℕ → List DocTree) → ((k : ℕ) → k < n → length (lists k) ≡ count k ts) → (k : ℕ) → k < n → contents_at k (deal ts lists) ≡ lists k
unfolding deal
deal_contents n [] lists h k i = no_docs_left (lists k) (h k i)
deal_contents n (t ∷ ts) lists h k i =
    go (nat_eq t k) refl (h k i) (deal_contents n ts (λ j. cond (nat_eq t j) (other_docs (lists t)) (lists j)) (λ j i. deal_sizes t ts lists j (nat_eq t j) refl (h j i)) k i)
  where
    go : (d : Bool) → nat_eq t k ≡ d → length (lists k) ≡ cond d 1 0 + count k ts → contents_at k (deal ts (λ j. cond (nat_eq t j) (other_docs (lists t)) (lists j))) ≡ cond d (other_docs (lists t)) (lists k)
        → cond d (first_doc (lists t) ∷ contents_at k (deal ts (λ j. cond (nat_eq t j) (other_docs (lists t)) (lists j)))) (contents_at k (deal ts (λ j. cond (nat_eq t j) (other_docs (lists t)) (lists j)))) ≡ lists k
    go true e q again =
        let same = eqb-true t k e in
        ap (λ z. first_doc (lists t) ∷ z) again ∙ subst (λ z. first_doc (lists z) ∷ other_docs (lists z) ≡ lists k) (sym same) (docs_again (lists k) (count k ts) q)
    go false e q again = again

-- the types of what is dealt
abbrev pub AllHave : FieldTrees → ℕ → List DocTree → Type 0
AllHave fs k ds = has_each (tag_type fs k) (docs_of ds) ≡ true

first_has : (fs : FieldTrees) (k n : ℕ) (ds : List DocTree) → length ds ≡ 1 + n → AllHave fs k ds → (has (tag_type fs k) (first_doc ds) ≡ true) × AllHave fs k (other_docs ds)
unfolding first_doc other_docs
first_has fs k n [] e h = absurd (omega (arith, e))
first_has fs k n (d ∷ ds) e h = (first (has (tag_type fs k) d) (has_each (tag_type fs k) (docs_of ds)) h, second (has (tag_type fs k) d) (has_each (tag_type fs k) (docs_of ds)) h)

pub deal_typed : (fs : FieldTrees) (n : ℕ) (ts : List ℕ) (lists : ℕ → List DocTree) → are_below n ts ≡ true → ((k : ℕ) → k < n → length (lists k) ≡ count k ts) → ((k : ℕ) → k < n → AllHave fs k (lists k)) → AreItemsOf fs (deal ts lists)
unfolding deal
deal_typed fs n [] lists b h a = tt
deal_typed fs n (t ∷ ts) lists b h a =
    let low = below_first n t ts b in
    let size = subst (λ z. length (lists t) ≡ cond z 1 0 + count t ts) (nat_eq-refl t) (h t low) in
    let here = first_has fs t (count t ts) (lists t) size (a t low) in
    (here.0, deal_typed fs n ts (λ j. cond (nat_eq t j) (other_docs (lists t)) (lists j)) (below_rest n t ts b) (λ j i. deal_sizes t ts lists j (nat_eq t j) refl (h j i)) (λ j i. go here.1 j (nat_eq t j) refl (a j i)))
  where
    go : AllHave fs t (other_docs (lists t)) → (j : ℕ) (d : Bool) → nat_eq t j ≡ d → AllHave fs j (lists j) → AllHave fs j (cond d (other_docs (lists t)) (lists j))
    go here j true e q = subst (λ z. AllHave fs z (other_docs (lists t))) (eqb-true t j e) here
    go here j false e q = q

-- ---- the right as the far side

pub picked_match : (k : ℕ) (qs : PatternTrees) (its : List Item) → MatchItems qs its → MatchEach (patterns_at k (tags_of its) qs) (docs_of (contents_at k its))
picked_match k no_patterns [] m = tt
picked_match k no_patterns (x ∷ its) m = absurd m
picked_match k (more_patterns q qs) [] m = absurd m
picked_match k (more_patterns q qs) (x ∷ its) m = go (nat_eq x.0 k) (picked_match k qs its m.1)
  where
    go : (d : Bool) → MatchEach (patterns_at k (tags_of its) qs) (docs_of (contents_at k its))
        → MatchEach (cond d (more_patterns q (patterns_at k (tags_of its) qs)) (patterns_at k (tags_of its) qs)) (docs_of (cond d (x.1 ∷ contents_at k its) (contents_at k its)))
    go true r = (m.0, r)
    go false r = r

pub match_picked : (n : ℕ) (qs : PatternTrees) (its : List Item) → pattern_count qs ≡ length (tags_of its) → are_below n (tags_of its) ≡ true
    → ((k : ℕ) → k < n → MatchEach (patterns_at k (tags_of its) qs) (docs_of (contents_at k its))) → MatchItems qs its
match_picked n no_patterns [] e b h = tt
match_picked n no_patterns (x ∷ its) e b h = absurd (omega (arith, e))
match_picked n (more_patterns q qs) [] e b h = absurd (omega (arith, e))
match_picked n (more_patterns q qs) (x ∷ its) e b h =
    (here (nat_eq x.0 x.0) (nat_eq-refl x.0) (h x.0 (below_first n x.0 (tags_of its) b)), match_picked n qs its (omega (arith, e)) (below_rest n x.0 (tags_of its) b) (λ k i. go k (nat_eq x.0 k) (h k i)))
  where
    here : (d : Bool) → d ≡ true
        → MatchEach (cond d (more_patterns q (patterns_at x.0 (tags_of its) qs)) (patterns_at x.0 (tags_of its) qs)) (docs_of (cond d (x.1 ∷ contents_at x.0 its) (contents_at x.0 its))) → Matches q x.1
    here true i l = l.0
    here false i l = cc

    go : (k : ℕ) (d : Bool) → MatchEach (cond d (more_patterns q (patterns_at k (tags_of its) qs)) (patterns_at k (tags_of its) qs)) (docs_of (cond d (x.1 ∷ contents_at k its) (contents_at k its)))
        → MatchEach (patterns_at k (tags_of its) qs) (docs_of (contents_at k its))
    go k true l = l.1
    go k false l = l

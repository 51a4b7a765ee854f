-- Patterns of lists, and patterns for the contents of items: what stands between the two sides of a partition.
use Rattle.std.proofs.Common.{◌≡◌, ◌∙◌, ℕ, zero, suc, ◌<◌, Bool, true, false, ◌&&◌, List, [], ◌∷◌, length, Option, None, Some, refl, ap, sym, subst, arith}
use Rattle.std.specs.Prelude.{nat_eq, nat_lt, bytes_eq, cond, option_map, option_and_then}
use Rattle.std.proofs.lemmas.Bool.{eq-eqb, eqb-true, ltb-true}
use Rattle.texts.proofs.Conjunction.{first, second, both}
use Rattle.hold_shapes.specs.declared.shape.Shape.{Shape}
use Rattle.hold_shapes.specs.declared.shape.Shape.TheVariants.{List as ListOf, Keyed as KeyedOf, Tree as TreeOf}
use Rattle.doc_values.specs.Documents.{DocTree, alt, hold, DocTrees, no_docs, more_docs, docs_of, doc_list}
use Rattle.doc_values.specs.Types.{TyTree, ty_alt, ty_list, FieldTrees, no_fields, more_fields, names_of, are_distinct, is_well_formed, are_well_formed}
use Rattle.doc_values.specs.Typing.{has, has_each, is_list_of, lookup_type}
use Rattle.doc_values.specs.Initial.{initial}
use Rattle.doc_values.proofs.InitialTypes.{has_initial}
use Rattle.doc_values.proofs.Lists.{doc_list-docs_of}
use Rattle.tag_seq.specs.Tags.{are_below}
use Rattle.lens_core.specs.Tags.{tag_count, tag_name}
use Rattle.lens_core.specs.Consistency.{list_doc}
use Rattle.lens_core.proofs.ItemLists.{Item, tags_of}
use Rattle.lens_core.proofs.RightLists.{tag_type, item_docs, type_by_name}
use Rattle.law_images.specs.Patterns.{PatternTree, hole, unit_pattern, truth_pattern, int_pattern, text_pattern, pick_pattern, rec_pattern, alt_pattern, hold_pattern, PatternTrees, no_patterns, more_patterns, pattern_count, Matches, MatchEach, HasSome}
use Rattle.law_images.specs.PartImage.{holes, list_pattern, patterns_in_list, content_pattern, content_patterns, item_patterns}
use Rattle.texts.proofs.Tests.{bytes_eq-is}
use Rattle.texts.proofs.KeyOrder.{bytes_eq-refl}

-- ---- lists

pub match_count : (ps : PatternTrees) (ds : DocTrees) → MatchEach ps ds → pattern_count ps ≡ length (doc_list ds)
match_count no_patterns no_docs m = refl
match_count no_patterns (more_docs d ds) m = absurd m
match_count (more_patterns p ps) no_docs m = absurd m
match_count (more_patterns p ps) (more_docs d ds) m = let n = match_count ps ds m.1 in omega (arith, n)

pub match_holes : (ds : DocTrees) → MatchEach (holes (length (doc_list ds))) ds
match_holes no_docs = tt
match_holes (more_docs d ds) = (tt, match_holes ds)

pub count_holes : (n : ℕ) → pattern_count (holes n) ≡ n
count_holes zero = refl
count_holes (suc n) = let m = count_holes n in omega (arith, m)

hold_same : (r q : Shape) (ds es : DocTrees) → hold r ds ≡ hold q es → (r ≡ q) × (ds ≡ es)
hold_same r q ds es e = (cc, cc)

-- what the patterns in a list say of the list of these documents
abbrev pub IsInList : ℕ → List DocTree → PatternTree → Option PatternTrees → Type 0
IsInList n vs p None = Matches p (list_doc vs) → ⊥
IsInList n vs p (Some ps) = (pattern_count ps ≡ n) × (Matches p (list_doc vs) → MatchEach ps (docs_of vs)) × (MatchEach ps (docs_of vs) → Matches p (list_doc vs))

docs_long : (vs : List DocTree) → length (doc_list (docs_of vs)) ≡ length vs
docs_long vs = ap length (doc_list-docs_of vs)

list_inside : (n : ℕ) (vs : List DocTree) (s : Shape) (ps : PatternTrees) → length vs ≡ n → (b : Bool) → (is_list_of s n && nat_eq (pattern_count ps) n) ≡ b → IsInList n vs (hold_pattern s ps) (cond b (Some ps) None)
list_inside n vs s ps long false e = λ m.
    let same = hold_same (ListOf (record { count = length vs })) s (docs_of vs) m.0 m.1 in
    let inside = subst (MatchEach ps) (sym same.1) m.2 in
    let many : pattern_count ps ≡ n = match_count ps (docs_of vs) inside ∙ (docs_long vs ∙ long) in
    let shape : is_list_of s n ≡ true = subst (λ z. is_list_of z n ≡ true) same.0 (eq-eqb (length vs) n long) in
    let whole = both (is_list_of s n) (nat_eq (pattern_count ps) n) shape (eq-eqb (pattern_count ps) n many) in
    cc
list_inside n vs s ps long true e = (
  eqb-true (pattern_count ps) n (second (is_list_of s n) (nat_eq (pattern_count ps) n) e),
  λ m. subst (MatchEach ps) (sym (hold_same (ListOf (record { count = length vs })) s (docs_of vs) m.0 m.1).1) m.2,
  λ m. (docs_of vs, ap (λ z. hold z (docs_of vs)) (list_is s (first (is_list_of s n) (nat_eq (pattern_count ps) n) e)), m),
)
  where
    list_is : (s : Shape) → is_list_of s n ≡ true → ListOf (record { count = length vs }) ≡ s
    list_is (ListOf r) e = ap (λ k. ListOf (record { count = k })) (long ∙ sym (eqb-true r.count n e))
    list_is (KeyedOf ks) e = cc
    list_is (TreeOf ds) e = cc

pub in_list : (n : ℕ) (vs : List DocTree) (p : PatternTree) → length vs ≡ n → IsInList n vs p (patterns_in_list n p)
in_list n vs hole long = (count_holes n, (λ m. subst (λ k. MatchEach (holes k) (docs_of vs)) (docs_long vs ∙ long) (match_holes (docs_of vs))), (λ m. tt))
in_list n vs (hold_pattern s ps) long = list_inside n vs s ps long (is_list_of s n && nat_eq (pattern_count ps) n) refl
in_list n vs unit_pattern long = λ m. cc
in_list n vs (truth_pattern b) long = λ m. cc
in_list n vs (int_pattern b) long = λ m. cc
in_list n vs (text_pattern b) long = λ m. cc
in_list n vs (pick_pattern b) long = λ m. cc
in_list n vs (rec_pattern b) long = λ m. let e = m.1 in cc
in_list n vs (alt_pattern a b) long = λ m. let e = m.1 in cc

-- n documents of the type in the patterns
pub record IsListOf (t : TyTree) (n : ℕ) (ps : PatternTrees) : Type 0 where
  pub docs : DocTrees
  pub have : has_each t docs ≡ true
  pub match : MatchEach ps docs
  pub long : length (doc_list docs) ≡ n

same_patterns : (ps qs : PatternTrees) → Some ps ≡ Some qs → ps ≡ qs
same_patterns ps qs e = cc

fresh_list : (t : TyTree) (d : DocTree) → has t d ≡ true → (n : ℕ) → IsListOf t n (holes n)
fresh_list t d h zero = record { docs = no_docs; have = refl; match = tt; long = refl }
fresh_list t d h (suc n) =
    let r = fresh_list t d h n in
    record { docs = more_docs d r.docs; have = both (has t d) (has_each t r.docs) h r.have; match = (tt, r.match); long = ap suc r.long }

-- the list of a pattern that some list is in has such documents
pub list_built : (t : TyTree) (n : ℕ) (p : PatternTree) (ps : PatternTrees) → is_well_formed t ≡ true → HasSome (ty_list t) p → patterns_in_list n p ≡ Some ps → IsListOf t n ps
list_built t n hole ps wf some e = subst (IsListOf t n) (same_patterns (holes n) ps e) (fresh_list t (initial t) (has_initial t wf) n)
list_built t n (hold_pattern s qs) ps wf some e = go (is_list_of s n && nat_eq (pattern_count qs) n) refl e
  where
    go : (b : Bool) → (is_list_of s n && nat_eq (pattern_count qs) n) ≡ b → cond b (Some qs) None ≡ Some ps → IsListOf t n ps
    go false q e = cc
    go true q e =
        let ds = some.2.0 in
        let h = subst (λ z. has (ty_list t) z ≡ true) some.2.1 some.1 in
        subst (IsListOf t n) (same_patterns qs ps e) (record {
          docs = ds;
          have = second (is_list_of s (length (doc_list ds))) (has_each t ds) h;
          match = some.2.2;
          long = sym (match_count qs ds some.2.2) ∙ eqb-true (pattern_count qs) n (second (is_list_of s n) (nat_eq (pattern_count qs) n) q);
        })
list_built t n unit_pattern ps wf some e = cc
list_built t n (truth_pattern b) ps wf some e = cc
list_built t n (int_pattern b) ps wf some e = cc
list_built t n (text_pattern b) ps wf some e = cc
list_built t n (pick_pattern b) ps wf some e = cc
list_built t n (rec_pattern b) ps wf some e = cc
list_built t n (alt_pattern a b) ps wf some e = cc

-- ---- items

-- the content of each item is in its pattern
abbrev pub MatchItems : PatternTrees → List Item → Type 0
MatchItems no_patterns [] = Unit {0}
MatchItems no_patterns (x ∷ its) = ⊥
MatchItems (more_patterns q qs) [] = ⊥
MatchItems (more_patterns q qs) (x ∷ its) = Matches q x.1 × MatchItems qs its

-- the content of each item has the type of its tag
abbrev pub AreItemsOf : FieldTrees → List Item → Type 0
AreItemsOf fs [] = Unit {0}
AreItemsOf fs (x ∷ its) = (has (tag_type fs x.0) x.1 ≡ true) × AreItemsOf fs its

pub items_count : (qs : PatternTrees) (its : List Item) → MatchItems qs its → pattern_count qs ≡ length (tags_of its)
items_count no_patterns [] m = refl
items_count no_patterns (x ∷ its) m = absurd m
items_count (more_patterns q qs) [] m = absurd m
items_count (more_patterns q qs) (x ∷ its) m = let n = items_count qs its m.1 in omega (arith, n)

-- some items with these tags, of their types, and in the patterns
pub record HasItems (fs : FieldTrees) (ts : List ℕ) (qs : PatternTrees) : Type 0 where
  pub items : List Item
  pub tags : tags_of items ≡ ts
  pub typed : AreItemsOf fs items
  pub match : MatchItems qs items

pub tag_formed : (fs : FieldTrees) (k : ℕ) → are_well_formed fs ≡ true → k < tag_count fs → is_well_formed (tag_type fs k) ≡ true
tag_formed no_fields k h b = absurd (omega arith)
tag_formed (more_fields n t fs) zero h b = first (is_well_formed t) (are_well_formed fs) h
tag_formed (more_fields n t fs) (suc k) h b = tag_formed fs k (second (is_well_formed t) (are_well_formed fs) h) (omega (arith, b))

-- ---- from the left

abbrev IsContent : List ℕ → DocTree → PatternTree → Option PatternTree → Type 0
IsContent n d p None = Matches p (alt n d) → ⊥
IsContent n d p (Some q) = (Matches p (alt n d) → Matches q d) × (Matches q d → Matches p (alt n d))

alt_same : (m n : List ℕ) (d e : DocTree) → alt m d ≡ alt n e → (m ≡ n) × (d ≡ e)
alt_same m n d e q = (cc, cc)

content_tag : (n : List ℕ) (d : DocTree) (m : List ℕ) (p : PatternTree) (b : Bool) → bytes_eq m n ≡ b → IsContent n d (alt_pattern m p) (cond b (Some p) None)
content_tag n d m p true e =
    let same = bytes_eq-is m n e in
    ((λ h. subst (Matches p) (sym (alt_same n m d h.0 h.1).1) h.2), (λ h. (d, ap (λ z. alt z d) (sym same), h)))
content_tag n d m p false e = λ h.
    let here = subst (λ (z : List ℕ). bytes_eq z n ≡ false) (sym (alt_same n m d h.0 h.1).0) e in
    let there = bytes_eq-refl n in
    cc

content_is : (n : List ℕ) (d : DocTree) (p : PatternTree) → IsContent n d p (content_pattern n p)
content_is n d hole = ((λ h. tt), (λ h. tt))
content_is n d (alt_pattern m p) = content_tag n d m p (bytes_eq m n) refl
content_is n d unit_pattern = λ m. cc
content_is n d (truth_pattern b) = λ m. cc
content_is n d (int_pattern b) = λ m. cc
content_is n d (text_pattern b) = λ m. cc
content_is n d (pick_pattern b) = λ m. cc
content_is n d (rec_pattern b) = λ m. let e = m.1 in cc
content_is n d (hold_pattern a b) = λ m. let e = m.1 in cc

abbrev AreContents : FieldTrees → List Item → PatternTrees → Option PatternTrees → Type 0
AreContents fs its ps None = MatchEach ps (docs_of (item_docs fs its)) → ⊥
AreContents fs its ps (Some qs) = (MatchEach ps (docs_of (item_docs fs its)) → MatchItems qs its) × (MatchItems qs its → MatchEach ps (docs_of (item_docs fs its)))

contents_are : (fs : FieldTrees) (its : List Item) (ps : PatternTrees) → AreContents fs its ps (content_patterns fs (tags_of its) ps)
contents_are fs [] no_patterns = ((λ h. tt), (λ h. tt))
contents_are fs [] (more_patterns p ps) = λ h. h
contents_are fs (x ∷ its) no_patterns = λ h. h
contents_are fs (x ∷ its) (more_patterns p ps) =
    go (content_pattern (tag_name fs x.0) p) (content_is (tag_name fs x.0) x.1 p) (content_patterns fs (tags_of its) ps) (contents_are fs its ps)
  where
    go : (o : Option PatternTree) → IsContent (tag_name fs x.0) x.1 p o → (r : Option PatternTrees) → AreContents fs its ps r
        → AreContents fs (x ∷ its) (more_patterns p ps) (option_and_then (λ q. option_map (more_patterns q) r) o)
    go None a r b = λ h. a h.0
    go (Some q) a None b = λ h. b h.1
    go (Some q) a (Some qs) b = ((λ h. (a.0 h.0, b.0 h.1)), (λ h. (a.1 h.0, b.1 h.1)))

-- what the near pattern says of the items
abbrev pub IsSame : PatternTree → DocTree → List Item → Option PatternTrees → Type 0
IsSame p v its None = Matches p v → ⊥
IsSame p v its (Some qs) = (Matches p v → MatchItems qs its) × (MatchItems qs its → Matches p v)

docs_many : (fs : FieldTrees) (its : List Item) → length (item_docs fs its) ≡ length (tags_of its)
docs_many fs [] = refl
docs_many fs (x ∷ its) = ap suc (docs_many fs its)

pub left_same : (fs : FieldTrees) (its : List Item) (p : PatternTree) → IsSame p (list_doc (item_docs fs its)) its (option_and_then (content_patterns fs (tags_of its)) (patterns_in_list (length (tags_of its)) p))
left_same fs its p = go (patterns_in_list (length (tags_of its)) p) (in_list (length (tags_of its)) (item_docs fs its) p (docs_many fs its))
  where
    inside : (ps : PatternTrees) → (Matches p (list_doc (item_docs fs its)) → MatchEach ps (docs_of (item_docs fs its))) → (MatchEach ps (docs_of (item_docs fs its)) → Matches p (list_doc (item_docs fs its)))
        → (o : Option PatternTrees) → AreContents fs its ps o → IsSame p (list_doc (item_docs fs its)) its o
    inside ps down up None a = λ m. a (down m)
    inside ps down up (Some qs) a = ((λ m. a.0 (down m)), (λ m. up (a.1 m)))

    go : (o : Option PatternTrees) → IsInList (length (tags_of its)) (item_docs fs its) p o → IsSame p (list_doc (item_docs fs its)) its (option_and_then (content_patterns fs (tags_of its)) o)
    go None a = a
    go (Some ps) a = inside ps a.1 a.2 (content_patterns fs (tags_of its) ps) (contents_are fs its ps)

-- the items of a list of alternatives in the pattern
pub same_pattern : (p q : PatternTree) → Some p ≡ Some q → p ≡ q
same_pattern p q e = cc

pub tag_has : (fs : FieldTrees) (n : List ℕ) (v : DocTree) (t : TyTree) → lookup_type fs n ≡ Some t → has (ty_alt fs) (alt n v) ≡ true → has t v ≡ true
tag_has fs n v t e h = subst (λ (o : Option TyTree). elim o [ None ↦ false | Some u ↦ has u v ] ≡ true) e h

pub has_tag : (fs : FieldTrees) (n : List ℕ) (v : DocTree) (t : TyTree) → lookup_type fs n ≡ Some t → has t v ≡ true → has (ty_alt fs) (alt n v) ≡ true
has_tag fs n v t e h = subst (λ (o : Option TyTree). elim o [ None ↦ false | Some u ↦ has u v ] ≡ true) (sym e) h

content_some : (fs : FieldTrees) (k : ℕ) (p q : PatternTree) → are_distinct (names_of fs) ≡ true → are_well_formed fs ≡ true → k < tag_count fs → HasSome (ty_alt fs) p → content_pattern (tag_name fs k) p ≡ Some q
    → HasSome (tag_type fs k) q
content_some fs k hole q apart wf b some e = subst (HasSome (tag_type fs k)) (same_pattern hole q e) (initial (tag_type fs k), has_initial (tag_type fs k) (tag_formed fs k wf b), tt)
content_some fs k (alt_pattern m p) q apart wf b some e = go (bytes_eq m (tag_name fs k)) refl e
  where
    go : (d : Bool) → bytes_eq m (tag_name fs k) ≡ d → cond d (Some p) None ≡ Some q → HasSome (tag_type fs k) q
    go false i e = cc
    go true i e =
        let h = subst (λ z. has (ty_alt fs) z ≡ true) some.2.1 some.1 in
        let h' = subst (λ z. has (ty_alt fs) (alt z some.2.0) ≡ true) (bytes_eq-is m (tag_name fs k) i) h in
        subst (HasSome (tag_type fs k)) (same_pattern p q e) (some.2.0, tag_has fs (tag_name fs k) some.2.0 (tag_type fs k) (type_by_name fs k apart b) h', some.2.2)
content_some fs k unit_pattern q apart wf b some e = cc
content_some fs k (truth_pattern x) q apart wf b some e = cc
content_some fs k (int_pattern x) q apart wf b some e = cc
content_some fs k (text_pattern x) q apart wf b some e = cc
content_some fs k (pick_pattern x) q apart wf b some e = cc
content_some fs k (rec_pattern x) q apart wf b some e = cc
content_some fs k (hold_pattern x y) q apart wf b some e = cc

below_first : (fs : FieldTrees) (t : ℕ) (ts : List ℕ) → are_below (tag_count fs) (t ∷ ts) ≡ true → t < tag_count fs
below_first fs t ts h = ltb-true t (tag_count fs) (first (nat_lt t (tag_count fs)) (are_below (tag_count fs) ts) h)

below_rest : (fs : FieldTrees) (t : ℕ) (ts : List ℕ) → are_below (tag_count fs) (t ∷ ts) ≡ true → are_below (tag_count fs) ts ≡ true
below_rest fs t ts h = second (nat_lt t (tag_count fs)) (are_below (tag_count fs) ts) h

pub contents_built : (fs : FieldTrees) (ts : List ℕ) (ps qs : PatternTrees) (ds : DocTrees) → are_distinct (names_of fs) ≡ true → are_well_formed fs ≡ true → are_below (tag_count fs) ts ≡ true → has_each (ty_alt fs) ds ≡ true
    → MatchEach ps ds → content_patterns fs ts ps ≡ Some qs → HasItems fs ts qs
contents_built fs [] no_patterns qs ds apart wf b h m e = subst (HasItems fs []) (same_patterns no_patterns qs e) (record { items = []; tags = refl; typed = tt; match = tt })
contents_built fs [] (more_patterns p ps) qs ds apart wf b h m e = cc
contents_built fs (t ∷ ts) no_patterns qs ds apart wf b h m e = cc
contents_built fs (t ∷ ts) (more_patterns p ps) qs no_docs apart wf b h m e = absurd m
contents_built fs (t ∷ ts) (more_patterns p ps) qs (more_docs d ds) apart wf b h m e =
    go (content_pattern (tag_name fs t) p)
    (λ q i. content_some fs t p q apart wf (below_first fs t ts b) (d, first (has (ty_alt fs) d) (has_each (ty_alt fs) ds) h, m.0) i) (content_patterns fs ts ps)
    (λ rs i. contents_built fs ts ps rs ds apart wf (below_rest fs t ts b) (second (has (ty_alt fs) d) (has_each (ty_alt fs) ds) h) m.1 i) e
  where
    go : (o : Option PatternTree) → ((q : PatternTree) → o ≡ Some q → HasSome (tag_type fs t) q) → (r : Option PatternTrees) → ((rs : PatternTrees) → r ≡ Some rs → HasItems fs ts rs)
        → option_and_then (λ q. option_map (more_patterns q) r) o ≡ Some qs → HasItems fs (t ∷ ts) qs
    go None a r c e = cc
    go (Some q) a None c e = cc
    go (Some q) a (Some rs) c e =
        let x = a q refl in
        let i = c rs refl in
        subst (HasItems fs (t ∷ ts)) (same_patterns (more_patterns q rs) qs e)
        (record { items = (t, x.0) ∷ i.items; tags = ap (λ z. t ∷ z) i.tags; typed = (x.1, i.typed); match = (x.2, i.match) })

pub left_built : (fs : FieldTrees) (ts : List ℕ) (p : PatternTree) (qs : PatternTrees) → are_distinct (names_of fs) ≡ true → are_well_formed fs ≡ true → is_well_formed (ty_alt fs) ≡ true → are_below (tag_count fs) ts ≡ true
    → HasSome (ty_list (ty_alt fs)) p → option_and_then (content_patterns fs ts) (patterns_in_list (length ts) p) ≡ Some qs → HasItems fs ts qs
left_built fs ts p qs apart wf wa b some e = go (patterns_in_list (length ts) p) (λ ps i. list_built (ty_alt fs) (length ts) p ps wa some i) e
  where
    go : (o : Option PatternTrees) → ((ps : PatternTrees) → o ≡ Some ps → IsListOf (ty_alt fs) (length ts) ps) → option_and_then (content_patterns fs ts) o ≡ Some qs → HasItems fs ts qs
    go None a e = cc
    go (Some ps) a e = let l = a ps refl in contents_built fs ts ps qs l.docs apart wf b l.have l.match e

-- ---- the left as the far side

items_match : (fs : FieldTrees) (qs : PatternTrees) (its : List Item) → MatchItems qs its → MatchEach (item_patterns fs (tags_of its) qs) (docs_of (item_docs fs its))
items_match fs no_patterns [] m = tt
items_match fs no_patterns (x ∷ its) m = absurd m
items_match fs (more_patterns q qs) [] m = absurd m
items_match fs (more_patterns q qs) (x ∷ its) m = ((x.1, refl, m.0), items_match fs qs its m.1)

pub left_matches : (fs : FieldTrees) (qs : PatternTrees) (its : List Item) → MatchItems qs its → Matches (list_pattern (length (tags_of its)) (item_patterns fs (tags_of its) qs)) (list_doc (item_docs fs its))
left_matches fs qs its m = (docs_of (item_docs fs its), ap (λ n. hold (ListOf (record { count = n })) (docs_of (item_docs fs its))) (docs_many fs its), items_match fs qs its m)

-- items whose documents are these
pub record AreTheItems (fs : FieldTrees) (ts : List ℕ) (qs : PatternTrees) (ds : DocTrees) : Type 0 where
  pub items : List Item
  pub tags : tags_of items ≡ ts
  pub is : ds ≡ docs_of (item_docs fs items)
  pub match : MatchItems qs items

pub items_found : (fs : FieldTrees) (ts : List ℕ) (qs : PatternTrees) (ds : DocTrees) → pattern_count qs ≡ length ts → MatchEach (item_patterns fs ts qs) ds → AreTheItems fs ts qs ds
items_found fs [] no_patterns no_docs n m = record { items = []; tags = refl; is = refl; match = tt }
items_found fs [] no_patterns (more_docs d ds) n m = absurd m
items_found fs [] (more_patterns q qs) ds n m = absurd (omega (arith, n))
items_found fs (t ∷ ts) no_patterns ds n m = absurd (omega (arith, n))
items_found fs (t ∷ ts) (more_patterns q qs) no_docs n m = absurd m
items_found fs (t ∷ ts) (more_patterns q qs) (more_docs d ds) n m =
    let r = items_found fs ts qs ds (omega (arith, n)) m.1 in
    record {
      items = (t, m.0.0) ∷ r.items;
      tags = ap (λ z. t ∷ z) r.tags;
      is = ap (λ z. more_docs z ds) m.0.1 ∙ ap (more_docs (alt (tag_name fs t) m.0.0)) r.is;
      match = (m.0.2, r.match);
    }

-- Containers: the pattern at each place, and the images of the places one after the other.
use Rattle.std.proofs.Common.{◌≡◌, ◌∙◌, ℕ, zero, suc, ◌+◌, ◌<◌, ◌≤◌, Bool, true, false, ◌&&◌, List, [], ◌∷◌, ◌++◌, length, map, drop, drop-cons, get_or, add-one, append-nil, append_assoc, Option, None, Some, option_map, refl, ap, sym, subst, arith, rules}
use Rattle.std.specs.Prelude.{◌↔◌, IsTrue, nat_eq, option_and_then, if◌then◌else◌}
use Rattle.std.proofs.lemmas.List.{drop_all, map-append}
use Rattle.std.proofs.lemmas.Bool.{eq-eqb, eqb-true}
use Rattle.texts.proofs.Conjunction.{first as first_and, second as second_and}
use Rattle.hold_shapes.specs.declared.shape.Shape.{Shape}
use Rattle.lens_core.specs.Complements.{CompTree, nil, hold_comp, CompTrees, no_comps, more_comps, comp_list, comp_count, AllFit}
use Rattle.law_images.specs.Image.{is_same_shape, patterns_in_shape, image_each, image_held}
use Rattle.law_images.specs.PartImage.{holes}
use Rattle.law_images.specs.Patterns.{PatternTree, hole, unit_pattern, truth_pattern, int_pattern, text_pattern, pick_pattern, rec_pattern, alt_pattern, hold_pattern, PatternTrees, no_patterns, more_patterns, patterns_from, pattern_list, pattern_count, pattern_tree, patterns_tree}
use Rattle.law_images.specs.declared.pattern.Pattern.{Pattern, the_lemmas as pattern_lemmas}
use Rattle.law_images.specs.declared.pattern.Pattern.TheVariants.{Hold}
use Rattle.law_images.specs.declared.pattern.Patterns.{Patterns}
use Rattle.law_images.proofs.ImagesOfContainers.{shape_same, shapes_are}
use Rattle.law_images.proofs.PatternLists.{pattern_count-length}
use Rattle.lens_check.specs.ImageParts.{has_shape, HasPlace, place_pattern}

-- ---- shapes

pub held_pattern : (s : Shape) (ps : Patterns) → pattern_tree (Hold s ps) ≡ hold_pattern s (patterns_tree ps)
held_pattern s ps = search (rules, pattern_lemmas)

pub shape_test : (b : Bool) (r s : Shape) → (IsTrue b ↔ (r ≡ s)) → b ≡ is_same_shape r s
shape_test true r s h = sym (subst (λ z. is_same_shape r z ≡ true) (h.0 refl) (shape_same r))
shape_test false r s h = go (is_same_shape r s) refl
  where
    go : (d : Bool) → is_same_shape r s ≡ d → false ≡ d
    go true e = h.1 (shapes_are r s e)
    go false e = refl

shape_is : (s r : Shape) (n : ℕ) (p : Pattern) (ps : Patterns) → p ≡ Hold r ps
    → has_shape s n (pattern_tree p) ≡ (is_same_shape r s && nat_eq (pattern_count (patterns_tree ps)) n)
shape_is s r n p ps is = ap (has_shape s n) (ap pattern_tree is ∙ held_pattern r ps)

-- the pattern of a container of this shape has it if it has as many places
pub shape_counted : (s r : Shape) (n m : ℕ) (b : Bool) (p : Pattern) (ps : Patterns) → p ≡ Hold r ps → m ≡ pattern_count (patterns_tree ps) → (IsTrue b ↔ (r ≡ s)) → b ≡ true
    → has_shape s n (pattern_tree p) ≡ nat_eq m n
shape_counted s r n m b p ps is count test passed =
    shape_is s r n p ps is ∙ ap (λ z. z && nat_eq (pattern_count (patterns_tree ps)) n) (sym (shape_test b r s test) ∙ passed) ∙ ap (λ z. nat_eq z n) (sym count)

-- that of any other container has it not
pub shape_differs : (s r : Shape) (n : ℕ) (b : Bool) (p : Pattern) (ps : Patterns) → p ≡ Hold r ps → (IsTrue b ↔ (r ≡ s)) → b ≡ false → has_shape s n (pattern_tree p) ≡ false
shape_differs s r n b p ps is test failed = shape_is s r n p ps is ∙ ap (λ z. z && nat_eq (pattern_count (patterns_tree ps)) n) (sym (shape_test b r s test) ∙ failed)

-- what the test of a shape gave, for as many places as there are
pub shape_seen : (s : Shape) (n m : ℕ) (p : PatternTree) (b : Bool) → b ≡ has_shape s m p → m ≡ n → b ≡ true → has_shape s n p ≡ true
shape_seen s n m p b e count passed = subst (λ k. has_shape s k p ≡ true) count (sym e ∙ passed)

pub ruleset shape_rules = (shape_counted)

-- ---- lists of images

abbrev pub image_list : (CompTree → PatternTree → Option PatternTree) → List CompTree → List PatternTree → Option (List PatternTree)
image_list inner [] [] = Some []
image_list inner (c ∷ cs) (p ∷ ps) = option_and_then (λ q. option_map (λ qs. q ∷ qs) (image_list inner cs ps)) (inner c p)
image_list inner _ _ = None

more_from : (q : PatternTree) (o : Option PatternTrees) (l : Option (List PatternTree)) → o ≡ option_map patterns_from l
    → option_map (more_patterns q) o ≡ option_map patterns_from (option_map (λ qs. q ∷ qs) l)
more_from q o None e = rw e refl
more_from q o (Some qs) e = rw e refl

each_list : (inner : CompTree → PatternTree → Option PatternTree) (cs : CompTrees) (ps : PatternTrees)
    → image_each inner cs ps ≡ option_map patterns_from (image_list inner (comp_list cs) (pattern_list ps))
each_list inner no_comps no_patterns = refl
each_list inner no_comps (more_patterns p ps) = refl
each_list inner (more_comps c cs) no_patterns = refl
each_list inner (more_comps c cs) (more_patterns p ps) = go (inner c p) (each_list inner cs ps)
  where
    go : (o : Option PatternTree) → image_each inner cs ps ≡ option_map patterns_from (image_list inner (comp_list cs) (pattern_list ps))
        → option_and_then (λ q. option_map (more_patterns q) (image_each inner cs ps)) o
        ≡ option_map patterns_from (option_and_then (λ q. option_map (λ qs. q ∷ qs) (image_list inner (comp_list cs) (pattern_list ps))) o)
    go None e = refl
    go (Some q) e = more_from q (image_each inner cs ps) (image_list inner (comp_list cs) (pattern_list ps)) e

-- ---- the patterns of the places

abbrev pub places_of : ℕ → PatternTree → List PatternTree
places_of n (hold_pattern s ps) = pattern_list ps
places_of n _ = pattern_list (holes n)

holes-length : (n : ℕ) → length (pattern_list (holes n)) ≡ n
holes-length zero = refl
holes-length (suc n) = ap suc (holes-length n)

holes-get : (n i : ℕ) → get_or (pattern_list (holes n)) i hole ≡ hole
holes-get zero i = refl
holes-get (suc n) zero = refl
holes-get (suc n) (suc i) = holes-get n i

shape_counts : (s : Shape) (n : ℕ) (r : Shape) (ps : PatternTrees) → has_shape s n (hold_pattern r ps) ≡ true → pattern_count ps ≡ n
shape_counts s n r ps h = eqb-true (pattern_count ps) n (second_and (is_same_shape r s) (nat_eq (pattern_count ps) n) h)

pub places-length : (s : Shape) (n : ℕ) (p : PatternTree) → has_shape s n p ≡ true → length (places_of n p) ≡ n
places-length s n hole h = holes-length n
places-length s n (hold_pattern r ps) h = omega (arith, shape_counts s n r ps h, pattern_count-length ps)
places-length s n unit_pattern h = cc
places-length s n (truth_pattern b) h = cc
places-length s n (int_pattern z) h = cc
places-length s n (text_pattern t) h = cc
places-length s n (pick_pattern m) h = cc
places-length s n (rec_pattern ps) h = cc
places-length s n (alt_pattern m p) h = cc

pub place_is : (s : Shape) (n : ℕ) (p : PatternTree) (i : ℕ) → has_shape s n p ≡ true → place_pattern p i ≡ get_or (places_of n p) i hole
place_is s n hole i h = sym (holes-get n i)
place_is s n (hold_pattern r ps) i h = refl
place_is s n unit_pattern i h = cc
place_is s n (truth_pattern b) i h = cc
place_is s n (int_pattern z) i h = cc
place_is s n (text_pattern t) i h = cc
place_is s n (pick_pattern m) i h = cc
place_is s n (rec_pattern ps) i h = cc
place_is s n (alt_pattern m p) i h = cc

pub has_place : (s : Shape) (n : ℕ) (p : PatternTree) (i : ℕ) → has_shape s n p ≡ true → i < n → HasPlace p i
has_place s n (hold_pattern r ps) i h k = omega (arith, shape_counts s n r ps h)
has_place s n hole i h k = tt
has_place s n unit_pattern i h k = tt
has_place s n (truth_pattern b) i h k = tt
has_place s n (int_pattern z) i h k = tt
has_place s n (text_pattern t) i h k = tt
has_place s n (pick_pattern m) i h k = tt
has_place s n (rec_pattern ps) i h k = tt
has_place s n (alt_pattern m p) i h k = tt

-- ---- the image of a container

in_shape : (s : Shape) (n : ℕ) (p : PatternTree) → has_shape s n p ≡ true → option_map pattern_list (patterns_in_shape s n p) ≡ Some (places_of n p)
in_shape s n hole h = refl
in_shape s n (hold_pattern r ps) h = rw (first_and (is_same_shape r s) (nat_eq (pattern_count ps) n) h) refl
in_shape s n unit_pattern h = cc
in_shape s n (truth_pattern b) h = cc
in_shape s n (int_pattern z) h = cc
in_shape s n (text_pattern t) h = cc
in_shape s n (pick_pattern m) h = cc
in_shape s n (rec_pattern ps) h = cc
in_shape s n (alt_pattern m p) h = cc

held_from : (inner : CompTree → PatternTree → Option PatternTree) (s : Shape) (cs : CompTrees) (o : Option PatternTrees) (ps : List PatternTree)
    → option_map pattern_list o ≡ Some ps
    → option_map (hold_pattern s) (option_and_then (image_each inner cs) o) ≡ option_map (λ qs. hold_pattern s (patterns_from qs)) (image_list inner (comp_list cs) ps)
held_from inner s cs None ps e = cc
held_from inner s cs (Some qs) ps e =
    let same : pattern_list qs ≡ ps = cc in
    subst (λ z. option_map (hold_pattern s) (image_each inner cs qs) ≡ option_map (λ qs. hold_pattern s (patterns_from qs)) (image_list inner (comp_list cs) z)) same
    (ap (option_map (hold_pattern s)) (each_list inner cs qs) ∙ twice s (image_list inner (comp_list cs) (pattern_list qs)))
  where
    twice : (s : Shape) (l : Option (List PatternTree)) → option_map (hold_pattern s) (option_map patterns_from l) ≡ option_map (λ qs. hold_pattern s (patterns_from qs)) l
    twice s None = refl
    twice s (Some qs) = refl

pub held_is : (inner : CompTree → PatternTree → Option PatternTree) (s : Shape) (cs : CompTrees) (p : PatternTree) → has_shape s (comp_count cs) p ≡ true
    → image_held inner (hold_comp s cs) p ≡ option_map (λ qs. hold_pattern s (patterns_from qs)) (image_list inner (comp_list cs) (places_of (comp_count cs) p))
held_is inner s cs p h = held_from inner s cs (patterns_in_shape s (comp_count cs) p) (places_of (comp_count cs) p) (in_shape s (comp_count cs) p h)

-- a pattern that has no container of the shape

fewer : (m n : ℕ) → nat_eq (m + 1) (n + 1) ≡ false → nat_eq m n ≡ false
fewer m n h = go (nat_eq m n) refl
  where
    go : (b : Bool) → nat_eq m n ≡ b → b ≡ false
    go false e = refl
    go true e = let same = eq-eqb (m + 1) (n + 1) (ap (λ k. k + 1) (eqb-true m n e)) in cc

none_counts : (inner : CompTree → PatternTree → Option PatternTree) (cs : CompTrees) (ps : PatternTrees) → nat_eq (pattern_count ps) (comp_count cs) ≡ false
    → image_each inner cs ps ≡ None
none_counts inner no_comps no_patterns h = cc
none_counts inner no_comps (more_patterns p ps) h = refl
none_counts inner (more_comps c cs) no_patterns h = refl
none_counts inner (more_comps c cs) (more_patterns p ps) h = go (inner c p) (none_counts inner cs ps (fewer (pattern_count ps) (comp_count cs) h))
  where
    go : (o : Option PatternTree) → image_each inner cs ps ≡ None → option_and_then (λ q. option_map (more_patterns q) (image_each inner cs ps)) o ≡ None
    go None e = refl
    go (Some q) e = rw e refl

pub held_none : (inner : CompTree → PatternTree → Option PatternTree) (s : Shape) (cs : CompTrees) (p : PatternTree) → has_shape s (comp_count cs) p ≡ false
    → image_held inner (hold_comp s cs) p ≡ None
held_none inner s cs hole h = cc
held_none inner s cs (hold_pattern r ps) h = go (is_same_shape r s) h
  where
    go : (b : Bool) → (b && nat_eq (pattern_count ps) (comp_count cs)) ≡ false → option_map (hold_pattern s) (option_and_then (image_each inner cs) (if b then Some ps else None)) ≡ None
    go true k = rw (none_counts inner cs ps k) refl
    go false k = refl
held_none inner s cs unit_pattern h = refl
held_none inner s cs (truth_pattern b) h = refl
held_none inner s cs (int_pattern z) h = refl
held_none inner s cs (text_pattern t) h = refl
held_none inner s cs (pick_pattern m) h = refl
held_none inner s cs (rec_pattern ps) h = refl
held_none inner s cs (alt_pattern m p) h = refl

-- ---- the places one after the other

-- the images of all places, where those before a place are made
abbrev pub still_imaged : (CompTree → PatternTree → Option PatternTree) → List CompTree → List PatternTree → ℕ → List Pattern → Option (List PatternTree)
still_imaged inner cs ps i made = option_map (λ qs. map pattern_tree made ++ qs) (image_list inner (drop i cs) (drop i ps))

places_next : (inner : CompTree → PatternTree → Option PatternTree) (cs : List CompTree) (ps : List PatternTree) (i : ℕ) → i < length cs → i < length ps
    → image_list inner (drop i cs) (drop i ps)
    ≡ option_and_then (λ q. option_map (λ qs. q ∷ qs) (image_list inner (drop (i + 1) cs) (drop (i + 1) ps))) (inner (get_or cs i nil) (get_or ps i hole))
places_next inner cs ps i h k = rw (drop-cons cs i nil h, drop-cons ps i hole k, add-one) refl

pub imaged_next : (inner : CompTree → PatternTree → Option PatternTree) (cs : List CompTree) (ps : List PatternTree) (i : ℕ) (made : List Pattern) (q : Pattern)
    → i < length cs → i < length ps → inner (get_or cs i nil) (get_or ps i hole) ≡ Some (pattern_tree q)
    → still_imaged inner cs ps i made ≡ still_imaged inner cs ps (i + 1) (made ++ q ∷ [])
imaged_next inner cs ps i made q h k e = rw (places_next inner cs ps i h k, e) (go (image_list inner (drop (i + 1) cs) (drop (i + 1) ps)))
  where
    go : (o : Option (List PatternTree)) → option_map (λ qs. map pattern_tree made ++ qs) (option_map (λ qs. pattern_tree q ∷ qs) o)
        ≡ option_map (λ qs. map pattern_tree (made ++ q ∷ []) ++ qs) o
    go None = refl
    go (Some qs) = rw (map-append pattern_tree made (q ∷ []), append_assoc (map pattern_tree made) (pattern_tree q ∷ []) qs) refl

pub imaged_none : (inner : CompTree → PatternTree → Option PatternTree) (cs : List CompTree) (ps : List PatternTree) (i : ℕ) (made : List Pattern)
    → i < length cs → i < length ps → inner (get_or cs i nil) (get_or ps i hole) ≡ None → still_imaged inner cs ps i made ≡ None
imaged_none inner cs ps i made h k e = rw (places_next inner cs ps i h k, e) refl

pub imaged_end : (inner : CompTree → PatternTree → Option PatternTree) (cs : List CompTree) (ps : List PatternTree) (i : ℕ) (made : List Pattern)
    → length cs ≤ i → length ps ≤ i → still_imaged inner cs ps i made ≡ Some (map pattern_tree made)
imaged_end inner cs ps i made h k = rw (drop_all i cs h, drop_all i ps k) (ap Some (append-nil (map pattern_tree made)))

pub imaged_start : (inner : CompTree → PatternTree → Option PatternTree) (cs : List CompTree) (ps : List PatternTree)
    → still_imaged inner cs ps 0 [] ≡ image_list inner cs ps
imaged_start inner cs ps = go (image_list inner cs ps)
  where
    go : (o : Option (List PatternTree)) → option_map (λ qs. qs) o ≡ o
    go None = refl
    go (Some qs) = refl

-- ---- each complement is ready

pub ready_at : (ready : CompTree → Type 0) (cs : CompTrees) (i : ℕ) → i < comp_count cs → AllFit ready cs → ready (get_or (comp_list cs) i nil)
ready_at ready no_comps i h a = absurd (omega arith)
ready_at ready (more_comps c cs) zero h a = a.0
ready_at ready (more_comps c cs) (suc i) h a = ready_at ready cs i (omega arith) a.1

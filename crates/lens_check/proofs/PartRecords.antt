-- The record of a partition's lists, one field after another.
use Rattle.std.proofs.Common.{◌≡◌, ℕ, ◌+◌, ◌<◌, ◌≤◌, List, [], ◌∷◌, ◌++◌, length, map, take, get_or, None, Some, refl, ap, sym, ◌∙◌}
use Rattle.std.specs.Prelude.{Vec, vec_items}
use Rattle.std.proofs.lemmas.List.{take_all, take_more, map-append, get_or-map, length-map}
use Rattle.doc_values.specs.Types.{FieldTrees, names_of}
use Rattle.lens_core.specs.Tags.{tag_number}
use Rattle.law_images.specs.declared.pattern.Pattern.{Pattern}
use Rattle.law_images.specs.declared.pattern.Patterns.{Patterns}
use Rattle.law_images.specs.Patterns.{PatternTree, hole, rec_pattern, PatternTrees, pattern_count, patterns_from, pattern_list, pattern_tree, patterns_tree}
use Rattle.law_images.proofs.PatternLists.{pattern_list-patterns_from}
use Rattle.law_images.specs.PartImage.{list_pattern}
use Rattle.lens_check.specs.PartLists.{trees_in, trees_of, list_of, list_at_tag}
use Rattle.lens_check.proofs.PartContents.{list_made}

-- ---- lists that copies share

-- the patterns of a list
pub shared_is : {Z : Type 0} (ps : Patterns) (v : Vec Pattern Z) → patterns_tree ps ≡ patterns_from (map pattern_tree (vec_items v)) → trees_of ps ≡ trees_in v
shared_is ps v e = ap pattern_list e ∙ pattern_list-patterns_from (map pattern_tree (vec_items v))

-- there are as many as there were lists
pub shared_many : {Z : Type 0} (qs : List Patterns) (vs : List (Vec Pattern Z)) → map trees_of qs ≡ map trees_in vs → length qs ≡ length vs
shared_many qs vs e = sym (length-map qs trees_of) ∙ (ap length e ∙ length-map vs trees_in)

-- a list that has a copy's items
pub copied_is : (ps qs : PatternTrees) (n : ℕ) → n ≡ pattern_count ps → qs ≡ ps → list_pattern n qs ≡ list_of (pattern_list ps)
copied_is ps qs n e same =
    ap (λ z. list_pattern z qs) e ∙ (ap (list_pattern (pattern_count ps)) same ∙ sym (list_made ps (pattern_count ps) refl))

-- the list of the tag with a name, as it is read
pub list_read : (fs : FieldTrees) (qs : List Patterns) (n : List ℕ) (k : ℕ) (q : Patterns) (p : PatternTree) → Some k ≡ tag_number fs n → k < length qs → q ≡ get_or qs k q
    → p ≡ list_of (trees_of q) → p ≡ list_at_tag fs (map trees_of qs) n
list_read fs qs n k q p e h is made =
    made
    ∙ (ap list_of (ap trees_of is ∙ sym (get_or-map trees_of qs k q [] h))
    ∙ ap (λ o. elim o [ None ↦ hole | Some k ↦ list_of (get_or (map trees_of qs) k []) ]) e)

-- ---- the loop over the names of the fields

-- after a field
pub fields_kept : (f : List ℕ → PatternTree) (ns : List (List ℕ)) (i : ℕ) (n : List ℕ) (done done' : List Pattern) (p : Pattern) → i < length ns → n ≡ get_or ns i n
    → pattern_tree p ≡ f n → done' ≡ done ++ p ∷ [] → map pattern_tree done ≡ map f (take i ns) → map pattern_tree done' ≡ map f (take (i + 1) ns)
fields_kept f ns i n done done' p h is made pushed inv =
    let more : map f (take (i + 1) ns) ≡ map f (take i ns) ++ f (get_or ns i n) ∷ [] =
    ap (map f) (take_more ns i n h) ∙ map-append f (take i ns) (get_or ns i n ∷ []) in
    ap (map pattern_tree) pushed
    ∙ (map-append pattern_tree done (p ∷ [])
    ∙ (ap (λ z. z ++ pattern_tree p ∷ []) inv
    ∙ (ap (λ z. map f (take i ns) ++ z ∷ []) (made ∙ ap f is) ∙ sym more)))

-- after the last field
pub record_made : (fs gs : FieldTrees) (ls ls' : List (List PatternTree)) (ns : List (List ℕ)) (i : ℕ) (done : List Pattern) (ps : PatternTrees) → ls' ≡ ls → ns ≡ names_of gs → length ns ≤ i
    → map pattern_tree done ≡ map (list_at_tag fs ls') (take i ns) → ps ≡ patterns_from (map pattern_tree done)
    → rec_pattern ps ≡ rec_pattern (patterns_from (map (list_at_tag fs ls) (names_of gs)))
record_made fs gs ls ls' ns i done ps same names h inv made =
    let all : take i ns ≡ names_of gs = take_all i ns h ∙ names in
    ap rec_pattern
    (made ∙ ap patterns_from (inv ∙ (ap (map (list_at_tag fs ls')) all ∙ ap (λ z. map (list_at_tag fs z) (names_of gs)) same)))

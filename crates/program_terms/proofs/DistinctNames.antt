-- No two definitions have the same name, also while they are copied one by one.
use Rattle.std.proofs.Common.{◌≡◌, ℕ, zero, suc, List, [], ◌∷◌, ◌++◌, map, take, slice_get, Bool, true, false, true≢false, not, ◌&&◌, cond, bytes_eq, Some, is_some, unwrap_or, arith, ◌+◌, refl, sym, ap, ◌∙◌}
use Rattle.std.specs.List.{AllByRecursion, IsDistinct}
use Rattle.std.specs.Map.{keys_of}
use Rattle.std.proofs.Math.Seq.{take-suc}
use Rattle.std.proofs.lemmas.Cmp.{nat_list_eq_equiv}
use Rattle.std.proofs.lemmas.Map.Keys.{IsDistinct-head, IsDistinct-tail}
use Rattle.std.proofs.lemmas.Option.{slice_get_within, get_or_from_slice_get}
use Rattle.program_terms.specs.Terms.{DefTree, def_named, is_defined, are_defined_once}
use Rattle.program_terms.specs.Views.{def_tree, definition_tree}
use Rattle.program_terms.specs.declared.definitions.Def.{Def}

-- ---- the keys of a map

none_named : (name : List ℕ) (ds : List (List ℕ × Def)) → AllByRecursion (λ key. bytes_eq name key ≡ false) (keys_of ds)
    → is_defined name (map definition_tree ds) ≡ false
none_named name [] h = refl
none_named name (d ∷ ds) h =
    ap (λ b. is_some (cond b (Some (def_tree d.1)) (def_named name (map definition_tree ds)))) h.0 ∙ none_named name ds h.1

pub keys_distinct : (ds : List (List ℕ × Def)) → IsDistinct bytes_eq (keys_of ds) → are_defined_once (map definition_tree ds) ≡ true
keys_distinct [] h = refl
keys_distinct (d ∷ ds) h =
    let head = none_named d.0 ds (IsDistinct-head bytes_eq d.0 (keys_of ds) h) in
    let others = keys_distinct ds (IsDistinct-tail bytes_eq d.0 (keys_of ds) h) in
    λ j. not (head j) && others j

-- ---- one definition after another

first_of_both : (a b : Bool) → (not a && b) ≡ true → a ≡ false
first_of_both false b h = refl
first_of_both true b h = absurd (true≢false (sym h))

second_of_both : (a b : Bool) → (not a && b) ≡ true → b ≡ true
second_of_both false b h = h
second_of_both true b h = absurd (true≢false (sym h))

-- a name that is not defined is that of neither the first definition nor a later one
first_differs : (name : List ℕ) (e : List ℕ × DefTree) (ds : List (List ℕ × DefTree)) → is_defined name (e ∷ ds) ≡ false → bytes_eq name e.0 ≡ false
first_differs name e ds h = by (bytes_eq name e.0) h
  where
    by : (b : Bool) → is_some (cond b (Some e.1) (def_named name ds)) ≡ false → b ≡ false
    by false h = refl
    by true h = absurd (true≢false h)

later_undefined : (name : List ℕ) (e : List ℕ × DefTree) (ds : List (List ℕ × DefTree)) → is_defined name (e ∷ ds) ≡ false → is_defined name ds ≡ false
later_undefined name e ds h = by (bytes_eq name e.0) h
  where
    by : (b : Bool) → is_some (cond b (Some e.1) (def_named name ds)) ≡ false → is_defined name ds ≡ false
    by false h = h
    by true h = absurd (true≢false h)

other_name : (name : List ℕ) (ds : List (List ℕ × DefTree)) (i : ℕ) (d : List ℕ × DefTree) → is_defined name ds ≡ false → slice_get ds i ≡ Some d
    → bytes_eq name d.0 ≡ false
other_name name [] i d h at = absurd (true≢false (sym (ap is_some at)))
other_name name (e ∷ ds) zero d h at =
    ap (λ r. bytes_eq name (unwrap_or r e).0) (sym at) ∙ first_differs name e ds h
other_name name (e ∷ ds) (suc j) d h at = other_name name ds j d (later_undefined name e ds h) at

-- the name of a definition is none of those before it
pub not_before : (ds : List (List ℕ × DefTree)) (i : ℕ) (d : List ℕ × DefTree) → are_defined_once ds ≡ true → slice_get ds i ≡ Some d
    → is_defined d.0 (take i ds) ≡ false
not_before [] i d h at = absurd (true≢false (sym (ap is_some at)))
not_before (e ∷ ds) zero d h at = refl
not_before (e ∷ ds) (suc j) d h at =
    let apart = other_name e.0 ds j d (first_of_both (is_defined e.0 ds) (are_defined_once ds) h) at in
    ap (λ b. is_some (cond b (Some e.1) (def_named d.0 (take j ds)))) (nat_list_eq_equiv.symm d.0 e.0 ∙ apart)
    ∙ not_before ds j d (second_of_both (is_defined e.0 ds) (are_defined_once ds) h) at

-- those before a place and the one there are those before the next place
pub one_more : (ds : List (List ℕ × DefTree)) (i : ℕ) (d : List ℕ × DefTree) → slice_get ds i ≡ Some d → take i ds ++ d ∷ [] ≡ take (i + 1) ds
one_more ds i d at = let next : i + 1 ≡ suc i = omega arith in sym (ap (λ k. take k ds) next ∙ take-suc ds i d (slice_get_within ds i d at) ∙ ap (λ x. take i ds ++ x ∷ []) (get_or_from_slice_get ds i d d at))

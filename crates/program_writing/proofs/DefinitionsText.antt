-- A text that grows definition by definition.
use Rattle.std.proofs.Common.{◌≡◌, ℕ, zero, suc, ◌+◌, List, [], ◌∷◌, drop, Some, option_map, slice_get, arith, ap, ◌∙◌}
use Rattle.program_terms.specs.Terms.{DefTree}

-- what is left from a place on begins with what stands there
pub left_from : (ds : List (List ℕ × DefTree)) (i : ℕ) (name : List ℕ) (def : DefTree) → option_map (λ d. d.0) (slice_get ds i) ≡ Some name → option_map (λ d. d.1) (slice_get ds i) ≡ Some def
    → drop i ds ≡ (name, def) ∷ drop (i + 1) ds
left_from [] i name def e f = absurd cc
left_from (d ∷ ds) zero name def e f =
    let name_is : d.0 ≡ name = cc in
    let def_is : d.1 ≡ def = cc in
    λ j. (name_is j, def_is j) ∷ ds
left_from (d ∷ ds) (suc i) name def e f =
    let next : suc (i + 1) ≡ suc i + 1 = omega arith in
    left_from ds i name def e f ∙ ap (λ k. (name, def) ∷ drop k (d ∷ ds)) next

-- Patches one after another.
use Rattle.std.proofs.Common.{◌≡◌, ℕ, ◌+◌, List, [], ◌∷◌, ◌++◌, length, Result, Ok, Err, refl, sym, ap, ◌∙◌, arith}
use Rattle.json.specs.Json.{Json}
use Rattle.file_patches.specs.declared.fault.Cause.{Cause}
use Rattle.file_patches.specs.Operations.{OperationTree}
use Rattle.file_patches.specs.Patching.{numbered, operated, patched_from, patched}
use Rattle.file_patches.specs.Results.{and_then}

-- the operations of two lists, the second numbered on
abbrev pub in_turn : ℕ → List OperationTree → List OperationTree → Json → Result Json (ℕ × Cause)
in_turn n os ps j = and_then (patched_from (n + length os) ps) (patched_from n os j)

by_first : (n m : ℕ) (os ps : List OperationTree) (r : Result Json Cause) → m ≡ (n + 1) + length os → ((j : Json) → patched_from (n + 1) (os ++ ps) j ≡ in_turn (n + 1) os ps j)
    → and_then (patched_from (n + 1) (os ++ ps)) (numbered n r) ≡ and_then (patched_from m ps) (and_then (patched_from (n + 1) os) (numbered n r))
by_first n m os ps (Ok j) e h = h j ∙ sym (ap (λ k. and_then (patched_from k ps) (patched_from (n + 1) os j)) e)
by_first n m os ps (Err c) e h = refl

joined_from : (n : ℕ) (os ps : List OperationTree) (j : Json) → patched_from n (os ++ ps) j ≡ in_turn n os ps j
joined_from n [] ps j = let e : n ≡ n + length {A = OperationTree} [] = omega arith in ap (λ k. patched_from k ps j) e
joined_from n (o ∷ os) ps j =
    by_first n (n + length (o ∷ os)) os ps (operated o j) (omega arith) (joined_from (n + 1) os ps)

pub joined : (os ps : List OperationTree) (j : Json) → patched (os ++ ps) j ≡ and_then (patched_from (length os) ps) (patched os j)
joined os ps j =
    let e : 0 + length os ≡ length os = omega arith in
    joined_from 0 os ps j ∙ ap (λ k. and_then (patched_from k ps) (patched os j)) e

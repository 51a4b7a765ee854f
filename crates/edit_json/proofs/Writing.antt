-- Where the primitives of a word stand, and the numbers of a slice.
use Rattle.std.proofs.Common.{◌≡◌, ℕ, zero, suc, ◌^◌, ◌<◌, true, List, [], ◌∷◌, map, length, get_or, Result, Ok, Err, OnOk, refl, arith, lt-ltb}
use Rattle.edit_module.specs.Words as words
use Rattle.edit_module.specs.Views.{primitive_tree}
use Rattle.edit_module.specs.declared.word.Primitive.{Primitive}
use Rattle.texts.proofs.Conjunction.{both}
use Rattle.edit_json.specs.Values.{fits_u64, all_fit_u64}
use Rattle.edit_json.specs.Depths.{primitive_depth, word_depth}

-- a primitive stands less deep than the word that has it
pub primitive_within : (ps : List Primitive) (i : ℕ) (p : Primitive) → i < length ps → primitive_depth (primitive_tree (get_or ps i p)) < word_depth (words.word_of (map primitive_tree ps))
primitive_within [] i p h = absurd (omega arith)
primitive_within (q ∷ ps) zero p h = omega arith
primitive_within (q ∷ ps) (suc i) p h = omega (arith, primitive_within ps i p (omega arith))

-- the numbers of a slice are u64
pub slice_fits : (ns : List ℕ) → ((i : ℕ) → get_or ns i 0 < 2 ^ 64) → all_fit_u64 ns ≡ true
slice_fits [] h = refl
slice_fits (n ∷ ns) h = both (fits_u64 n) (all_fit_u64 ns) (lt-ltb n (2 ^ 64) (h 0)) (slice_fits ns (λ i. h (suc i)))

pub whatever_ok : {T E P : Type 0} (r : Result T E) → P → OnOk r P
whatever_ok (Ok x) h = h
whatever_ok (Err e) h = tt

-- The counts and the numbers of a word, primitive by primitive.
use Rattle.std.proofs.lemmas.List.{drop_all}
use Rattle.std.proofs.Common.{◌≡◌, ℕ, ◌+◌, ◌<◌, ◌≤◌, Bool, true, false, ◌&&◌, List, map, drop, length, get_or, refl, ap, ◌∙◌}
use Rattle.edit_module.specs.Words as words
use Rattle.edit_module.specs.Views.{primitive_tree}
use Rattle.edit_module.specs.declared.word.Primitive.{Primitive}
use Rattle.edit_json.specs.WordJson.{primitive_counts_fit, counts_fit, primitive_numbers_fit, numbers_fit}
use Rattle.edit_module.proofs.Words.{left_primitives}

fits_first : (p b : Bool) → p ≡ true → (p && b) ≡ b
fits_first p b h = rw h refl

fails_first : (p b : Bool) → p ≡ false → (p && b) ≡ false
fails_first p b h = rw h refl

-- ---- counts

pub next_fits : (ps : List Primitive) (i : ℕ) (p : Primitive) → i < length ps → p ≡ get_or ps i p → primitive_counts_fit (primitive_tree p) ≡ true
    → counts_fit (words.word_of (map primitive_tree (drop i ps))) ≡ counts_fit (words.word_of (map primitive_tree (drop (i + 1) ps)))
next_fits ps i p within is h = ap (λ qs. counts_fit (words.word_of (map primitive_tree qs))) (left_primitives ps i p within is) ∙ fits_first _ _ h

pub next_fails : (ps : List Primitive) (i : ℕ) (p : Primitive) → i < length ps → p ≡ get_or ps i p → primitive_counts_fit (primitive_tree p) ≡ false
    → counts_fit (words.word_of (map primitive_tree (drop i ps))) ≡ false
next_fails ps i p within is h = ap (λ qs. counts_fit (words.word_of (map primitive_tree qs))) (left_primitives ps i p within is) ∙ fails_first _ _ h

pub all_fit : (ps : List Primitive) (i : ℕ) → length ps ≤ i → counts_fit (words.word_of (map primitive_tree (drop i ps))) ≡ true
all_fit ps i past = ap (λ qs. counts_fit (words.word_of (map primitive_tree qs))) (drop_all i ps past)

pub ruleset count_rules = (next_fits, next_fails, all_fit)

-- ---- numbers

pub next_number_fits : (ps : List Primitive) (i : ℕ) (p : Primitive) → i < length ps → p ≡ get_or ps i p → primitive_numbers_fit (primitive_tree p) ≡ true
    → numbers_fit (words.word_of (map primitive_tree (drop i ps))) ≡ numbers_fit (words.word_of (map primitive_tree (drop (i + 1) ps)))
next_number_fits ps i p within is h = ap (λ qs. numbers_fit (words.word_of (map primitive_tree qs))) (left_primitives ps i p within is) ∙ fits_first _ _ h

pub all_numbers_fit : (ps : List Primitive) (i : ℕ) → length ps ≤ i → numbers_fit (words.word_of (map primitive_tree (drop i ps))) ≡ true
all_numbers_fit ps i past = ap (λ qs. numbers_fit (words.word_of (map primitive_tree qs))) (drop_all i ps past)

pub ruleset number_rules = (next_number_fits, all_numbers_fit)

-- What translation emits for equal inner words is equal.
use Rattle.std.proofs.Common.{◌≡◌, refl, sym, ap, Bool, true, false, List, ℕ, ◌∙◌}
use Rattle.hold_shapes.specs.declared.edit.Place.{Place}
use Rattle.edit_module.specs.Words.{PrimitiveTree, at, stay, switch, modify, WordTree, no_primitives, more_primitives, joined}
use Rattle.lens_core.specs.Emitted.{one, at_word, stay_word, mod_word, switch_word}
use Rattle.law_equations.proofs.Glue.{put_on, normalized, normalized_one, normalized_joined, same_place_same}
use Rattle.law_equations.proofs.Normals.{comes_first}
use Rattle.texts.proofs.KeyOrder.{bytes_eq-refl}
use Rattle.edit_module.proofs.JoinedWords.{joined_nothing}

-- a word with a primitive has one in its normal form
abbrev is_empty : WordTree → Bool
is_empty no_primitives = true
is_empty (more_primitives p w) = false

put_on-some : (p : PrimitiveTree) (w : WordTree) → is_empty (put_on p w) ≡ false
put_on-some p w = ap is_empty (comes_first p w).2

normalized-empty : (w : WordTree) → is_empty (normalized w) ≡ is_empty w
normalized-empty no_primitives = refl
normalized-empty (more_primitives p w) = put_on-some (normalized_one p) (normalized w)

same-empty : (u w : WordTree) → normalized u ≡ normalized w → is_empty u ≡ is_empty w
same-empty u w e = sym (normalized-empty u) ∙ ap is_empty e ∙ normalized-empty w

pub at_word-normalized : (f : List ℕ) (u w : WordTree) → normalized u ≡ normalized w → normalized (at_word f u) ≡ normalized (at_word f w)
at_word-normalized f no_primitives no_primitives e = refl
at_word-normalized f no_primitives (more_primitives p w) e = let no : true ≡ false = same-empty no_primitives (more_primitives p w) e in cc
at_word-normalized f (more_primitives p w) no_primitives e = let no : false ≡ true = same-empty (more_primitives p w) no_primitives e in cc
at_word-normalized f (more_primitives p u) (more_primitives q w) e = ap (λ z. one (at f z)) e

pub at_word-joined : (f : List ℕ) (u w : WordTree) → normalized (at_word f (joined u w)) ≡ normalized (joined (at_word f u) (at_word f w))
at_word-joined f no_primitives w = refl
at_word-joined f (more_primitives p u) no_primitives = ap (λ z. normalized (at_word f z)) (joined_nothing (more_primitives p u))
at_word-joined f (more_primitives p u) (more_primitives q w) = rw (bytes_eq-refl f) (ap (λ z. one (at f z)) (normalized_joined (more_primitives p u) (more_primitives q w)))

pub stay_word-normalized : (f : List ℕ) (u w : WordTree) → normalized u ≡ normalized w → normalized (stay_word f u) ≡ normalized (stay_word f w)
stay_word-normalized f no_primitives no_primitives e = refl
stay_word-normalized f no_primitives (more_primitives p w) e = let no : true ≡ false = same-empty no_primitives (more_primitives p w) e in cc
stay_word-normalized f (more_primitives p w) no_primitives e = let no : false ≡ true = same-empty (more_primitives p w) no_primitives e in cc
stay_word-normalized f (more_primitives p u) (more_primitives q w) e = ap (λ z. one (stay f z)) e

pub stay_word-joined : (f : List ℕ) (u w : WordTree) → normalized (stay_word f (joined u w)) ≡ normalized (joined (stay_word f u) (stay_word f w))
stay_word-joined f no_primitives w = refl
stay_word-joined f (more_primitives p u) no_primitives = ap (λ z. normalized (stay_word f z)) (joined_nothing (more_primitives p u))
stay_word-joined f (more_primitives p u) (more_primitives q w) = rw (bytes_eq-refl f) (ap (λ z. one (stay f z)) (normalized_joined (more_primitives p u) (more_primitives q w)))

pub mod_word-normalized : (x : Place) (u w : WordTree) → normalized u ≡ normalized w → normalized (mod_word x u) ≡ normalized (mod_word x w)
mod_word-normalized x no_primitives no_primitives e = refl
mod_word-normalized x no_primitives (more_primitives p w) e = let no : true ≡ false = same-empty no_primitives (more_primitives p w) e in cc
mod_word-normalized x (more_primitives p w) no_primitives e = let no : false ≡ true = same-empty (more_primitives p w) no_primitives e in cc
mod_word-normalized x (more_primitives p u) (more_primitives q w) e = ap (λ z. one (modify x z)) e

pub mod_word-joined : (x : Place) (u w : WordTree) → normalized (mod_word x (joined u w)) ≡ normalized (joined (mod_word x u) (mod_word x w))
mod_word-joined x no_primitives w = refl
mod_word-joined x (more_primitives p u) no_primitives = ap (λ z. normalized (mod_word x z)) (joined_nothing (more_primitives p u))
mod_word-joined x (more_primitives p u) (more_primitives q w) = rw (same_place_same x) (ap (λ z. one (modify x z)) (normalized_joined (more_primitives p u) (more_primitives q w)))

pub switch_word-normalized : (a b : List ℕ) (u w : WordTree) → normalized u ≡ normalized w → normalized (switch_word a b u) ≡ normalized (switch_word a b w)
switch_word-normalized a b u w e = ap (λ z. one (switch a b z)) e

pub switch_word-joined : (a b : List ℕ) (u w : WordTree) → normalized (switch_word a b (joined u w)) ≡ normalized (joined (switch_word a b u) (stay_word b w))
switch_word-joined a b u no_primitives = ap (λ z. normalized (switch_word a b z)) (joined_nothing u)
switch_word-joined a b u (more_primitives q w) = rw (bytes_eq-refl b) (ap (λ z. one (switch a b z)) (normalized_joined u (more_primitives q w)))

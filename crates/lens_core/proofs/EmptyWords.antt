-- An empty inner word leaves out what is around it.
use Rattle.std.proofs.Common.{◌≡◌, ℕ, List, refl, arith}
use Rattle.hold_shapes.specs.declared.edit.Place.{Place}
use Rattle.edit_module.specs.Words.{WordTree, no_primitives, more_primitives, word_length}
use Rattle.lens_core.specs.Emitted.{at_word, stay_word, mod_word}

pub at_word-empty : (f : List ℕ) (w : WordTree) → word_length w ≡ 0 → at_word f w ≡ w
at_word-empty f no_primitives e = refl
at_word-empty f (more_primitives p w) e = absurd (omega arith)

pub stay_word-empty : (t : List ℕ) (w : WordTree) → word_length w ≡ 0 → stay_word t w ≡ w
stay_word-empty t no_primitives e = refl
stay_word-empty t (more_primitives p w) e = absurd (omega arith)

pub mod_word-empty : (q : Place) (w : WordTree) → word_length w ≡ 0 → mod_word q w ≡ w
mod_word-empty q no_primitives e = refl
mod_word-empty q (more_primitives p w) e = absurd (omega arith)

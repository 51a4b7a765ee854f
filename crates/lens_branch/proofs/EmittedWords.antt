-- What the code reads of the primitives that it is given, and of the words that it emits.
use Rattle.std.proofs.Common.{◌≡◌, ℕ, List, refl, rules}
use Rattle.texts.specs.declared.name.Name.{Name}
use Rattle.edit_module.specs.declared.word.Primitive.{the_lemmas as primitive_lemmas}
use Rattle.edit_module.specs.declared.word.Primitive.TheVariants.{Stay, Switch}
use Rattle.edit_module.specs.declared.word.Word.{Word}
use Rattle.edit_module.specs.Views.{primitive_tree, word_tree}
use Rattle.edit_module.specs.Words.{at, stay, switch, WordTree, no_primitives, more_primitives, word_length}
use Rattle.edit_module.proofs.Words.{word_tree-out}
use Rattle.lens_core.specs.Emitted.{one, at_word, stay_word}
use Rattle.lens_core.proofs.EmptyWords.{at_word-empty, stay_word-empty}

-- ---- primitives of alternatives as trees

pub primitive_tree-stay : (m : Name) (u : Word) → primitive_tree (Stay m u) ≡ stay m (word_tree u)
primitive_tree-stay m u = search (rules, primitive_lemmas)

pub primitive_tree-switch : (m n : Name) (u : Word) → primitive_tree (Switch m n u) ≡ switch m n (word_tree u)
primitive_tree-switch m n u = search (rules, primitive_lemmas)

-- ---- what is emitted

pub at_word-more : (f : List ℕ) (w : WordTree) → (word_length w ≡ 0 → ⊥) → at_word f w ≡ one (at f w)
at_word-more f no_primitives h = absurd (h refl)
at_word-more f (more_primitives p w) h = refl

pub stay_word-more : (t : List ℕ) (w : WordTree) → (word_length w ≡ 0 → ⊥) → stay_word t w ≡ one (stay t w)
stay_word-more t no_primitives h = absurd (h refl)
stay_word-more t (more_primitives p w) h = refl

pub ruleset word_rules = (word_tree-out, at_word-empty, at_word-more, stay_word-empty, stay_word-more)

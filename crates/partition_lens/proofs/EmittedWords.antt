-- What the code reads of the words that it emits.
use Rattle.std.proofs.Common.{◌≡◌, ℕ, ◌+◌, ◌<◌, ◌≤◌, true, false, List, length, drop, drop-cons, get_or, add-one, refl, sym, arith}
use Rattle.std.proofs.lemmas.List.{drop_all}
use Rattle.std.proofs.lemmas.Bool.{eq-eqb, ne_eqb}
use Rattle.hold_shapes.specs.declared.edit.Place.{Place}
use Rattle.edit_module.specs.Words.{at, stay, modify, WordTree, no_primitives, more_primitives, word_length}
use Rattle.edit_module.proofs.Words.{word_tree-out}
use Rattle.lens_core.specs.Emitted.{one, at_word, stay_word, mod_word}
use Rattle.lens_core.specs.Partition.{is_identity}
use Rattle.lens_core.proofs.EmptyWords.{at_word-empty, stay_word-empty, mod_word-empty}

pub ruleset word_rules = (word_tree-out)

-- ---- words that are left out

pub at_something : (f : List ℕ) (w : WordTree) → 0 < word_length w → at_word f w ≡ one (at f w)
at_something f no_primitives h = absurd (omega arith)
at_something f (more_primitives p w) h = refl

pub stay_something : (t : List ℕ) (w : WordTree) → 0 < word_length w → stay_word t w ≡ one (stay t w)
stay_something t no_primitives h = absurd (omega arith)
stay_something t (more_primitives p w) h = refl

pub mod_something : (q : Place) (w : WordTree) → 0 < word_length w → mod_word q w ≡ one (modify q w)
mod_something q no_primitives h = absurd (omega arith)
mod_something q (more_primitives p w) h = refl

pub ruleset left_out_rules = (at_word-empty, at_something, stay_word-empty, stay_something, mod_word-empty, mod_something)

-- ---- orders that change nothing

pub identity_next : (g : List ℕ) (i x : ℕ) → i < length g → x ≡ get_or g i x → x ≡ i → is_identity i (drop i g) ≡ is_identity (i + 1) (drop (i + 1) g)
identity_next g i x h is e = rw (drop-cons g i x h, sym is, eq-eqb i x (sym e), add-one) refl

pub identity_ends : (g : List ℕ) (i x : ℕ) → i < length g → x ≡ get_or g i x → (x ≡ i → ⊥) → is_identity i (drop i g) ≡ false
identity_ends g i x h is e = rw (drop-cons g i x h, sym is, ne_eqb i x (λ k. e (sym k))) refl

pub identity_all : (g : List ℕ) (i : ℕ) → length g ≤ i → is_identity i (drop i g) ≡ true
identity_all g i h = rw (drop_all i g h) refl

pub ruleset identity_rules = (identity_next, identity_ends, identity_all)

-- What translation emits: words with what an empty inner word leaves out.
use Rattle.hold_shapes.specs.declared.edit.Place.{Place}
use Rattle.hold_shapes.specs.declared.edit.ShapeEdit.{ShapeEdit}
use Rattle.std.specs.Prelude.{ℕ, List, Option, Some, option_map, option_and_then}
use Rattle.edit_module.specs.Words.{PrimitiveTree, at, stay, switch, modify, shape, WordTree, no_primitives}
use Rattle.edit_module.specs.Words.{more_primitives, joined}

-- a word of one primitive
abbrev pub one : PrimitiveTree → WordTree
one p = more_primitives p no_primitives

-- an At, a Stay or a Mod, left out where its inner word is empty
abbrev pub at_word : List ℕ → WordTree → WordTree
at_word f no_primitives = no_primitives
at_word f (more_primitives p w) = one (at f (more_primitives p w))

abbrev pub stay_word : List ℕ → WordTree → WordTree
stay_word t no_primitives = no_primitives
stay_word t (more_primitives p w) = one (stay t (more_primitives p w))

abbrev pub mod_word : Place → WordTree → WordTree
mod_word place no_primitives = no_primitives
mod_word place (more_primitives p w) = one (modify place (more_primitives p w))

-- a Switch is never left out
abbrev pub switch_word : List ℕ → List ℕ → WordTree → WordTree
switch_word a b w = one (switch a b w)

abbrev pub shape_word : ShapeEdit → WordTree
shape_word e = one (shape e)

-- a word, and what is kept after it, joined behind another word
abbrev pub behind : {C : Type 0} → WordTree → WordTree × C → WordTree × C
behind u r = (joined u r.0, r.1)

-- the primitives of a word one after another, each with what the one before kept, and the words joined; none where one
-- of them is none
abbrev pub one_by_one : {C : Type 0} → (C → PrimitiveTree → Option (WordTree × C)) → C → WordTree
    → Option (WordTree × C)
one_by_one rule c no_primitives = Some (no_primitives, c)
one_by_one rule c (more_primitives p w) =
    option_and_then (λ r. option_map (behind r.0) (one_by_one rule r.1 w)) (rule c p)

-- The normal form of a word: neighbouring primitives that act on the same part are merged into one.
-- Read it from the end: `normal`, then `normal_to`, `merged_onto` and `merged`.
use Rattle.std.specs.Prelude.{ℕ, zero, suc, Bool, false, if◌then◌else◌, nat_eq, bytes_eq, Option, None, Some}
use Rattle.hold_shapes.specs.declared.edit.Place.{Place}
use Rattle.hold_shapes.specs.declared.edit.Place.TheVariants.{Index, Key, Node}
use Rattle.edit_module.specs.Words.{PrimitiveTree, at, stay, switch, modify, WordTree, no_primitives, more_primitives}
use Rattle.edit_module.specs.Words.{joined}
use Rattle.edit_module.specs.Depths.{word_depth}

-- the same place of the same kind
abbrev pub is_same_place : Place → Place → Bool
is_same_place (Index p) (Index q) = nat_eq p q
is_same_place (Key k) (Key l) = bytes_eq k l
is_same_place (Node p) (Node q) = bytes_eq p q
is_same_place _ _ = false

-- two neighbouring primitives as one, in four cases: merge fields, merge contents, merge places, merge switch
abbrev pub merge : PrimitiveTree → PrimitiveTree → Option PrimitiveTree
merge (at f u) (at g v) = if bytes_eq f g then Some (at f (joined u v)) else None
merge (stay s u) (stay t v) = if bytes_eq s t then Some (stay s (joined u v)) else None
merge (modify p u) (modify q v) = if is_same_place p q then Some (modify p (joined u v)) else None
merge (switch a b u) (stay t v) = if bytes_eq b t then Some (switch a b (joined u v)) else None
merge _ _ = None

-- the end of a result, from its last primitive on: a merged primitive is the last one; where no case fits, the last one
-- stays as it is and the next one comes after it
abbrev pub placed : Option PrimitiveTree → PrimitiveTree → PrimitiveTree → (PrimitiveTree → WordTree) → WordTree
placed (Some both) last next go_on = go_on both
placed None last next go_on = more_primitives last (go_on next)

-- the end of a result, from its last primitive on, when the primitives of a word are still to come: from the front,
-- each is merged into the last one where a case fits, and appended otherwise
abbrev pub merged_onto : PrimitiveTree → WordTree → WordTree
merged_onto last no_primitives = more_primitives last no_primitives
merged_onto last (more_primitives next w) = placed (merge last next) last next (λ p. merged_onto p w)

abbrev pub merged : WordTree → WordTree
merged no_primitives = no_primitives
merged (more_primitives p w) = merged_onto p w

-- a function applied to the inner word of a primitive, and to the inner word of each primitive of a word
abbrev pub inside : (WordTree → WordTree) → PrimitiveTree → PrimitiveTree
inside f (at n w) = at n (f w)
inside f (stay t w) = stay t (f w)
inside f (switch a b w) = switch a b (f w)
inside f (modify p w) = modify p (f w)
inside f p = p

abbrev pub inside_each : (WordTree → WordTree) → WordTree → WordTree
inside_each f no_primitives = no_primitives
inside_each f (more_primitives p w) = more_primitives (inside f p) (inside_each f w)

-- the merged word, with the normal form of each inner word in its place, down to a depth
abbrev pub normal_to : ℕ → WordTree → WordTree
normal_to zero w = w
normal_to (suc n) w = inside_each (normal_to n) (merged w)

-- the merged word, with the normal form of each inner word in its place; the law `NormalIsMerged` says so without a
-- depth. Two words are equal by the equations if their normal forms are the same.
abbrev pub normal : WordTree → WordTree
normal w = normal_to (word_depth w) w

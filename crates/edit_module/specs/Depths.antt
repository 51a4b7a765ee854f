-- How deep the words of a word are inside one another.
use Rattle.std.specs.Prelude.{ℕ, ◌+◌, max}
use Rattle.edit_module.specs.Words.{PrimitiveTree, at, stay, switch, modify, WordTree, no_primitives, more_primitives}

abbrev mutual
  -- the depth of the inner word, and 0 where there is none
  pub primitive_depth : PrimitiveTree → ℕ
  primitive_depth (at f w) = word_depth w
  primitive_depth (stay t w) = word_depth w
  primitive_depth (switch a b w) = word_depth w
  primitive_depth (modify p w) = word_depth w
  primitive_depth _ = 0

  -- one more than its deepest primitive; the empty word has depth 1, too
  pub word_depth : WordTree → ℕ
  word_depth no_primitives = 1
  word_depth (more_primitives p w) = max (primitive_depth p + 1) (word_depth w)

-- How deep words are nested in one another: the definition of edit_module.
pub use Rattle.edit_module.specs.Depths.{primitive_depth, word_depth}

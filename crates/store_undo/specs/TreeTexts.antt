-- For the helpers of `undo`: the texts of a triple's trees. Read it from the end: `AreTreeTexts`, then `IsTreeText`.
use Rattle.std.specs.Prelude.{◌≡◌, ◌≤◌, ℕ, List, true, Some, string_bytes}
use Rattle.json.specs.Tree.{HasNumbers}
use Rattle.serde_json.specs.Data.{Data, depth}
use Rattle.serde_json.specs.Read.{of_json, max_depth}
use Rattle.serde_json.specs.Written.{compact_text, outline}
use Rattle.value_json.specs.DocumentJson.{holds_i64s, tree_of_document}
use Rattle.complement_file.specs.ComplementJson.{tree_of_complement}
use Rattle.lens_core.specs.Consistency.{IsConsistent}
use Rattle.lens_forms.specs.Forms.{FormTree, left_type, right_type}
use Rattle.edit_session.specs.Step.{TripleTree, IsInStep}
use Rattle.store_records.specs.RecordJson.{tree_of_snapshot}
use Rattle.store_undo.specs.declared.tree_texts.TreeTexts.{TreeTexts}

-- The text is that of the tree, with no space between its parts. A reader of JSON gives the tree back.
pub record IsTreeText (d : Data) (text : List ℕ) : Type 0 where
  pub text_is : text ≡ compact_text d
  pub numbers : HasNumbers (outline d)
  pub back : of_json (outline d) ≡ Some d

-- The texts are those of the triple's trees. The triple is consistent, its ints are i64, and its snapshot nests no
-- deeper than a reader of JSON reads.
pub record AreTreeTexts (l : FormTree) (t : TripleTree) (made : TreeTexts) : Type 0 where
  pub left : IsTreeText (tree_of_document (left_type l) t.left) (string_bytes made.left)
  pub comp : IsTreeText (tree_of_complement l t.comp) (string_bytes made.comp)
  pub right : IsTreeText (tree_of_document (right_type l) t.right) (string_bytes made.right)
  pub left_whole : holds_i64s t.left ≡ true
  pub right_whole : holds_i64s t.right ≡ true
  pub consistent : IsInStep (IsConsistent l) t
  pub low : depth (tree_of_snapshot l t.left t.comp t.right) ≤ max_depth

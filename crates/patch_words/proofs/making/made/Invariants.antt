use Rattle.std.proofs.Common.{◌≡◌, true, None, drop}
use Rattle.doc_values.specs.Documents.{doc_tree}
use Rattle.doc_values.specs.Types.{ty_tree}
use Rattle.doc_values.specs.Typing.{has}
use Rattle.file_trees.specs.FileTrees.{file_tree}
use Rattle.file_forms.specs.Forms.{file_form_tree}
use Rattle.file_patches.specs.Operations.{patch_view}
use Rattle.patch_words.specs.ToWord.{words_from}
use Rattle.patch_words.specs.Walks.{on_from}
use Rattle.patch_words.proofs.making.made.Given as goal

abbrev pub invariant-loop-i : goal.invariant-loop-i
invariant-loop-i l = record {
  left :
      on_from (ty_tree l.ty) (file_form_tree l.form) l.i l.walk (patch_view (drop l.i l.patch))
      ≡ words_from (ty_tree l.ty) (file_form_tree l.form) 0 None (doc_tree l.doc) (file_tree l.fn.tree) (patch_view l.patch);
  typed : has (ty_tree l.ty) (doc_tree l.walk.doc) ≡ true;
}

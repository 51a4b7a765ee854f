use Rattle.std.proofs.Common.{◌∙◌, codes, refl}
use Rattle.edit_module.specs.Views.{word_tree}
use Rattle.hub_undo.proofs.UndoLines.{line_of, whole_text}
use Rattle.hub_undo.proofs.undo_lines.undo_lines.Goals as goal

pub returns : goal.returns
returns c =
    let words = c.args.words.now in
    let first = line_of c.new.result.items (codes "undo hub ") c.in_ok-first.first.items (word_tree words.hub) (codes "undo hub") refl c.in_ok-first.ensures in
    let views = rw c.as_slice.ensures at c.in_ok-text.ensures in
    whole_text c.new.result.items c.in_ok-first.first.items c.in_ok-text.text.items c.extend_from_slice.new.self.items c.deref.result.now words.hub words.views c.new.ensures.items first views
    c.in_ok-extend_from_slice.ensures.items c.from_vec.result c.from_vec.ensures _ (c.deref.ensures.value ∙ c.in_ok-state.ensures.lines)

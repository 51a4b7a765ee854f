use Rattle.std.proofs.Common.{◌≡◌, codes, decimal, ◌++◌, rules}
use Rattle.std.proofs.lemmas.Result.{IfOk-weaker}
use Rattle.edit_module.specs.Views.{word_tree}
use Rattle.hub_undo.proofs.UndoLines.{line_of}
use Rattle.hub_undo.proofs.undo_lines.with_view.Goals as goal

pub returns : goal.returns
returns c =
    let label : c.as_bytes.result.now ≡ (codes "undo view " ++ decimal c.args.number) ++ codes " " = search rules in
    IfOk-weaker c.with_word.result _ _
    (λ all made. line_of c.args.bytes.items c.as_bytes.result.now all.items (word_tree c.args.word.now) (codes "undo view " ++ decimal c.args.number) label made)
    c.with_word.ensures

use Rattle.std.proofs.Common.{Some, refl, ap, sym, ◌∙◌}
use Rattle.json.specs.Lex.{tokens}
use Rattle.edit_module.specs.Views.{change_tree}
use Rattle.json_tokens.specs.TreesAt.{read_at}
use Rattle.edit_tokens.specs.Changes.{change_in}
use Rattle.edit_tokens.proofs.ReadingChanges.{text_change}
use Rattle.edit_tokens.proofs.changes.change_of_tokens.Goals as goal

pub returns : goal.returns
returns c =
    let x = change_tree c.in_ok-change.change in
    text_change c.args.bytes.now x c.in-Ok.ensures.cases.1
    (ap (λ text. read_at change_in 127 (tokens text)) (sym c.in-Ok.ensures.cases.0) ∙ ap (read_at change_in 127) (sym c.in-Ok-new.ensures.ok) ∙ c.in_ok-change.ensures ∙ ap (λ ts. Some (x, ts)) (c.if-not-is_at_end.ensures refl))

use Rattle.std.proofs.Common.{Some, refl, ap, sym, ◌∙◌}
use Rattle.json.specs.Lex.{tokens}
use Rattle.json_tokens.specs.TreesAt.{tree_at}
use Rattle.lens_tokens.proofs.TreesOfTexts.{tree_read}
use Rattle.lens_tokens.proofs.complement.complement_of_tokens.Goals as goal

pub returns : goal.returns
returns c =
    let taken = c.in_ok-comp.ensures in (
      taken.0,
      tree_read c.args.bytes.now taken.0 c.in-Ok.ensures.cases.1
          (ap (λ text. tree_at 127 (tokens text)) (sym c.in-Ok.ensures.cases.0) ∙ ap (tree_at 127) (sym c.in-Ok-new.ensures.ok)
          ∙ taken.1 ∙ ap (λ ts. Some (taken.0, ts)) (c.if-not-is_at_end.ensures refl)),
      taken.2,
    )

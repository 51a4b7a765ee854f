use Rattle.std.proofs.Common.{◌+◌, ◌++◌, drop, string_bytes, sym, ap, ◌∙◌}
use Rattle.program_terms.specs.Views.{def_tree, program_tree}
use Rattle.program_writing.specs.Canonical.{put_definitions}
use Rattle.program_writing.proofs.DefinitionsText.{left_from}
use Rattle.program_writing.proofs.program_text.put_definitions.Goals as goal

pub loop-at-preserved : goal.loop-at-preserved
loop-at-preserved c = λ rest.
    let l = c.loop-at in
    let ds = (program_tree c.args.program.now).definitions in
    let cut = left_from ds l.at c.name.result.now (def_tree c.def.result.now) c.name.ensures c.def.ensures in
    c.in_ok-put_definition.ensures {u = tt} (put_definitions (drop (l.at + 1) ds) rest)
    ∙ ap (λ xs. string_bytes l.out ++ put_definitions xs rest) (sym cut)
    ∙ l.invariant rest

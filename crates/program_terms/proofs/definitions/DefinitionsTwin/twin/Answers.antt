use Rattle.std.proofs.Common.{◌∷◌, ◌++◌, [], ap₂, ◌∙◌}
use Rattle.program_terms.specs.Terms.{is_defined}
use Rattle.program_terms.specs.Views.{def_tree, definitions_tree}
use Rattle.program_terms.proofs.DistinctNames.{not_before, one_more}
use Rattle.program_terms.proofs.definitions.DefinitionsTwin.twin.Goals as goal

pub add_new-requires : goal.add_new-requires
add_new-requires c =
    let ds = definitions_tree c.args.self.now in
    let entry = c.entry_at.result in
    ap₂ is_defined c.in_ok-name.ensures c.loop-at.invariant
    ∙ not_before ds c.loop-at.at (entry.0.now, def_tree entry.1.now) c.len-at-end.ensures.distinct c.entry_at.ensures

pub loop-at-preserved : goal.loop-at-preserved
loop-at-preserved c =
    let ds = definitions_tree c.args.self.now in
    let entry = c.entry_at.result in
    c.in_ok-add_new.ensures.added
    ∙ (λ j. c.loop-at.invariant j ++ (c.in_ok-name.ensures j, c.in_ok-def.ensures j) ∷ [])
    ∙ one_more ds c.loop-at.at (entry.0.now, def_tree entry.1.now) c.entry_at.ensures

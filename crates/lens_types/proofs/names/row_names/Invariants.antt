use Rattle.std.proofs.Common.{◌≡◌, ◌++◌, map, drop}
use Rattle.program_terms.specs.Terms.{term_rows_of}
use Rattle.program_terms.specs.Views.{row_tree}
use Rattle.lens_types.specs.Repeats.{sided, row_names}
use Rattle.lens_types.proofs.names.row_names.Given as goal

abbrev pub invariant-loop-row : goal.invariant-loop-row
invariant-loop-row l =
    map sided l.names.items ++ row_names (term_rows_of (map row_tree (drop l.row-index l.rows))) ≡ row_names (term_rows_of (map row_tree l.rows))

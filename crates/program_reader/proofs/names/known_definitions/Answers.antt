use Rattle.std.proofs.Common.{◌≡◌, length, map, arith, ap}
use Rattle.std.proofs.lemmas.List.{nil_from_length}
use Rattle.program_terms.specs.Views.{definitions_tree}
use Rattle.program_reader.specs.Programs.{definition_with_notes}
use Rattle.program_reader.proofs.CheckedNames.{all_added}
use Rattle.program_reader.proofs.names.known_definitions.Goals as goal

pub returns : goal.returns
returns c =
    let empty : length c.definitions.left.items ≡ 0 = omega (arith, c.in_default.ensures.cases.0, c.definitions.left.ok) in
    all_added (map definition_with_notes c.args.definitions.items) c.args.mentions.now (definitions_tree c.definitions.known) (map definition_with_notes c.definitions.left.items)
    (ap (map definition_with_notes) (nil_from_length c.definitions.left.items empty))
    c.definitions.invariant.fault c.definitions.invariant.whole c.in_ok-all_known.ensures

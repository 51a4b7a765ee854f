use Rattle.lens_forms.specs.Forms.{form_tree}
use Rattle.program_terms.specs.Views.{program_tree}
use Rattle.store_new.proofs.Reading.{part_refused}
use Rattle.store_new.proofs.ScriptsRead.{alone_found, finding_stops, rest_found}
use Rattle.store_new.proofs.importing.read_import.Goals as goal

pub returns-in-Ok-accepted_part-clause-script : goal.returns-in-Ok-accepted_part-clause-script
returns-in-Ok-accepted_part-clause-script g c =
    let part = c.in-Ok-Whole in
    let accepted = c.in-Ok-accepted_part.accepted in
    alone_found g.S.Source c.args.source.now c.read_head.new.source part.program (rw part.field-0-is at part.ensures.head)
    (program_tree accepted.program) (form_tree accepted.lens) c.in-Ok-accepted_part.ensures.accepted

pub returns-in-Ok-find_lines-clause-script : goal.returns-in-Ok-find_lines-clause-script
returns-in-Ok-find_lines-clause-script g c =
    let part = c.in-Ok-Separated in
    let accepted = c.in-Ok-accepted_part-2.accepted in
    rest_found g.S.Source c.args.source.now c.read_head.new.source part.program part.input (rw part.field-0-is at part.ensures.head) c.find_lines.new.source
    (program_tree accepted.program) (form_tree accepted.lens) c.in-Ok-accepted_part-2.ensures.accepted c.in-Ok-find_lines.found c.in-Ok-find_lines.ensures.found

pub returns-in-Ok-accepted_part-2-clause-script : goal.returns-in-Ok-accepted_part-2-clause-script
returns-in-Ok-accepted_part-2-clause-script g c =
    let part = c.in-Ok-Separated in
    let accepted = c.in-Ok-accepted_part-2.accepted in
    finding_stops g.S.Source c.args.source.now c.read_head.new.source part.program part.input (rw part.field-0-is at part.ensures.head) c.find_lines.new.source
    (program_tree accepted.program) (form_tree accepted.lens) c.in-Ok-accepted_part-2.ensures.accepted c.in-Err-find_lines.fault c.in-Err-find_lines.ensures.found

pub returns-in-Ok-Separated-clause-script : goal.returns-in-Ok-Separated-clause-script
returns-in-Ok-Separated-clause-script g c =
    let part = c.in-Ok-Separated in
    let refused = c.in-Err-accepted_part-2 in
    part_refused g.S.Source c.args.source.now c.read_head.new.source part.program part.input (rw part.field-0-is at part.ensures.head) refused.refused refused.ensures.accepted refused.ensures.known

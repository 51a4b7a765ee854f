use Rattle.lens_forms.specs.Forms.{form_tree}
use Rattle.program_terms.specs.Views.{program_tree}
use Rattle.hub_run.specs.RunStates.{forms_of_lenses}
use Rattle.hub_add.proofs.AddsRead.{part_unread, rest_view, rest_unread}
use Rattle.hub_add.proofs.reading.read_view.Goals as goal

pub returns-in-Ok-skip_rest-clause-script : goal.returns-in-Ok-skip_rest-clause-script
returns-in-Ok-skip_rest-clause-script g c =
    let part = c.in-Ok-Separated in
    let accepted = c.in-Ok-view_of_part-2.accepted in
    rest_view g.S.Source c.args.source.now c.read_head.new.source (forms_of_lenses c.args.lenses.now) part.part part.input (rw part.field-0-is at part.ensures.head) c.skip_rest.new.source
    (program_tree accepted.program) (form_tree accepted.lens) c.in-Ok-view_of_part-2.ensures.accepted c.in-Ok-skip_rest.ensures.skips

pub returns-in-Ok-view_of_part-2-clause-script : goal.returns-in-Ok-view_of_part-2-clause-script
returns-in-Ok-view_of_part-2-clause-script g c =
    let part = c.in-Ok-Separated in
    let accepted = c.in-Ok-view_of_part-2.accepted in
    rest_unread g.S.Source c.args.source.now c.read_head.new.source (forms_of_lenses c.args.lenses.now) part.part part.input (rw part.field-0-is at part.ensures.head) c.skip_rest.new.source
    (program_tree accepted.program) (form_tree accepted.lens) c.in-Ok-view_of_part-2.ensures.accepted c.in-Err-skip_rest.fault c.in-Err-skip_rest.ensures.skips

pub returns-in-Ok-Separated-clause-script : goal.returns-in-Ok-Separated-clause-script
returns-in-Ok-Separated-clause-script g c =
    let part = c.in-Ok-Separated in
    let refused = c.in-Err-view_of_part-2 in
    part_unread g.S.Source c.args.source.now c.read_head.new.source (forms_of_lenses c.args.lenses.now) part.part part.input (rw part.field-0-is at part.ensures.head) refused.refused
    refused.ensures.accepted refused.ensures.known

use Rattle.std.proofs.Common.{map}
use Rattle.lens_forms.specs.Forms.{form_tree}
use Rattle.program_terms.specs.Views.{program_tree}
use Rattle.hub_new.proofs.HubsRead.{part_unread, rest_hub, rest_unread}
use Rattle.hub_new.proofs.reading.read_views.Goals as goal

pub returns-in-Ok-skip_rest-clause-script : goal.returns-in-Ok-skip_rest-clause-script
returns-in-Ok-skip_rest-clause-script g c =
    let part = c.in-Ok-Separated in
    let accepted = c.in-Ok-accepted_views-2.accepted in
    rest_hub g.S.Source c.args.source.now c.read_hub_head.new.source part.pieces part.input (rw part.field-0-is at part.ensures.head) c.skip_rest.new.source
    (map program_tree accepted.programs.items) (map form_tree accepted.lenses.items) c.in-Ok-accepted_views-2.ensures.accepted c.in-Ok-skip_rest.ensures.skips

pub returns-in-Ok-accepted_views-2-clause-script : goal.returns-in-Ok-accepted_views-2-clause-script
returns-in-Ok-accepted_views-2-clause-script g c =
    let part = c.in-Ok-Separated in
    let accepted = c.in-Ok-accepted_views-2.accepted in
    rest_unread g.S.Source c.args.source.now c.read_hub_head.new.source part.pieces part.input (rw part.field-0-is at part.ensures.head) c.skip_rest.new.source
    (map program_tree accepted.programs.items) (map form_tree accepted.lenses.items) c.in-Ok-accepted_views-2.ensures.accepted c.in-Err-skip_rest.fault c.in-Err-skip_rest.ensures.skips

pub returns-in-Ok-Separated-clause-script : goal.returns-in-Ok-Separated-clause-script
returns-in-Ok-Separated-clause-script g c =
    let part = c.in-Ok-Separated in
    let refused = c.in-Err-accepted_views-2 in
    part_unread g.S.Source c.args.source.now c.read_hub_head.new.source part.pieces part.input (rw part.field-0-is at part.ensures.head) refused.refused refused.ensures.accepted refused.ensures.known

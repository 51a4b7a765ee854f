use Rattle.std.proofs.Common.{ap, ◌∙◌}
use Rattle.hub_run.specs.Lenses.{forms_of}
use Rattle.hub_run.proofs.HubStarts.{part_refused}
use Rattle.embed_hub.proofs.RefusedParts.{refused_resumed}
use Rattle.embed_hub.proofs.resuming.resume_texts.Goals as goal

pub returns-in-Ok-lenses : goal.returns-in-Ok-lenses
returns-in-Ok-lenses c =
    let h = c.in-Ok.ensures in
    c.resumed.ensures c.args.part.now (ap forms_of h.are ∙ c.in-Ok-lenses.ensures.lenses h.ended h.begun h.holds)

pub returns : goal.returns
returns c =
    let h = c.in-Ok.ensures in
    let part = c.args.part.now in
    refused_resumed part c.args.texts.now c.closed.result
    (c.closed.ensures part (part_refused part c.in-Ok.pieces c.in-Err.refused h (c.in-Err.ensures.lenses h.ended h.begun h.holds)))

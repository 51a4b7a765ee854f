use Rattle.script_input.proofs.Outcomes.{if_ok}
use Rattle.embed_hub.proofs.PartPieces.{line_added}
use Rattle.embed_hub.proofs.opening.add_line.Goals as goal

pub returns : goal.returns
returns c =
    let text = c.args.text.now in
    if_ok c.add.result _ _
    (λ x adds part more plain h. line_added c.args.pieces.now c.add.new.self part text more plain (λ ended begun holds. adds ended begun text holds c.in_ok-line.ensures.line) h)
    c.add.ensures

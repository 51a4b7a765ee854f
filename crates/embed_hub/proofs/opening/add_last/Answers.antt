use Rattle.std.proofs.Common.{◌≡◌, ◌<◌, [], length, ap, arith, rules}
use Rattle.script_input.proofs.Outcomes.{if_ok}
use Rattle.embed_hub.proofs.PartPieces.{last_added}
use Rattle.embed_hub.proofs.opening.add_last.Goals as goal

pub returns : goal.returns
returns c =
    let text = c.args.text.now in
    let long : 0 < length text = search rules in
    let some : text ≡ [] → ⊥ = λ none. omega (arith, long, ap length none) in
    if_ok c.add.result _ _
    (λ x adds part plain h. last_added c.args.pieces.now c.add.new.self part text some plain (λ ended begun holds. adds ended begun text holds c.in_ok-line.ensures.line) h)
    c.add.ensures

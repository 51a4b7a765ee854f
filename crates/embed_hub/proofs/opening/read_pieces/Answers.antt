use Rattle.std.proofs.Common.{◌≡◌, ◌+◌, ◌-◌, drop, take, length, subst, arith, length-drop}
use Rattle.std.proofs.lemmas.List.{take_all}
use Rattle.edit_journal.proofs.FirstEnds.{first_end, no_end}
use Rattle.embed_hub.specs.Opening.{HoldsRest}
use Rattle.embed_hub.proofs.PartPieces.{nothing_read}
use Rattle.embed_hub.proofs.opening.read_pieces.Goals as goal

pub lines-init : goal.lines-init
lines-init c = nothing_read c.new-pieces.result c.args.part.now c.new-pieces.ensures

pub lines-preserved : goal.lines-preserved
lines-preserved c =
    let at = c.in-Some.at in
    let rest = c.lines.rest.now in
    let e = first_end rest at c.in-Some.ensures.at in
    let more = drop (at + 1) rest in
    let all : take (length rest - (at + 1)) more ≡ more = take_all (length rest - (at + 1)) more (omega (arith, length-drop (at + 1) rest)) in
    rw all (c.in_ok-add_line.ensures c.args.part.now more e.0 (subst (HoldsRest c.lines.pieces c.args.part.now) e.1 c.lines.invariant))

pub returns : goal.returns
returns c = c.in_ok-add_last.ensures c.args.part.now (no_end c.lines.rest.now c.in_default.ensures.at) c.lines.invariant

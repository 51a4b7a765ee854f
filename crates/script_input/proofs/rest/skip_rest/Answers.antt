use Rattle.std.proofs.Common.{Ok, subst, ◌∙◌, arith}
use Rattle.script_input.specs.Skipped.{SkipsRest}
use Rattle.script_input.specs.Taking.{SkipsMore}
use Rattle.script_input.proofs.Outcomes.{as_error}
use Rattle.script_input.proofs.Skips.{skips_more, skips_all, skips_fault}
use Rattle.script_input.proofs.rest.skip_rest.Goals as goal

pub returns-in_err-skip_piece-clause-skips : goal.returns-in_err-skip_piece-clause-skips
returns-in_err-skip_piece-clause-skips g c =
    let left = g.S.Source.left c.args.source.now in
    let now = g.S.Source.left c.skip_piece.new.source in
    let fault = c.in_err-skip_piece.field-0.0 in
    as_error c.from_residual.result (SkipsRest c.args.input.taken left now) fault
    (skips_fault c.args.input.taken left (g.S.Source.left c.pieces.source) now c.pieces.input c.skip_piece.new.self c.pieces.invariant.skips fault c.in_err-skip_piece.ensures.skips) c.from_residual.ensures.1

pub pieces-preserved : goal.pieces-preserved
pieces-preserved g c = record {
  skips = skips_more c.args.input.taken (g.S.Source.left c.args.source.now) (g.S.Source.left c.pieces.source) (g.S.Source.left c.skip_piece.new.source) c.pieces.input c.skip_piece.new.self c.pieces.invariant.skips
      (Ok c.in_ok-skip_piece.field-0) c.in_ok-skip_piece.ensures.skips;
  faults = omega (arith, c.pieces.invariant.faults, c.in_ok-skip_piece.ensures.faults);
  piece = c.skip_piece.auto.piece ∙ c.pieces.invariant.piece;
}

pub returns-clause-skips : goal.returns-clause-skips
returns-clause-skips g c =
    let mid = g.S.Source.left c.pieces.source in
    let now = g.S.Source.left c.skip_piece.new.source in
    skips_all c.args.input.taken (g.S.Source.left c.args.source.now) mid now c.pieces.input c.skip_piece.new.self c.pieces.invariant.skips
    (subst (λ more. SkipsMore mid now c.pieces.input c.skip_piece.new.self (Ok more)) c.if-branch.false c.in_ok-skip_piece.ensures.skips)

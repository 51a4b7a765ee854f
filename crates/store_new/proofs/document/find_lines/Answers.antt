use Rattle.std.proofs.Common.{◌≡◌, Ok, refl, sym, ap, subst, ◌∙◌, arith}
use Rattle.edit_journal.specs.Pieces.{FedLines}
use Rattle.lens_io.specs.declared.failed.TakeFault.TheVariants.{NoMemory}
use Rattle.script_input.specs.Taking.{TakesMore}
use Rattle.script_input.proofs.Outcomes.{by_error}
use Rattle.store_new.specs.Found.{added_last, FindsRest, StopsRest}
use Rattle.store_new.proofs.FoundPieces.{finds_nothing, finds_ended, finds_more, lines_stay, finds_all, finds_fault, finds_no_memory}
use Rattle.store_new.proofs.document.find_lines.Goals as goal

pub pieces-init : goal.pieces-init
pieces-init g c = record {
  finds = finds_nothing g.S.Source c.args.source.now c.args.input;
  faults = omega arith;
  at_most = c.requires.within.0;
  piece = refl;
}

pub returns-in_err-found-clause-found : goal.returns-in_err-found-clause-found
returns-in_err-found-clause-found g c =
    let source = g.S.Source in
    let s = c.args.source.now in
    let s' = c.pieces.source in
    let before = c.args.input in
    let stops = finds_no_memory source s s' before c.pieces.input c.pieces.found c.pieces.invariant.finds c.pieces.invariant.at_most in
    by_error c.from_residual.result (FindsRest source s s' before) (StopsRest source s s' before) (λ f. f ≡ NoMemory)
    (λ f e. subst (StopsRest source s s' before) (sym e) stops) c.from_residual.ensures.1

pub returns-in_err-take_piece-clause-found : goal.returns-in_err-take_piece-clause-found
returns-in_err-take_piece-clause-found g c =
    let source = g.S.Source in
    let s = c.args.source.now in
    let mid = c.pieces.source in
    let s' = c.take_piece.new.source in
    let before = c.args.input in
    let input = c.add_lines.new.input in
    let found = c.in_ok-found.found in
    let e = c.in_ok-found.ensures in
    let f = finds_ended source s mid before c.pieces.input input c.pieces.found found c.pieces.invariant.finds e.adds e.rest e.count in
    let fault = c.in_err-take_piece.field-0.0 in
    let stops = finds_fault source s mid s' before input c.take_piece.new.self found f fault c.in_err-take_piece.ensures.takes in
    by_error c.from_residual-in_err-take_piece.result (FindsRest source s s' before) (StopsRest source s s' before) (λ g. g ≡ fault)
    (λ g e. subst (StopsRest source s s' before) (sym e) stops) c.from_residual-in_err-take_piece.ensures.1

pub last-requires : goal.last-requires
last-requires g c =
    let source = g.S.Source in
    let mid = c.pieces.source in
    let s' = c.take_piece.new.source in
    let input = c.add_lines.new.input in
    let next = c.take_piece.new.self in
    let takes = subst (λ more. TakesMore source mid s' input next (Ok more)) c.if-not-branch.true c.in_ok-take_piece.ensures.takes in
    ap (λ (l : FedLines). l.ended) (lines_stay source mid s' input next takes ∙ c.in_ok-found.ensures.rest)

pub returns-then-not-branch-clause-found : goal.returns-then-not-branch-clause-found
returns-then-not-branch-clause-found g c =
    let source = g.S.Source in
    let s = c.args.source.now in
    let mid = c.pieces.source in
    let s' = c.take_piece.new.source in
    let before = c.args.input in
    let input = c.add_lines.new.input in
    let found = c.in_ok-found.found in
    let e = c.in_ok-found.ensures in
    let f = finds_ended source s mid before c.pieces.input input c.pieces.found found c.pieces.invariant.finds e.adds e.rest e.count in
    let next = c.take_piece.new.self in
    let takes = subst (λ more. TakesMore source mid s' input next (Ok more)) c.if-not-branch.true c.in_ok-take_piece.ensures.takes in
    let is = c.add_last.ensures ∙ ap (added_last found) c.last.ensures in
    subst (FindsRest source s s' before) (sym is) (finds_all source s mid s' before input next found f (ap (λ (l : FedLines). l.ended) e.rest) takes)

pub pieces-preserved : goal.pieces-preserved
pieces-preserved g c =
    let source = g.S.Source in
    let s = c.args.source.now in
    let mid = c.pieces.source in
    let s' = c.take_piece.new.source in
    let before = c.args.input in
    let input = c.add_lines.new.input in
    let found = c.in_ok-found.found in
    let e = c.in_ok-found.ensures in
    let f = finds_ended source s mid before c.pieces.input input c.pieces.found found c.pieces.invariant.finds e.adds e.rest e.count in
    let next = c.take_piece.new.self in
    let takes = subst (λ more. TakesMore source mid s' input next (Ok more)) c.if-not-branch.false c.in_ok-take_piece.ensures.takes in
    record {
      finds = finds_more source s mid s' before input next found f takes;
      faults = omega (arith, c.pieces.invariant.faults, c.in_ok-take_piece.ensures.faults);
      at_most = takes.at_most;
      piece = c.take_piece.auto.piece ∙ c.pieces.invariant.piece;
    }

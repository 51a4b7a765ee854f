use Rattle.std.proofs.Common.{◌≡◌, ◌++◌, Ok, refl, sym, subst, ◌∙◌, arith}
use Rattle.lens_io.specs.declared.failed.TakeFault.TheVariants.{NoMemory}
use Rattle.script_input.specs.Parts.{HoldsPart, ReadsHead, StopsHead}
use Rattle.script_input.specs.PartSteps.{MovesOn, AddsLines}
use Rattle.script_input.specs.Taking.{TakesMore}
use Rattle.script_input.proofs.Heads.{reads_nothing, part_read, waits, reads_more, head_stops, none_left, last_is, all_read, waits_stops, head_runs_out}
use Rattle.script_input.proofs.Outcomes.{by_error}
use Rattle.script_input.proofs.script.read_head.Goals as goal

pub pieces-init : goal.pieces-init
pieces-init g c = record {
  reads = reads_nothing g.S.Source HoldsPart HoldsPart c.args.source.now c.new-input.result c.new-program.result c.new-input.ensures.lines c.new-input.ensures.taken c.new-program.ensures;
  faults = omega arith;
  at_most = omega (arith, c.new-input.ensures.taken);
  piece = refl;
}

pub returns-in_err-add_lines-clause-head : goal.returns-in_err-add_lines-clause-head
returns-in_err-add_lines-clause-head g c =
    let source = g.S.Source in
    let start = c.args.source.now in
    let now = c.pieces.source in
    by_error c.from_residual.result (ReadsHead source start now) (StopsHead source start now) (λ f. f ≡ NoMemory)
    (λ f e. subst (StopsHead source start now) (sym e) (head_runs_out source HoldsPart HoldsPart start now c.pieces.input c.pieces.program c.pieces.invariant.reads)) c.from_residual.ensures.1

pub returns-then-branch-clause-head : goal.returns-then-branch-clause-head
returns-then-branch-clause-head g c =
    let r = c.pieces.invariant.reads in
    let input = c.add_lines.new.input in
    let program = c.add_lines.new.program in
    let moves = subst (λ found. MovesOn (r.front ++ r.rest) input (AddsLines found program)) c.if-branch.true (c.in_ok-add_lines.ensures.adds r.front r.rest r.is_front r.holds r.taken.lines) in
    part_read g.S.Source HoldsPart HoldsPart c.args.source.now c.pieces.source c.pieces.input input c.pieces.program program r moves c.in_ok-add_lines.ensures.count

pub returns-in_err-take_piece-clause-head : goal.returns-in_err-take_piece-clause-head
returns-in_err-take_piece-clause-head g c =
    let source = g.S.Source in
    let start = c.args.source.now in
    let mid = c.pieces.source in
    let now = c.take_piece.new.source in
    let r = c.pieces.invariant.reads in
    let input = c.add_lines.new.input in
    let program = c.add_lines.new.program in
    let moves = subst (λ found. MovesOn (r.front ++ r.rest) input (AddsLines found program)) c.if-branch.false (c.in_ok-add_lines.ensures.adds r.front r.rest r.is_front r.holds r.taken.lines) in
    let w = waits source HoldsPart HoldsPart start mid c.pieces.input input c.pieces.program program r moves c.in_ok-add_lines.ensures.count in
    let fault = c.in_err-take_piece.field-0.0 in
    let takes = c.in_err-take_piece.ensures.takes in
    let stops = head_stops source HoldsPart HoldsPart start mid now input c.take_piece.new.self program w fault takes (omega (arith, c.in_err-take_piece.ensures.one_piece, takes.taken, c.pieces.invariant.piece, c.requires.few)) in
    by_error c.from_residual-in_err-take_piece.result (ReadsHead source start now) (StopsHead source start now) (λ f. f ≡ fault)
    (λ f e. subst (StopsHead source start now) (sym e) stops) c.from_residual-in_err-take_piece.ensures.1

pub last-requires : goal.last-requires
last-requires g c =
    let source = g.S.Source in
    let start = c.args.source.now in
    let mid = c.pieces.source in
    let now = c.take_piece.new.source in
    let r = c.pieces.invariant.reads in
    let input = c.add_lines.new.input in
    let program = c.add_lines.new.program in
    let moves = subst (λ found. MovesOn (r.front ++ r.rest) input (AddsLines found program)) c.if-branch.false (c.in_ok-add_lines.ensures.adds r.front r.rest r.is_front r.holds r.taken.lines) in
    let w = waits source HoldsPart HoldsPart start mid c.pieces.input input c.pieces.program program r moves c.in_ok-add_lines.ensures.count in
    let next = c.take_piece.new.self in
    let takes = subst (λ more. TakesMore source mid now input next (Ok more)) c.if-not-branch.true c.in_ok-take_piece.ensures.takes in
    none_left source HoldsPart HoldsPart start mid now input next program w takes

pub returns-in_err-add_last-clause-head : goal.returns-in_err-add_last-clause-head
returns-in_err-add_last-clause-head g c =
    let source = g.S.Source in
    let start = c.args.source.now in
    let mid = c.pieces.source in
    let now = c.take_piece.new.source in
    let r = c.pieces.invariant.reads in
    let input = c.add_lines.new.input in
    let program = c.add_lines.new.program in
    let moves = subst (λ found. MovesOn (r.front ++ r.rest) input (AddsLines found program)) c.if-branch.false (c.in_ok-add_lines.ensures.adds r.front r.rest r.is_front r.holds r.taken.lines) in
    let w = waits source HoldsPart HoldsPart start mid c.pieces.input input c.pieces.program program r moves c.in_ok-add_lines.ensures.count in
    let next = c.take_piece.new.self in
    let takes = subst (λ more. TakesMore source mid now input next (Ok more)) c.if-not-branch.true c.in_ok-take_piece.ensures.takes in
    let stops = waits_stops source HoldsPart HoldsPart start mid now input next program w takes (omega (arith, c.in_ok-take_piece.ensures.one_piece, takes.taken, c.pieces.invariant.piece, c.requires.few)) in
    by_error c.from_residual-in_err-add_last.result (ReadsHead source start now) (StopsHead source start now) (λ f. f ≡ NoMemory)
    (λ f e. subst (StopsHead source start now) (sym e) stops) c.from_residual-in_err-add_last.ensures.1

pub returns-then-not-branch-clause-head : goal.returns-then-not-branch-clause-head
returns-then-not-branch-clause-head g c =
    let source = g.S.Source in
    let start = c.args.source.now in
    let mid = c.pieces.source in
    let now = c.take_piece.new.source in
    let r = c.pieces.invariant.reads in
    let input = c.add_lines.new.input in
    let program = c.add_lines.new.program in
    let moves = subst (λ found. MovesOn (r.front ++ r.rest) input (AddsLines found program)) c.if-branch.false (c.in_ok-add_lines.ensures.adds r.front r.rest r.is_front r.holds r.taken.lines) in
    let w = waits source HoldsPart HoldsPart start mid c.pieces.input input c.pieces.program program r moves c.in_ok-add_lines.ensures.count in
    let next = c.take_piece.new.self in
    let takes = subst (λ more. TakesMore source mid now input next (Ok more)) c.if-not-branch.true c.in_ok-take_piece.ensures.takes in
    all_read source HoldsPart HoldsPart start mid now input next program w c.add_last.new.program takes
    (λ plain. c.in_ok-add_last.ensures w.front w.rest w.is_front w.holds plain (c.last.ensures ∙ last_is source HoldsPart HoldsPart start mid now input next program w takes))

pub pieces-preserved : goal.pieces-preserved
pieces-preserved g c =
    let source = g.S.Source in
    let start = c.args.source.now in
    let mid = c.pieces.source in
    let now = c.take_piece.new.source in
    let r = c.pieces.invariant.reads in
    let input = c.add_lines.new.input in
    let program = c.add_lines.new.program in
    let moves = subst (λ found. MovesOn (r.front ++ r.rest) input (AddsLines found program)) c.if-branch.false (c.in_ok-add_lines.ensures.adds r.front r.rest r.is_front r.holds r.taken.lines) in
    let w = waits source HoldsPart HoldsPart start mid c.pieces.input input c.pieces.program program r moves c.in_ok-add_lines.ensures.count in
    let next = c.take_piece.new.self in
    let takes = subst (λ more. TakesMore source mid now input next (Ok more)) c.if-not-branch.false c.in_ok-take_piece.ensures.takes in
    record {
      reads = reads_more source HoldsPart HoldsPart start mid now input next program w takes (omega (arith, c.in_ok-take_piece.ensures.one_piece, takes.taken, c.pieces.invariant.piece, c.requires.few));
      faults = omega (arith, c.pieces.invariant.faults, c.in_ok-take_piece.ensures.faults);
      at_most = takes.at_most;
      piece = c.take_piece.auto.piece ∙ c.pieces.invariant.piece;
    }

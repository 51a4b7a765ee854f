use Rattle.std.proofs.Common.{◌≡◌, ◌++◌, ◌∷◌, [], refl}
use Rattle.std.proofs.lemmas.Result.{err_from_is_err_and}
use Rattle.program_grammar.specs.Reading.{pair_at, list_at}
use Rattle.program_reader.proofs.ListLoop.{begins, begins_not, goes_on, breaks, is_done, shorter}
use Rattle.program_grammar.proofs.TokensLeft.{pair_leaves}
use Rattle.program_reader.proofs.lenses.read_pairs.Goals as goal

pub returns-in_err-first : goal.returns-in_err-first
returns-in_err-first c =
    let p = err_from_is_err_and c.from_residual.result c.from_residual.ensures.1 in
    rw (p.1, p.2) (begins_not pair_at c.args.reader.now c.in_err-first.field-0.0 c.in_err-first.ensures)

pub pairs-init : goal.pairs-init
pairs-init c =
    let e : c.push.new.self.items ≡ c.in_ok-first.first ∷ [] = rw c.in_ok-push.ensures.items (rw c.new-pairs.ensures.items refl) in
    rw e (begins pair_at c.args.reader.now (c.in_ok-first.first, c.read_pair.new.reader) c.in_ok-first.ensures)

pub returns-in_err-next : goal.returns-in_err-next
returns-in_err-next c =
    let p = err_from_is_err_and c.from_residual-in_err-next.result c.from_residual-in_err-next.ensures.1 in
    rw (p.1, p.2) (breaks pair_at c.pairs.pairs.items c.pairs.reader c.take_comma.new.self c.in_err-next.field-0.0 (list_at pair_at c.args.reader.now) c.pairs-test.ensures c.in_err-next.ensures c.pairs.invariant)

pub pairs-smaller : goal.pairs-smaller
pairs-smaller c = shorter pair_at c.pairs.reader c.take_comma.new.self (c.in_ok-next.next, c.read_pair-in-pairs.new.reader) pair_leaves c.pairs-test.ensures c.in_ok-next.ensures

pub pairs-preserved : goal.pairs-preserved
pairs-preserved c =
    let e : c.push-in-pairs.new.self.items ≡ c.pairs.pairs.items ++ c.in_ok-next.next ∷ [] = c.in_ok-push-2.ensures.items in
    rw e (goes_on pair_at c.pairs.pairs.items c.pairs.reader c.take_comma.new.self (c.in_ok-next.next, c.read_pair-in-pairs.new.reader) (list_at pair_at c.args.reader.now) pair_leaves c.pairs-test.ensures c.in_ok-next.ensures c.pairs.invariant)

pub returns : goal.returns
returns c = is_done pair_at c.pairs.pairs.items c.pairs.reader c.take_comma.new.self (list_at pair_at c.args.reader.now) c.pairs-test.ensures c.pairs.invariant

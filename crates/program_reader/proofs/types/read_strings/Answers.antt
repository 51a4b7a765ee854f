use Rattle.std.proofs.Common.{◌≡◌, ◌++◌, ◌∷◌, [], refl}
use Rattle.std.proofs.lemmas.Result.{err_from_is_err_and}
use Rattle.program_grammar.specs.Reading.{string_at, list_at}
use Rattle.program_reader.proofs.ListLoop.{begins, begins_not, goes_on, breaks, is_done, shorter}
use Rattle.program_grammar.proofs.TokensLeft.{string_leaves}
use Rattle.program_reader.proofs.types.read_strings.Goals as goal

pub returns-in_err-first : goal.returns-in_err-first
returns-in_err-first c =
    let p = err_from_is_err_and c.from_residual.result c.from_residual.ensures.1 in
    rw (p.1, p.2) (begins_not string_at c.args.reader.now c.in_err-first.field-0.0 c.in_err-first.ensures)

pub commas-init : goal.commas-init
commas-init c =
    let e : c.push.new.self.items ≡ c.in_ok-first.first ∷ [] = rw c.in_ok-push.ensures.items (rw c.new-names.ensures.items refl) in
    rw e (begins string_at c.args.reader.now (c.in_ok-first.first, c.take_string.new.self) c.in_ok-first.ensures)

pub returns-in_err-next : goal.returns-in_err-next
returns-in_err-next c =
    let p = err_from_is_err_and c.from_residual-in_err-next.result c.from_residual-in_err-next.ensures.1 in
    rw (p.1, p.2) (breaks string_at c.commas.names.items c.commas.reader c.take_comma.new.self c.in_err-next.field-0.0 (list_at string_at c.args.reader.now) c.commas-test.ensures c.in_err-next.ensures c.commas.invariant)

pub commas-smaller : goal.commas-smaller
commas-smaller c = shorter string_at c.commas.reader c.take_comma.new.self (c.in_ok-next.next, c.take_string-in-commas.new.self) string_leaves c.commas-test.ensures c.in_ok-next.ensures

pub commas-preserved : goal.commas-preserved
commas-preserved c =
    let e : c.push-in-commas.new.self.items ≡ c.commas.names.items ++ c.in_ok-next.next ∷ [] = c.in_ok-push-2.ensures.items in
    rw e (goes_on string_at c.commas.names.items c.commas.reader c.take_comma.new.self (c.in_ok-next.next, c.take_string-in-commas.new.self) (list_at string_at c.args.reader.now) string_leaves c.commas-test.ensures c.in_ok-next.ensures c.commas.invariant)

pub returns : goal.returns
returns c = is_done string_at c.commas.names.items c.commas.reader c.take_comma.new.self (list_at string_at c.args.reader.now) c.commas-test.ensures c.commas.invariant

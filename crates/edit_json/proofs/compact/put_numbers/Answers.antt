use Rattle.std.proofs.Common.{arith}
use Rattle.edit_json.proofs.Writing.{slice_fits, whatever_ok}
use Rattle.edit_json.proofs.compact.put_numbers.Goals as goal

pub returns-clause-whole : goal.returns-clause-whole
returns-clause-whole c = whatever_ok c.end_array.result (slice_fits c.args.numbers.now (λ k. omega (arith, c.type_inv.numbers k)))

use Rattle.std.proofs.Common.{ap, sym, ◌∙◌, arith, length}
use Rattle.json_tokens.specs.TreesAt.{read_items_at}
use Rattle.json_tokens.proofs.ReadParts.{read_shorter}
use Rattle.value_json.specs.Numbers.{count_of, counts_of}
use Rattle.doc_tokens.proofs.ReadingDocs.{onto, next_number, numbers_end}
use Rattle.doc_tokens.proofs.numbers.take_counts.Goals as goal

pub loop-reader-smaller : goal.loop-reader-smaller
loop-reader-smaller c =
    let less = read_shorter count_of 0 c.take_end_array.new.self c.take_number.new.reader c.in_ok-number.number (c.in_ok-number.ensures 0) in
    omega (arith, less, ap length c.loop-reader-test.ensures.1)

pub loop-reader-preserved : goal.loop-reader-preserved
loop-reader-preserved c depth =
    let ns = c.loop-reader.numbers.items in
    c.loop-reader.invariant depth ∙ ap (λ ts. onto ns (read_items_at counts_of depth ts)) (sym c.loop-reader-test.ensures.1)
    ∙ next_number depth ns c.in_ok-number.number c.take_end_array.new.self c.take_number.new.reader (c.in_ok-number.ensures depth)
    ∙ ap (λ ms. onto ms (read_items_at counts_of depth c.take_number.new.reader)) (sym c.in-Ok.ensures.items)

pub returns : goal.returns
returns c depth = c.loop-reader.invariant depth ∙ numbers_end depth c.loop-reader.numbers.items c.loop-reader.reader c.take_end_array.new.self c.loop-reader-test.ensures

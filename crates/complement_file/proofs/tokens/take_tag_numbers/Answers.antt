use Rattle.std.proofs.Common.{sym, ap, subst, length, arith}
use Rattle.serde_json.specs.Data.{string}
use Rattle.doc_values.specs.Types.{fields_tree}
use Rattle.complement_file.proofs.TakenParts.{TagsSoFar, next_tag_taken, tags_end, tree_shorter}
use Rattle.complement_file.proofs.tokens.take_tag_numbers.Goals as goal

pub loop-reader-smaller : goal.loop-reader-smaller
loop-reader-smaller c =
    let less = tree_shorter c.args.depth c.take_end_array.new.self c.take_text.new.reader (string c.in_ok-name.name.now) (c.in_ok-name.ensures c.args.depth) in
    omega (arith, less, ap length c.loop-reader-test.ensures.1)

pub loop-reader-preserved : goal.loop-reader-preserved
loop-reader-preserved c =
    let l = c.loop-reader in
    let fs = fields_tree c.args.tags.now in
    subst (λ ks. TagsSoFar fs c.args.depth c.args.reader.now c.take_text.new.reader ks) (sym c.in-Ok.ensures.items)
    (next_tag_taken fs c.args.depth c.args.reader.now c.take_end_array.new.self c.take_text.new.reader l.numbers.items c.in_ok-name.name.now c.in_ok-number.number
    (subst (λ ts. TagsSoFar fs c.args.depth c.args.reader.now ts l.numbers.items) (sym c.loop-reader-test.ensures.1) l.invariant) (c.in_ok-name.ensures c.args.depth) c.in_ok-number.ensures)

pub returns : goal.returns
returns c = let l = c.loop-reader in tags_end (fields_tree c.args.tags.now) c.args.depth c.args.reader.now l.reader c.take_end_array.new.self l.numbers.items l.invariant c.loop-reader-test.ensures

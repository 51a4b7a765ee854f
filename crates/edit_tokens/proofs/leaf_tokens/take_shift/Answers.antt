use Rattle.std.proofs.Common.{◌-◌, refl, ap, ◌∙◌, arith, rules}
use Rattle.edit_module.specs.declared.word.Primitive.{the_lemmas}
use Rattle.json_tokens.specs.TreesAt.{read_at}
use Rattle.json_tokens.proofs.ReadParts.{three_read}
use Rattle.value_json.specs.Numbers.{count_of}
use Rattle.edit_json.specs.Values.{numbers_of}
use Rattle.edit_json.specs.WordJson.{leaf_of}
use Rattle.edit_json.specs.declared.kind.Kind.TheVariants.{Shift}
use Rattle.edit_tokens.proofs.leaf_tokens.take_shift.Goals as goal

pub returns : goal.returns
returns c depth some =
    ap (read_at (leaf_of Shift) depth) (c.if-not-opens_array.ensures refl)
    ∙ three_read numbers_of count_of count_of (leaf_of Shift) depth c.opens_array.new.reader c.take_path.new.reader c.take_number.new.reader c.take_number-2.new.reader c.take_end_array.new.self c.in_ok-path.path c.in_ok-from.from c.in_ok-to.to _ (omega (arith, some))
    (c.in_ok-path.ensures (depth - 1) (omega (arith, some)))
    (c.in_ok-from.ensures (depth - 1))
    (c.in_ok-to.ensures (depth - 1))
    c.if-not-take_end_array.ensures (λ d e i p q r. rw (p, q, r) (search (rules, the_lemmas)))

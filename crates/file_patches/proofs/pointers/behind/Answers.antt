use Rattle.std.proofs.Common.{◌≡◌, length, get_or, sym, ap, ◌∙◌, arith}
use Rattle.std.proofs.lemmas.Str.{lead_after_ascii}
use Rattle.file_patches.proofs.Indexes.{positive}
use Rattle.file_patches.proofs.pointers.behind.Goals as goal

pub range_from-requires : goal.range_from-requires
range_from-requires c = λ _.
    let same = c.as_bytes-bytes.ensures.value in
    let first : get_or c.args.text.now 0 0 ≡ c.args.first = ap (λ x. get_or x 0 0) (sym same) ∙ c.if-bytes-first.false in
    let some = positive (length c.as_bytes-bytes.result.now) c.if-is_empty.ensures in
    let size : length c.as_bytes-bytes.result.now ≡ length c.args.text.now = ap length same in
    (omega (arith, some, size), lead_after_ascii c.args.text.now 0 c.utf8.text (omega (arith, first, c.requires)))

use Rattle.std.proofs.Common.{◌-◌, refl, ap, ◌∙◌, arith, rules}
use Rattle.edit_module.specs.declared.word.Primitive.{the_lemmas}
use Rattle.serde_json.specs.Find.{as_str}
use Rattle.json_tokens.specs.TreesAt.{read_at}
use Rattle.json_tokens.proofs.ReadParts.{two_read}
use Rattle.edit_json.specs.WordJson.{leaf_of}
use Rattle.edit_json.specs.declared.kind.Kind.TheVariants.{Rename}
use Rattle.edit_tokens.proofs.leaf_tokens.take_rename.Goals as goal

pub returns : goal.returns
returns c depth some =
    ap (read_at (leaf_of Rename) depth) (c.if-not-opens_array.ensures refl)
    ∙ two_read as_str as_str (leaf_of Rename) depth c.opens_array.new.reader c.take_name.new.reader c.take_name-2.new.reader c.take_end_array.new.self c.in_ok-old.old c.in_ok-new.new _ (omega (arith, some))
    (c.in_ok-old.ensures (depth - 1))
    (c.in_ok-new.ensures (depth - 1))
    c.if-not-take_end_array.ensures (λ d e p q. rw (p, q) (search (rules, the_lemmas)))

use Rattle.std.proofs.Common.{sym, subst}
use Rattle.std.specs.Prelude.{IsTrue}
use Rattle.doc_values.specs.Types.{fields_tree}
use Rattle.tag_seq.specs.Tags.{are_below}
use Rattle.lens_check.proofs.PartNames.{count_is}
use Rattle.lens_check.proofs.image_part_right.tag_lists.Goals as goal

pub counts-requires : goal.counts-requires
counts-requires c =
    subst (λ z. IsTrue (are_below z c.args.seq.now)) (sym (count_is c.as_slice-fields.result.now (fields_tree c.args.tags.now) c.as_slice-fields.ensures)) c.requires

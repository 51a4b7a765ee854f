use Rattle.std.proofs.Common.{Some, codes, refl, ap, ◌∙◌}
use Rattle.edit_module.specs.Views.{entry_trees}
use Rattle.edit_tokens.proofs.ReadingChanges.{group_read}
use Rattle.edit_tokens.proofs.changes.take_group.Goals as goal

pub returns : goal.returns
returns c before key =
    group_read before c.opens_array.new.reader c.take_entries.new.reader c.closes_object.new.reader (entry_trees c.in_ok-entries.entries)
    (key ∙ ap (λ ts. Some (Some (codes "group"), ts)) (c.if-not-opens_array.ensures refl)) c.in_ok-entries.ensures (c.if-not-closes_object.ensures refl)

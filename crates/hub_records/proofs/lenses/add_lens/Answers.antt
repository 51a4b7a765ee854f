use Rattle.view_hub.specs.Views.{hub_tree}
use Rattle.hub_records.proofs.SnapshotViews.{last_has}
use Rattle.hub_records.proofs.lenses.add_lens.Goals as goal

pub construct-requires : goal.construct-requires
construct-requires c =
    rw (c.left.ensures.left, c.hub.ensures.hub, c.typed.ensures)
    (last_has c.args.hub.now.lenses c.args.lens (hub_tree c.args.hub.now.parts) c.hub.ensures.in_step c.requires.one_left)

use Rattle.texts.specs.declared.side.Side.TheVariants.{Right}
use Rattle.doc_values.specs.Types.{ty_tree}
use Rattle.edit_module.specs.Views.{word_tree}
use Rattle.turn_link.specs.RightViews.{right_after}
use Rattle.turn_link.proofs.SiteDrafts.{kept-joined-at}
use Rattle.turn_link.proofs.right.RightSite.edit.Goals as goal

pub invariant_of-self-2 : goal.invariant_of-self-2
invariant_of-self-2 c = record {
  well_formed = c.self.invariant.well_formed;
  kept = kept-joined-at Right (ty_tree c.self.inside.ty) c.self.inside.parts.number c.self.inside.parts.doc c.put.new.place c.in_ok-after.after
      (word_tree c.self.inside.parts.draft) (word_tree c.args.word.now) (word_tree c.append.new.draft) (right_after c.self.inside.parts) c.self.invariant.kept
      c.in_ok-after.ensures.edits.0 c.in_ok-after.ensures.edits.1 c.in_ok-after.ensures.typed (rw c.in_ok-more.ensures at c.in_ok-append.ensures.joined) c.put.ensures;
}

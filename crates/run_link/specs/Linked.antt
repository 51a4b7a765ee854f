-- A link of a type parameter's lens: what an item makes of it, and what belongs together in it.
use Rattle.std.specs.Prelude.{Option}
use Rattle.lens_core.specs.declared.lens.EditLens as OfLens
use Rattle.turn_link.specs.Laws.{IsLinked}
use Rattle.turn_link.specs.LinkViews.{LinkOf, link_tree}
use Rattle.turn_link.specs.Links.{LinkTree}
use Rattle.run_link.specs.Items.{ScriptItem, LinkAnswerTree, take_link_item}

module _ {L : Type 0} (lens : OfLens.Ghosts L) where
  -- the link is in turns, each of its entries acted and was carried, and each draft acts
  abbrev pub IsLinkedOf : LinkOf L → Type 0
  IsLinkedOf s =
      IsLinked (lens.holds s.left.lens) (lens.left_type s.left.lens) (lens.right_type s.left.lens)
      (lens.start s.left.lens) (lens.carried s.left.lens) (link_tree s)

  -- the link after an item, and the answer to it
  abbrev pub take_item_of : LinkOf L → ScriptItem → Option (LinkTree × LinkAnswerTree)
  take_item_of s item =
      take_link_item (lens.left_type s.left.lens) (lens.right_type s.left.lens) (lens.start s.left.lens)
      (lens.carried s.left.lens) (link_tree s) item

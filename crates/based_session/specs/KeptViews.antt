-- How contracts see what a session keeps.
use Rattle.std.specs.Prelude.{◌≡◌, List, map}
use Rattle.bridge_core.specs.Bridges.{bridge_tree}
use Rattle.based_session.specs.declared.kept.Kept.{Kept}
use Rattle.based_session.specs.declared.kept.Window.{Window}
use Rattle.based_session.specs.Bases.{KeptTree}

-- the trees of the bridges of a change
abbrev pub kept_tree : Kept → KeptTree
kept_tree k = record { left = bridge_tree k.left; right = bridge_tree k.right }

-- and of the last changes
abbrev pub kept_trees : Window → List KeptTree
kept_trees w = map kept_tree w.kept.items

-- the same is kept, of as many changes
abbrev pub KeepsSame : Window → Window → Type 0
KeepsSame v w = (kept_trees v ≡ kept_trees w) × (v.number ≡ w.number) × (v.width ≡ w.width)

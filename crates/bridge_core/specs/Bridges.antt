-- Bridges as plain trees: how a document, the far one, differs from another, the near one.
-- In order: `BridgeTree`, lists of bridges, and `bridge_tree`, the tree that contracts see a bridge as.
use Rattle.std.specs.Prelude.{ℕ, List, [], ◌∷◌, map, slice_set, slice_index_or}
use Rattle.hold_shapes.specs.declared.origins.Origin.{Origin}
use Rattle.hold_shapes.specs.Gather.{content_at}
use Rattle.bridge_texts.specs.declared.run.Run.{Run}
use Rattle.bridge_links.specs.declared.link.Link.{Link}
use Rattle.doc_values.specs.Documents.{DocTrees, no_docs, more_docs}
use Rattle.bridge_core.specs.declared.bridge.Bridge.{Bridge, fold-Bridge}
use Rattle.bridge_core.specs.declared.bridge.Bridges.{Bridges, fold-Bridges}
use Rattle.bridge_core.specs.declared.bridge.Bridge.TheOpen.{Bridge-F, Bridges-F}

-- both are the same; both have any value of a type without parts; nothing of the near one is followed; the runs of two
-- texts; a bridge for each field of a record; the same tag, with the bridge of its contents; two tags, of which the far
-- one was switched to; for each item of a near list where it is in the far one, how many items that has, and the bridge
-- of both contents
mutual
  pub data BridgeTree : Type 0 where
    same : BridgeTree
    other : BridgeTree
    lost : BridgeTree
    cells : List Run → BridgeTree
    parts : BridgeTrees → BridgeTree
    arm : List ℕ → BridgeTree → BridgeTree
    away : List ℕ → List ℕ → BridgeTree
    linked : List Link → ℕ → BridgeTrees → BridgeTree

  pub data BridgeTrees : Type 0 where
    no_bridges : BridgeTrees
    more_bridges : BridgeTree → BridgeTrees → BridgeTrees

-- a list of bridges as trees, and back
abbrev pub bridges_of : List BridgeTree → BridgeTrees
bridges_of [] = no_bridges
bridges_of (b ∷ bs) = more_bridges b (bridges_of bs)

abbrev pub bridge_list : BridgeTrees → List BridgeTree
bridge_list no_bridges = []
bridge_list (more_bridges b bs) = b ∷ bridge_list bs

-- the bridge at a place, and the bridges with another one there
abbrev pub bridge_at : BridgeTrees → ℕ → BridgeTree
bridge_at bs i = slice_index_or (bridge_list bs) i same

abbrev pub put_bridge_at : BridgeTrees → ℕ → BridgeTree → BridgeTrees
put_bridge_at bs i b = bridges_of (slice_set (bridge_list bs) i b)

-- the bridges of the items of a near list after a plan of it: a fresh item is the same in both lists
abbrev pub bridges_after : List Origin → BridgeTrees → BridgeTrees
bridges_after from bs = bridges_of (map (content_at (bridge_list bs) same) from)

-- for each document the bridge to itself
abbrev pub same_each : DocTrees → BridgeTrees
same_each no_docs = no_bridges
same_each (more_docs d ds) = more_bridges same (same_each ds)

-- one level of a `Bridge`, each bridge inside already seen as its tree
abbrev pub bridge_step : Bridge-F BridgeTree BridgeTrees → BridgeTree
bridge_step Bridge-F.Same = same
bridge_step Bridge-F.Other = other
bridge_step Bridge-F.Lost = lost
bridge_step (Bridge-F.Text b) = cells b.value
bridge_step (Bridge-F.Rec bs) = parts bs
bridge_step (Bridge-F.Arm a b) = arm a b.value
bridge_step (Bridge-F.Away a c) = away a c
bridge_step (Bridge-F.List b bs) = linked b.value.0 b.value.1 bs

abbrev pub bridges_step : Bridges-F BridgeTree BridgeTrees → BridgeTrees
bridges_step bs = bridges_of bs.items.items

-- the tree of a `Bridge`, and the trees of a `Bridges`
abbrev pub bridge_tree : Bridge → BridgeTree
bridge_tree = fold-Bridge BridgeTree BridgeTrees bridge_step bridges_step

abbrev pub bridges_tree : Bridges → BridgeTrees
bridges_tree = fold-Bridges BridgeTree BridgeTrees bridge_step bridges_step

-- Each node of a tree with its parent, read off the depths in preorder.
use Rattle.std.specs.Prelude.{ℕ, List, [], ◌∷◌, Option, Some, None, nat_lt, if◌then◌else◌}
use Rattle.hold_shapes.specs.declared.origins.Origin.{Origin}

-- a node as its depth and what it is called by
abbrev pub Called : Type 0
Called = ℕ × Origin

-- the nodes less deep than d among those on the way to a place, the nearest first
abbrev pub less_deep : ℕ → List Called → List Called
less_deep d [] = []
less_deep d (n ∷ above) = if nat_lt n.0 d then n ∷ above else less_deep d above

abbrev pub nearest : List Called → Option Origin
nearest [] = None
nearest (n ∷ above) = Some n.1

-- the nodes of these depths, called by the origins, each with its parent: the nearest node before it that is less deep;
-- above are the nodes on the way to the first
abbrev pub parents_below : List Called → List ℕ → List Origin → List (Origin × Option Origin)
parents_below above [] os = []
parents_below above (d ∷ ds) [] = []
parents_below above (d ∷ ds) (o ∷ os) =
    (o, nearest (less_deep d above)) ∷ parents_below ((d, o) ∷ less_deep d above) ds os

abbrev pub parents : List ℕ → List Origin → List (Origin × Option Origin)
parents ds os = parents_below [] ds os

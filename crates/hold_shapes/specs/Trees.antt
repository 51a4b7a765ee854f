-- Valid depth lists, and the nodes of their trees. From the end: `node`, `children`, `end_of`, `is_valid`.
use Rattle.std.specs.Prelude.{ℕ, suc, ◌+◌, ◌-◌, Bool, true, false, ◌&&◌, if◌then◌else◌, List, [], ◌∷◌, drop}
use Rattle.std.specs.Prelude.{slice_index, Option, Some, None, nat_eq, nat_lt, nat_le}

-- each number is from 1 to the one before it plus 1, and at most 15
abbrev pub goes_on : ℕ → List ℕ → Bool
goes_on before [] = true
goes_on before (d ∷ ds) = nat_le 1 d && (nat_le d (before + 1) && (nat_le d 15 && goes_on d ds))

-- a valid depth list is not empty, begins with 0, and goes on by that rule
abbrev pub is_valid : List ℕ → Bool
is_valid [] = false
is_valid (d ∷ ds) = nat_eq d 0 && goes_on 0 ds

-- how many of the nodes that follow a node of depth d are its descendants
abbrev pub descendants : ℕ → List ℕ → ℕ
descendants d [] = 0
descendants d (e ∷ es) = if nat_lt d e then suc (descendants d es) else 0

-- how many children a node of depth d has, es the nodes that follow it
abbrev pub children_of : ℕ → List ℕ → ℕ
children_of d [] = 0
children_of d (e ∷ es) =
    if nat_lt d e then (if nat_eq e (d + 1) then suc (children_of d es) else children_of d es) else 0

-- the place of child number i of a node of depth d, es the nodes that follow it, the first of them at a place
abbrev pub child_from : ℕ → ℕ → ℕ → List ℕ → Option ℕ
child_from at d i [] = None
child_from at d i (e ∷ es) =
    if nat_lt d e
    then (if nat_eq e (d + 1)
    then (if nat_eq i 0 then Some at else child_from (at + 1) d (i - 1) es)
    else child_from (at + 1) d i es)
    else None

-- the place after the subtree of the node at p
abbrev pub end_of : List ℕ → ℕ → ℕ
end_of ds p = p + 1 + descendants (slice_index ds p) (drop (p + 1) ds)

-- how many children the node at p has
abbrev pub children : List ℕ → ℕ → ℕ
children ds p = children_of (slice_index ds p) (drop (p + 1) ds)

-- the place of child number i of the node at p
abbrev pub child : List ℕ → ℕ → ℕ → Option ℕ
child ds p i = child_from (p + 1) (slice_index ds p) i (drop (p + 1) ds)

-- child number i of a node, if there is a node
abbrev pub child_at : List ℕ → ℕ → Option ℕ → Option ℕ
child_at ds i None = None
child_at ds i (Some p) = child ds p i

-- the node that a path names from a node on
abbrev pub node_from : List ℕ → Option ℕ → List ℕ → Option ℕ
node_from ds p [] = p
node_from ds p (i ∷ path) = node_from ds (child_at ds i p) path

-- the node that a path names from the root on
abbrev pub node : List ℕ → List ℕ → Option ℕ
node ds path = node_from ds (Some 0) path

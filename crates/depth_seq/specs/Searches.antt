-- Searches among the depths behind a node. The main definition is `search`, which says where one ends.
use Rattle.std.specs.Prelude.{ℕ, ◌+◌, ◌<◌, ◌≤◌, List, [], ◌∷◌, nat_eq, nat_lt, if◌then◌else◌}
use Rattle.depth_seq.specs.declared.found.Found.{Found}
use Rattle.depth_seq.specs.declared.found.Found.TheVariants.{Child, End, Behind}

-- where a search for child number n of a node of depth d ends that has come to a place behind k children, the depths
-- from that place on being given
abbrev pub search : ℕ → ℕ → ℕ → ℕ → List ℕ → Found
search d n at k [] = Behind k
search d n at k (e ∷ es) =
    if nat_lt d e
    then (if nat_eq e (d + 1)
    then (if nat_eq k n then Child at else search d n (at + 1) (k + 1) es)
    else search d n (at + 1) k es)
    else End at k

-- a search goes on behind the last depth
abbrev pub GoesOn : Found → Type 0
GoesOn (Child p) = ⊥
GoesOn (End p k) = ⊥
GoesOn (Behind k) = Unit {0}

-- a search that goes on has passed at most n children
abbrev pub PassesAtMost : ℕ → Found → Type 0
PassesAtMost n (Child p) = Unit {0}
PassesAtMost n (End p k) = Unit {0}
PassesAtMost n (Behind k) = k ≤ n

-- a search that does not go on ends at a place from one place on to before another
abbrev pub EndsBetween : ℕ → ℕ → Found → Type 0
EndsBetween from upto (Child p) = (from ≤ p) × (p < upto)
EndsBetween from upto (End p k) = (from ≤ p) × (p < upto)
EndsBetween from upto (Behind k) = Unit {0}

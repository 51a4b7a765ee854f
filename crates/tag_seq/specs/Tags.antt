-- Lists of tags. The main definitions are `count`, how often a tag occurs, `rank`, how often it occurs before a place,
-- and `place`, where one of its occurrences is.
use Rattle.std.specs.Prelude.{ℕ, ◌+◌, ◌-◌, Bool, true, List, [], ◌∷◌, take, Option, Some, None, nat_eq, nat_lt, ◌&&◌}
use Rattle.std.specs.Prelude.{if◌then◌else◌, slice_index}
use Rattle.std.specs.List.{insert, remove}

-- 1 where two tags are the same, and 0 otherwise
abbrev pub one_if_same : ℕ → ℕ → ℕ
one_if_same x t = if nat_eq x t then 1 else 0

-- how often a tag occurs in a list
abbrev pub count : ℕ → List ℕ → ℕ
count t [] = 0
count t (x ∷ xs) = one_if_same x t + count t xs

-- the rank of a tag at a place: how often it occurs before the place
abbrev pub rank : ℕ → ℕ → List ℕ → ℕ
rank t p xs = count t (take p xs)

-- a place of a list, seen from a list that has n more tags at its front
abbrev pub further : ℕ → Option ℕ → Option ℕ
further n None = None
further n (Some p) = Some (n + p)

-- the place of the occurrence of a tag that has q others before it, where there is one
abbrev pub place : ℕ → ℕ → List ℕ → Option ℕ
place t q [] = None
place t q (x ∷ xs) =
    if nat_eq x t
    then (if nat_eq q 0 then Some 0 else further 1 (place t (q - 1) xs))
    else further 1 (place t q xs)

-- whether each tag is below a bound
abbrev pub are_below : ℕ → List ℕ → Bool
are_below bound [] = true
are_below bound (x ∷ xs) = nat_lt x bound && are_below bound xs

-- the list with the tag at one place taken out and put at another place of what is left
abbrev pub moved : ℕ → ℕ → List ℕ → List ℕ
moved from to xs = insert (remove xs from) to (slice_index xs from)

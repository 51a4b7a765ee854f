-- What a place of a new shape holds: `content_at`.
use Rattle.std.specs.Prelude.{ℕ, ◌<◌, List, slice_index_or}
use Rattle.hold_shapes.specs.declared.origins.Origin.{Origin}
use Rattle.hold_shapes.specs.declared.origins.Origin.TheVariants.{Old, Fresh}

-- the old content, or the fresh one
abbrev pub content_at : {A : Type 0} → List A → A → Origin → A
content_at xs fresh (Old k) = slice_index_or xs k fresh
content_at xs fresh Fresh = fresh

-- an old place is below n
abbrev pub IsBelow : ℕ → Origin → Type 0
IsBelow n (Old k) = k < n
IsBelow n Fresh = Unit {0}

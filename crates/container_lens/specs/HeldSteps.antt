-- How a container translates one primitive: Mod begins and finishes at its place, a shape edit is finished by its plan.
-- Read it from the end: `finish_held`, then `begin_held`.
use Rattle.std.specs.Prelude.{ℕ, nat_eq, if◌then◌else◌, Option, None, Some, option_map}
use Rattle.hold_shapes.specs.declared.shape.Shape.{Shape}
use Rattle.hold_shapes.specs.declared.edit.Place.{Place}
use Rattle.hold_shapes.specs.declared.edit.ShapeEdit.{ShapeEdit}
use Rattle.hold_shapes.specs.Shapes.{size_of, place_of}
use Rattle.hold_shapes.specs.Plans.{plan}
use Rattle.edit_module.specs.Words.{PrimitiveTree, modify, shape, WordTree}
use Rattle.lens_core.specs.Beginnings.{Beginning, finished, inside, IsInside}
use Rattle.lens_core.specs.Complements.{CompTree, hold_comp, CompTrees, comp_count}
use Rattle.lens_core.specs.Emitted.{mod_word}
use Rattle.lens_core.specs.Translation.{Translated, comp_at, put_comp, gathered_comps}

-- ---- the beginning

-- Mod: its word is translated with the complement of the place, by the only lens inside
abbrev pub begin_mod : Shape → CompTrees → Place → WordTree → Option Beginning
begin_mod s cs at_place u = option_map (λ i. inside 0 (comp_at cs i) u) (place_of s at_place)

-- a shape edit: the same edit, and the complements gathered by its plan
abbrev pub begin_reshaped : CompTree → Shape → CompTrees → ShapeEdit → Option Beginning
begin_reshaped start s cs e = option_map (λ r. finished r) (gathered_comps cs start (plan s e) e)

abbrev pub begin_row : CompTree → Shape → CompTrees → PrimitiveTree → Option Beginning
begin_row start s cs (modify at_place u) = begin_mod s cs at_place u
begin_row start s cs (shape e) = begin_reshaped start s cs e
begin_row start s cs _ = None

-- these lines, where there is one complement for each place; start is the missing complement of the lens inside
abbrev pub begin_held : CompTree → Shape → CompTrees → PrimitiveTree → Option Beginning
begin_held start s cs p = if nat_eq (comp_count cs) (size_of s) then begin_row start s cs p else None

-- with some missing complement, the primitive begins at a place
abbrev pub HasBegun : Shape → CompTrees → PrimitiveTree → Type 0
HasBegun s cs p = (start : CompTree) × IsInside (begin_held start s cs p)

-- ---- the finish

-- Mod of the translated word, left out where that is empty, and the complements with the new one at the place
abbrev pub finish_mod : Shape → CompTrees → Place → Translated → Option ℕ → Translated
finish_mod s cs at_place r None = r
finish_mod s cs at_place r (Some i) = (mod_word at_place r.0, hold_comp s (put_comp cs i r.1))

-- the finish in a container, from what the lens inside translated; only after a beginning that needs it
abbrev pub finish_held : Shape → CompTrees → PrimitiveTree → Translated → Translated
finish_held s cs (modify at_place u) r = finish_mod s cs at_place r (place_of s at_place)
finish_held s cs _ r = r

-- An edit of a list, made for the near one, as edits of the far one, with the links between both after it.
-- Read it from the end: `carried`, then `carried_ins`, `carried_move`, `carried_del` and `carried_reorder`. Of an
-- edit of the far list: `led_on`.
use Rattle.std.specs.Prelude.{ℕ, zero, suc, ◌+◌, ◌-◌, Bool, true, false, if◌then◌else◌, ◌&&◌, List, [], ◌∷◌, ◌++◌}
use Rattle.std.specs.Prelude.{length, map, drop, replicate, Option, Some, None, option_map, nat_eq, nat_lt, nat_le}
use Rattle.std.specs.Prelude.{slice_index_or}
use Rattle.hold_shapes.specs.declared.edit.ShapeEdit.{ShapeEdit}
use Rattle.hold_shapes.specs.declared.edit.ShapeEdit.TheVariants.{Ins, Del, MoveItem, Reorder}
use Rattle.hold_shapes.specs.Plans.{has_number}
use Rattle.bridge_links.specs.declared.link.Link.{Link}
use Rattle.bridge_links.specs.declared.link.Link.TheVariants.{Stays, Moved, Gone}
use Rattle.bridge_links.specs.Links.{same_places, moved_place, place_of, link_at, first_stay, far_planned, near_planned}

-- edits of the far list, to be made one after another, the links after them, and the size of the far list then
abbrev pub Carried : Type 0
Carried = List ShapeEdit × List Link × ℕ

-- edits that come before the others
abbrev pub behind : List ShapeEdit → Carried → Carried
behind es q = (es ++ q.0, q.1, q.2)

-- the place that a link leads to in a far list of m items
abbrev pub place_below : ℕ → Option ℕ → Option ℕ
place_below m None = None
place_below m (Some y) = if nat_lt y m then Some y else None

abbrev pub far_place : ℕ → Link → Option ℕ
far_place m l = place_below m (place_of l)

-- the edit that moves an item, unless it is there
abbrev pub move_edit : ℕ → ℕ → List ShapeEdit
move_edit y g = if nat_eq y g then [] else MoveItem y g ∷ []

-- ---- c items more at the end

-- the plan of it for a list of n items
abbrev pub longer : ℕ → ℕ → List Link
longer n c = same_places n ++ replicate c Gone

abbrev pub carried_ins : ℕ → ℕ → List Link → Carried
carried_ins c m ls = (Ins c ∷ [], near_planned m (longer (length ls) c) (far_planned (longer m c) ls), m + c)

-- ---- item i is moved to place j

-- the links after that edit of the near list
abbrev pub put_at : ℕ → ℕ → List Link → List Link
put_at i j ls = near_planned 0 (moved_place (length ls) i j) ls

-- the place in front of the far item at z, counted without the one at y; without such an item, the last place of m
abbrev pub gap_before : ℕ → ℕ → Option ℕ → ℕ
gap_before m y None = m - 1
gap_before m y (Some z) = if nat_le z y then z else z - 1

-- the place in front of the next item behind place j of the near list that the far list has where it was
abbrev pub gap_for : ℕ → ℕ → List Link → ℕ → ℕ
gap_for m j put y = gap_before m y (place_below m (first_stay (drop (j + 1) put)))

-- the far item at y is moved to place g
abbrev pub moved_to : ℕ → ℕ → ℕ → List Link → ℕ → ℕ → Carried
moved_to i j m ls y g = (move_edit y g, put_at i j (far_planned (moved_place m y g) ls), m)

-- item i, which is at the far place y, is moved to place j, unless it is there
abbrev pub moved_from : ℕ → ℕ → ℕ → List Link → ℕ → Carried
moved_from i j m ls y =
    if nat_eq i j then ([], ls, m) else moved_to i j m ls y (gap_for m j (put_at i j ls) y)

-- nothing where the far list does not have the item
abbrev pub carried_move : ℕ → ℕ → ℕ → List Link → Option Carried
carried_move i j m ls = option_map (moved_from i j m ls) (far_place m (link_at ls i))

-- ---- the last c items are removed

-- one of the first f far items is moved behind the others of these, if it is there
abbrev pub park_edits : ℕ → Option ℕ → List ShapeEdit
park_edits f None = []
park_edits f (Some y) = move_edit y (f - 1)

abbrev pub park_links : ℕ → ℕ → List Link → Option ℕ → List Link
park_links m f ls None = ls
park_links m f ls (Some y) = far_planned (moved_place m y (f - 1)) ls

abbrev pub park_free : ℕ → Option ℕ → ℕ
park_free f None = f
park_free f (Some y) = f - 1

-- the last c of x near items are moved to the end of the far list, each in front of those before it; the last number
-- is how many far items are in front of all of these
abbrev pub parked : ℕ → ℕ → ℕ → ℕ → List Link → Carried
parked m x zero f ls = ([], ls, f)
parked m x (suc c) f ls =
    behind (park_edits f (far_place m (link_at ls (x - 1))))
    (parked m (x - 1) c
    (park_free f (far_place m (link_at ls (x - 1))))
    (park_links m f ls (far_place m (link_at ls (x - 1)))))

abbrev pub del_edit : ℕ → List ShapeEdit
del_edit d = if nat_eq d 0 then [] else Del d ∷ []

-- all far items but the first ones are removed, and the last c of n near ones
abbrev pub shortened : ℕ → ℕ → ℕ → Carried → Carried
shortened m n c q =
    (q.0 ++ del_edit (m - q.2), near_planned 0 (same_places (n - c)) (far_planned (same_places q.2) q.1), q.2)

abbrev pub carried_del : ℕ → ℕ → List Link → Carried
carried_del c m ls = shortened m (length ls) c (parked m (length ls) c m ls)

-- ---- the items get another order

abbrev pub with_first : Option ℕ → List ℕ → List ℕ
with_first None ys = ys
with_first (Some y) ys = y ∷ ys

-- the far places of items, in order; an item that the far list does not have has none
abbrev pub far_places : ℕ → List Link → List ℕ → List ℕ
far_places m ls [] = []
far_places m ls (x ∷ f) = with_first (far_place m (link_at ls x)) (far_places m ls f)

-- what comes to the far place y: the first of the places that are left, if y is one of those that get an order, else y
abbrev pub slot : Bool → ℕ → List ℕ → ℕ
slot false y next = y
slot true y next = slice_index_or next 0 y

abbrev pub slots_left : Bool → List ℕ → List ℕ
slots_left false next = next
slots_left true next = drop 1 next

-- what comes to the next n far places from y on, where those of `mine` get the order of the places that are left
abbrev pub slots : List ℕ → ℕ → ℕ → List ℕ → List ℕ
slots mine y zero next = []
slots mine y (suc n) next =
    slot (has_number y mine) y next ∷ slots mine (y + 1) n (slots_left (has_number y mine) next)

-- the far items that the near list has too get the order f among themselves; the others stay
abbrev pub far_order : ℕ → List Link → List ℕ → List ℕ
far_order m ls f = slots (far_places m ls f) 0 m (far_places m ls f)

-- whether the numbers count on from k
abbrev pub is_range : ℕ → List ℕ → Bool
is_range k [] = true
is_range k (y ∷ ys) = nat_eq k y && is_range (k + 1) ys

-- the edit of the order, unless each item is where it was
abbrev pub order_edit : List ℕ → List ShapeEdit
order_edit g = if is_range 0 g then [] else Reorder g ∷ []

-- the links after the far list has the order g and the near one the order f, which puts all its items there
abbrev pub ordered : List ℕ → List ℕ → List Link → List Link
ordered f g ls = near_planned 0 (map Moved f) (far_planned (map Stays g) ls)

abbrev pub carried_reorder : List ℕ → ℕ → List Link → Carried
carried_reorder f m ls = (order_edit (far_order m ls f), ordered f (far_order m ls f) ls, m)

-- ---- any edit of the far list

-- the plan of an edit of a list of m items, as links
abbrev pub edit_links : ℕ → ShapeEdit → List Link
edit_links m (Ins c) = longer m c
edit_links m (Del c) = same_places (m - c)
edit_links m (MoveItem i j) = moved_place m i j
edit_links m (Reorder f) = map Stays f
edit_links m e = same_places m

-- how many items there are then
abbrev pub edit_size : ℕ → ShapeEdit → ℕ
edit_size m (Ins c) = m + c
edit_size m (Del c) = m - c
edit_size m e = m

-- the links, and the size of the far list, after an edit of that list
abbrev pub led_on : ShapeEdit → List Link × ℕ → List Link × ℕ
led_on e b = (far_planned (edit_links b.1 e) b.0, edit_size b.1 e)

-- ---- any edit of the near list

-- nothing where the far list does not have the item that is moved, and for edits of other shapes
abbrev pub carried : ShapeEdit → ℕ → List Link → Option Carried
carried (Ins c) m ls = Some (carried_ins c m ls)
carried (Del c) m ls = Some (carried_del c m ls)
carried (MoveItem i j) m ls = carried_move i j m ls
carried (Reorder f) m ls = Some (carried_reorder f m ls)
carried e m ls = None

-- That all ints of a hub are i64, as all ints of the program.
use Rattle.std.specs.Prelude.{◌&&◌, Bool, true, List, [], ◌∷◌}
use Rattle.value_json.specs.DocumentJson.{holds_i64s}
use Rattle.view_hub.specs.Hubs.{ViewTree, HubTree}

abbrev pub views_hold_i64s : List ViewTree → Bool
views_hold_i64s [] = true
views_hold_i64s (v ∷ vs) = holds_i64s v.doc && views_hold_i64s vs

-- the ints of the hub's document and of each view's document are i64
abbrev pub hub_holds_i64s : HubTree → Bool
hub_holds_i64s h = holds_i64s h.hub && views_hold_i64s h.views

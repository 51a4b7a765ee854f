-- What a primitive does, by the name of the one member of its tree.
use Rattle.std.specs.Prelude.{ℕ, List, Option, Some, None, if◌then◌else◌, codes, bytes_eq}
use Rattle.edit_json.specs.declared.kind.Kind.{Kind}
use Rattle.edit_json.specs.declared.kind.Kind.TheVariants.{Set, Add, Splice, At, Stay, Switch, Mod, Ins, Del, Move}
use Rattle.edit_json.specs.declared.kind.Kind.TheVariants.{Reorder, Put, Drop, Rename, Graft, Prune, Shift, Hang}

-- none where no primitive has a member of this name
abbrev pub kind_of : List ℕ → Option Kind
kind_of k =
    if bytes_eq k (codes "set") then Some Set else
    if bytes_eq k (codes "add") then Some Add else
    if bytes_eq k (codes "splice") then Some Splice else
    if bytes_eq k (codes "at") then Some At else
    if bytes_eq k (codes "stay") then Some Stay else
    if bytes_eq k (codes "switch") then Some Switch else
    if bytes_eq k (codes "mod") then Some Mod else
    if bytes_eq k (codes "ins") then Some Ins else
    if bytes_eq k (codes "del") then Some Del else
    if bytes_eq k (codes "move") then Some Move else
    if bytes_eq k (codes "reorder") then Some Reorder else
    if bytes_eq k (codes "put") then Some Put else
    if bytes_eq k (codes "drop") then Some Drop else
    if bytes_eq k (codes "rename") then Some Rename else
    if bytes_eq k (codes "graft") then Some Graft else
    if bytes_eq k (codes "prune") then Some Prune else
    if bytes_eq k (codes "shift") then Some Shift else
    if bytes_eq k (codes "hang") then Some Hang else None

-- The items that shared owners hold: `items_of` for owners of items, `all_items` for owners of trees.
use Rattle.std.specs.Prelude.{List, [], ◌∷◌, ◌++◌, map}
use Rattle.std.specs.declared.alloc.Global.{Global}
use Rattle.std.specs.declared.option.Option.{Option}
use Rattle.std.specs.declared.option.Option.TheVariants.{None, Some}
use Rattle.std.specs.declared.rc.Rc.{Rc}

-- the item of each owner
abbrev pub items_of : {T : Type 0} → List (Rc T Global) → List T
items_of owners = map (λ r. r.value) owners

-- the items of a tree that may have none
abbrev pub optional_items : {T : Type 0} → Option (Rc (List T) Global) → List T
optional_items None = []
optional_items (Some tree) = tree.value

-- the items of trees, one tree after another
abbrev pub all_items : {T : Type 0} → List (Rc (List T) Global) → List T
all_items [] = []
all_items (tree ∷ trees) = tree.value ++ all_items trees

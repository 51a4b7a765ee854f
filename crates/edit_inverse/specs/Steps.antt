-- For the helpers of `inverse`: what lies inside a type, and words from the last to the first.
use Rattle.std.specs.Prelude.{List, [], ◌∷◌, Option, None, Some}
use Rattle.hold_shapes.specs.declared.edit.Place.{Place}
use Rattle.hold_shapes.specs.declared.edit.Place.TheVariants.{Index, Key, Node}
use Rattle.doc_values.specs.Types.{TyTree, ty_list, ty_keyed, ty_ordered}
use Rattle.edit_module.specs.Words.{WordTree, no_primitives, joined}

-- the type of the contents of a container, and where its places are of this kind
abbrev pub contents_of : TyTree → Option TyTree
contents_of (ty_list t) = Some t
contents_of (ty_keyed t) = Some t
contents_of (ty_ordered t) = Some t
contents_of _ = None

abbrev pub contents_at : TyTree → Place → Option TyTree
contents_at (ty_list t) (Index p) = Some t
contents_at (ty_keyed t) (Key k) = Some t
contents_at (ty_ordered t) (Node q) = Some t
contents_at _ _ = None

-- the last of the words, then the one before it, down to the first
abbrev pub backwards : List WordTree → WordTree
backwards [] = no_primitives
backwards (w ∷ ws) = joined (backwards ws) w

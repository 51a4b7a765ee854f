-- The three forms that map a lens over a container, each over its own kind of shape.
use Rattle.std.specs.Prelude.{Bool, true, false}
use Rattle.hold_shapes.specs.declared.shape.Shape.{Shape}
use Rattle.hold_shapes.specs.declared.shape.Shape.TheVariants.{List as ListOf, Keyed as KeyedOf, Tree as TreeOf}
use Rattle.lens_forms.specs.Forms.{FormTree, form_each, form_keyed, form_ordered}
use Rattle.lens_steps.specs.declared.kinds.Kind.{Kind}
use Rattle.lens_steps.specs.declared.kinds.Kind.TheVariants.{List, Keyed, Tree}

-- the lens mapped over this kind of container
abbrev pub mapped : Kind → FormTree → FormTree
mapped List l = form_each l
mapped Keyed l = form_keyed l
mapped Tree l = form_ordered l

-- the shape is of this kind
abbrev pub is_of_kind : Kind → Shape → Bool
is_of_kind List (ListOf s) = true
is_of_kind Keyed (KeyedOf names) = true
is_of_kind Tree (TreeOf depths) = true
is_of_kind _ _ = false

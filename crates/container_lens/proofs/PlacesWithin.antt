-- The places of a shape are below its size.
use Rattle.std.proofs.Common.{◌≡◌, ℕ, ◌<◌, true, Option, None, Some, List, refl}
use Rattle.std.specs.Prelude.{MatchOption}
use Rattle.texts.specs.Keys.{is_rising}
use Rattle.hold_shapes.specs.declared.shape.Shape.{Shape}
use Rattle.hold_shapes.specs.declared.shape.ListShape.{ListShape}
use Rattle.hold_shapes.specs.declared.shape.Shape.TheVariants.{List as ListOf, Keyed as KeyedOf, Tree as TreeOf}
use Rattle.hold_shapes.specs.declared.edit.Place.{Place}
use Rattle.hold_shapes.specs.Shapes.{size_of, place_of}
use Rattle.hold_shapes.specs.Trees.{is_valid}
use Rattle.edit_module.specs.Containers.{is_shape}
use Rattle.edit_module.proofs.PlannedShapes.{place_of-within}

-- the number of a place, where there is one
pub within-found : (s : Shape) (q : Place) (o : Option ℕ) → is_shape s ≡ true → o ≡ place_of s q → MatchOption o (Unit {0}) (λ i. i < size_of s)
within-found s q None h e = tt
within-found s q (Some i) h e = place_of-within s q i h (cc)

pub within-list : (l : ListShape) (s : Shape) (q : Place) (o : Option ℕ) → s ≡ ListOf l → o ≡ place_of (ListOf l) q → MatchOption o (Unit {0}) (λ i. i < size_of s)
within-list l s q o is e = rw is (within-found (ListOf l) q o refl e)

pub within-keyed : (ks : List (List ℕ)) (s : Shape) (q : Place) (o : Option ℕ) → is_rising ks ≡ true → s ≡ KeyedOf ks → o ≡ place_of (KeyedOf ks) q
    → MatchOption o (Unit {0}) (λ i. i < size_of s)
within-keyed ks s q o h is e = rw is (within-found (KeyedOf ks) q o h e)

pub within-tree : (ds : List ℕ) (s : Shape) (q : Place) (o : Option ℕ) → is_valid ds ≡ true → s ≡ TreeOf ds → o ≡ place_of (TreeOf ds) q
    → MatchOption o (Unit {0}) (λ i. i < size_of s)
within-tree ds s q o h is e = rw is (within-found (TreeOf ds) q o h e)

pub ruleset within_rules = (within-list, within-keyed, within-tree)

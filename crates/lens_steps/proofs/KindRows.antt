-- A container's form at a complement: at one of its own kind it is translated by its rows, at any other not at all.
use Rattle.std.proofs.Common.{◌≡◌, true, false, None, refl}
use Rattle.hold_shapes.specs.declared.shape.Shape.{Shape}
use Rattle.hold_shapes.specs.declared.shape.Shape.TheVariants.{List as ListOf, Keyed as KeyedOf, Tree as TreeOf}
use Rattle.texts.specs.declared.side.Side.{Side}
use Rattle.edit_module.specs.Words.{PrimitiveTree}
use Rattle.lens_forms.specs.Forms.{FormTree}
use Rattle.lens_core.specs.Complements.{CompTree, CompTrees, hold_comp, missing}
use Rattle.lens_core.specs.Translation.{translate, translate_one, translate_held}
use Rattle.lens_steps.specs.Kinds.{mapped, is_of_kind}
use Rattle.lens_steps.specs.declared.kinds.Kind.{Kind}
use Rattle.lens_steps.specs.declared.kinds.Kind.TheVariants.{List, Keyed, Tree}

-- a complement of this kind
pub held_row : (kind : Kind) (s : Shape) (cs : CompTrees) (c : CompTree) (l : FormTree) (side : Side) (p : PrimitiveTree) → is_of_kind kind s ≡ true → c ≡ hold_comp s cs
    → translate_one (mapped kind l) side c p ≡ translate_held (translate l side) (missing l) s cs p
held_row List (ListOf s) cs c l side p e is = rw is refl
held_row List (KeyedOf s) cs c l side p e is = cc
held_row List (TreeOf s) cs c l side p e is = cc
held_row Keyed (ListOf s) cs c l side p e is = cc
held_row Keyed (KeyedOf s) cs c l side p e is = rw is refl
held_row Keyed (TreeOf s) cs c l side p e is = cc
held_row Tree (ListOf s) cs c l side p e is = cc
held_row Tree (KeyedOf s) cs c l side p e is = cc
held_row Tree (TreeOf s) cs c l side p e is = rw is refl

-- a shape of another kind
pub other_shape : (kind : Kind) (s : Shape) (cs : CompTrees) (c : CompTree) (l : FormTree) (side : Side) (p : PrimitiveTree) → is_of_kind kind s ≡ false → c ≡ hold_comp s cs
    → translate_one (mapped kind l) side c p ≡ None
other_shape List (ListOf s) cs c l side p e is = cc
other_shape List (KeyedOf s) cs c l side p e is = rw is refl
other_shape List (TreeOf s) cs c l side p e is = rw is refl
other_shape Keyed (ListOf s) cs c l side p e is = rw is refl
other_shape Keyed (KeyedOf s) cs c l side p e is = cc
other_shape Keyed (TreeOf s) cs c l side p e is = rw is refl
other_shape Tree (ListOf s) cs c l side p e is = rw is refl
other_shape Tree (KeyedOf s) cs c l side p e is = rw is refl
other_shape Tree (TreeOf s) cs c l side p e is = cc

-- a complement of no container
abbrev pub IsHeld : CompTree → Type 0
IsHeld (hold_comp s cs) = Unit {0}
IsHeld _ = ⊥

pub ruleset kind_rules = (held_row, other_shape)

-- The complement of a composition, from those of its lenses in the order in which an edit of a side goes through them.
use Rattle.texts.specs.declared.side.Side.{Side}
use Rattle.texts.specs.declared.side.Side.TheVariants.{Left, Right}
use Rattle.lens_core.specs.Complements.{CompTree, then_comp}

-- the complement of the lens of the edited side, and that of the other lens
abbrev pub pair_on : Side → CompTree → CompTree → CompTree
pair_on Left near far = then_comp near far
pair_on Right near far = then_comp far near

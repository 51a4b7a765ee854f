use Rattle.container_lens.proofs.PlacesWithin.{within-keyed, within-tree}
use Rattle.container_lens.proofs.places.place_in.Goals as goal

pub returns-in-Keyed-clause-within : goal.returns-in-Keyed-clause-within
returns-in-Keyed-clause-within c =
    within-keyed c.in-Keyed.keys c.args.shape.now c.args.place.now c.place-in-Keyed.result c.names-names.ensures.rising c.in-Keyed.is c.place-in-Keyed.ensures

pub returns-in-Tree-clause-within : goal.returns-in-Tree-clause-within
returns-in-Tree-clause-within c =
    within-tree c.in-Tree.tree c.args.shape.now c.args.place.now c.place-in-Tree.result c.depths-depths.ensures.valid c.in-Tree.is c.place-in-Tree.ensures

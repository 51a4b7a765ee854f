-- How contracts see words of all documents.
use Rattle.std.specs.Prelude.{List, map}
use Rattle.view_hub.specs.Hubs.{CarriedTree}
use Rattle.view_hub.specs.Views.{hub_carried_tree}
use Rattle.view_hub.specs.declared.side.HubCarried.{HubCarried}

abbrev pub carried_trees : List HubCarried → List CarriedTree
carried_trees cs = map hub_carried_tree cs

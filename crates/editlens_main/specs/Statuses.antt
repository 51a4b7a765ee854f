-- How each command may end, whatever the devices tell.
use Rattle.std.specs.Prelude.{List, [], ◌∷◌, Option, Some, None}
use Rattle.command_ends.specs.Statuses.{IsStatusAmong, apply_statuses, import_statuses, init_statuses, quiet_statuses}
use Rattle.command_ends.specs.Statuses.{script_statuses}
use Rattle.command_ends.specs.declared.status.Status.{Status}
use Rattle.command_ends.specs.declared.status.Status.TheVariants.{Done, Usage, SinkFault, NoMemory}
use Rattle.command_words.specs.declared.orders.Order.{Order}
use Rattle.command_words.specs.declared.orders.Order.TheVariants as order

-- the command `gen`
abbrev pub gen_statuses : List Status
gen_statuses = Done ∷ SinkFault ∷ NoMemory ∷ []

-- the statuses of a command; and of words that name none
abbrev pub statuses_of : Option Order → List Status
statuses_of None = Usage ∷ SinkFault ∷ NoMemory ∷ []
statuses_of (Some order.Run) = script_statuses
statuses_of (Some order.Check) = script_statuses
statuses_of (Some (order.Gen count seed)) = gen_statuses
statuses_of (Some order.Init) = init_statuses
statuses_of (Some order.Import) = import_statuses
statuses_of (Some order.Apply) = apply_statuses
statuses_of (Some order.Show) = quiet_statuses
statuses_of (Some order.Verify) = quiet_statuses
statuses_of (Some order.Pack) = quiet_statuses
statuses_of (Some (order.Undo count)) = quiet_statuses
statuses_of (Some order.Hub) = script_statuses
statuses_of (Some order.Link) = script_statuses

abbrev pub MayEnd : Option Order → Status → Type 0
MayEnd order status = IsStatusAmong (statuses_of order) status

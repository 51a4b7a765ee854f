use Rattle.std.proofs.Common.{map}
use Rattle.lens_forms.specs.Forms.{form_tree}
use Rattle.hub_run.proofs.HubStarts.{one_left_of_lenses, started_hub}
use Rattle.hub_run.proofs.run.first_hub.Goals as goal

pub start-requires : goal.start-requires
start-requires c = one_left_of_lenses c.in_ok-lenses.lenses.items (map form_tree c.args.typed.now) c.in_ok-lenses.ensures c.requires.one_left

pub returns-clause-first : goal.returns-clause-first
returns-clause-first c = started_hub c.start.result c.in_ok-lenses.lenses.items (map form_tree c.args.typed.now) c.in_ok-lenses.ensures c.start.ensures.start

use Rattle.std.proofs.Common.{map}
use Rattle.lens_forms.specs.Forms.{form_tree}
use Rattle.view_hub.specs.Views.{hub_tree}
use Rattle.embed_hub.proofs.FormHubs.{hub_of_lenses}
use Rattle.embed_hub.proofs.form_hub.hub_at.Goals as goal

pub replace-requires : goal.replace-requires
replace-requires c = record {
  in_step = hub_of_lenses c.in_ok-hub.hub.lenses (map form_tree c.args.typed.now) (hub_tree c.args.parts) c.in_ok-hub.ensures.forms c.requires.in_step;
}

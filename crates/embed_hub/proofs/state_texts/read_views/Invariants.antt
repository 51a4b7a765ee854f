use Rattle.std.proofs.Common.{map}
use Rattle.lens_forms.specs.Forms.{form_tree}
use Rattle.view_hub.specs.Views.{view_trees}
use Rattle.embed_hub.proofs.StateTexts.{AreReadTo}
use Rattle.embed_hub.proofs.state_texts.read_views.Given as goal

abbrev pub invariant-loop-number : goal.invariant-loop-number
invariant-loop-number l = AreReadTo (map form_tree l.typed) l.texts l.number (view_trees l.views.items)

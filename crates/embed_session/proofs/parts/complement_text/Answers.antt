use Rattle.std.proofs.Common.{ap, ◌∙◌, rules}
use Rattle.serde_json.specs.View.{view}
use Rattle.serde_json.specs.Written.{has_float}
use Rattle.complement_file.proofs.Floats.{whole}
use Rattle.lens_core.specs.Complements.{comp_tree}
use Rattle.lens_forms.specs.Forms.{form_tree}
use Rattle.embed_session.proofs.PartTexts.{complement_low}
use Rattle.embed_session.proofs.parts.complement_text.Goals as goal

pub tree_text-requires-clause-no_float : goal.tree_text-requires-clause-no_float
tree_text-requires-clause-no_float c = ap has_float c.in_ok-tree.ensures.tree ∙ whole (form_tree c.args.typed.now) (comp_tree c.args.comp.now)

pub tree_text-requires-clause-low : goal.tree_text-requires-clause-low
tree_text-requires-clause-low c =
    complement_low (form_tree c.args.typed.now) (comp_tree c.args.comp.now) (view c.in_ok-tree.tree) c.in_ok-tree.ensures.tree (search rules)

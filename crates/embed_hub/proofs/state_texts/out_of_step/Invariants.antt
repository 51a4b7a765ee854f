use Rattle.std.proofs.Common.{map}
use Rattle.doc_values.specs.Documents.{doc_tree}
use Rattle.lens_forms.specs.Forms.{form_tree}
use Rattle.view_hub.specs.Views.{view_trees}
use Rattle.embed_hub.proofs.StateTexts.{AreDecidedTo}
use Rattle.embed_hub.proofs.state_texts.out_of_step.Given as goal

abbrev pub invariant-loop-number : goal.invariant-loop-number
invariant-loop-number l = AreDecidedTo (doc_tree l.hub) (map form_tree l.typed) (view_trees l.views) l.number

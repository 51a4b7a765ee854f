use Rattle.std.proofs.Common.{ap, ◌∙◌}
use Rattle.edit_journal.specs.EntryJson.{tree_of_text}
use Rattle.edit_module.specs.Views.{change_tree}
use Rattle.lens_forms.specs.Forms.{form_tree}
use Rattle.store_session.proofs.AcceptedDepths.{accepted_low}
use Rattle.embed_session.proofs.changes.payload_text.Goals as goal

pub returns : goal.returns
returns c =
    let change = change_tree c.args.accepted.now.change in let low = c.types_are_low.ensures in
    record {
      is_text = c.into_vec.ensures ∙ c.in_ok-payload.ensures.text;
      reads_back = λ t after words step. ap tree_of_text c.into_vec.ensures
          ∙ c.in_ok-payload.ensures.reads_back (accepted_low (form_tree c.args.typed.now) t after change words low.left low.right step);
    }

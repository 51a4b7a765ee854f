use Rattle.std.proofs.Common.{ap}
use Rattle.edit_module.specs.Views.{change_tree}
use Rattle.edit_session.specs.Views.{triple_tree}
use Rattle.edit_undo.specs.UndoneViews.{change_trees}
use Rattle.lens_flat.specs.declared.flat.ReadyForm.{ReadyForm}
use Rattle.lens_forms.specs.Forms.{form_tree}
use Rattle.embed_session.specs.Steps.{session_form}
use Rattle.embed_session.proofs.UndoneSteps.{found_back}
use Rattle.embed_session.proofs.changes.words_back.Goals as goal

pub returns : goal.returns
returns c =
    let s = c.in_ok-session.session in let a = c.args.accepted.now in
    found_back c.undo_changes.result (session_form s) (session_form a.before) (triple_tree s.triple) (triple_tree a.before.triple)
    (triple_tree c.undo_changes.new.session.triple) (change_trees c.from_ref.result.now) (change_tree a.change)
    (ap (λ (l : ReadyForm). form_tree l.typed) c.in_ok-session.ensures.lens) c.in_ok-session.ensures.triple
    (ap change_trees c.from_ref.ensures.value) c.undo_changes.ensures.undone c.undo_changes.ensures.brings_back

use Rattle.std.proofs.Common.{ap, ◌∙◌}
use Rattle.view_hub.specs.Views.{hub_tree}
use Rattle.hub_run.specs.Runs.{hub_state_text}
use Rattle.hub_add.proofs.adding.view_text.Goals as goal

pub returns : goal.returns
returns c =
    let hub = hub_tree c.add.new.self.hub.parts in
    record {
      hub = hub;
      made = c.in_ok-add.ensures.added;
      is = c.in_ok-payload.ensures.text;
      reads = c.in_ok-payload.ensures.reads_back;
      written = c.in_ok-lines.ensures.text ∙ ap (λ forms. hub_state_text (record { forms = forms; hub = hub })) c.in_ok-add.ensures.forms;
    }

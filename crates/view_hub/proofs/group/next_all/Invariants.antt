use Rattle.std.proofs.Common.{◌≡◌, drop, length, map}
use Rattle.view_hub.specs.Groups.{step_group}
use Rattle.view_hub.specs.Laws.{IsHub}
use Rattle.view_hub.specs.Views.{hub_carried_tree, edit_trees, hub_tree}
use Rattle.view_hub.proofs.GroupSteps.{remaining}
use Rattle.view_hub.proofs.group.next_all.Given as goal

-- the edits that are left make, behind the words that acted so far, what all make of the first hub
abbrev pub invariant-loop-part : goal.invariant-loop-part
invariant-loop-part g l =
    let lens = g.L.EditLens in
    record {
      in_step : IsHub lens l.lenses (hub_tree l.current);
      words : length l.words.items ≡ l.part;
      left : remaining lens l.lenses (map hub_carried_tree l.words.items) (hub_tree l.current) (edit_trees (drop l.part l.edits))
          ≡ step_group lens l.lenses (hub_tree l.parts) (edit_trees l.edits);
    }

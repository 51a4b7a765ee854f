use Rattle.std.proofs.Common.{◌≡◌, sym, ◌∙◌}
use Rattle.std.proofs.lemmas.Result.{IfOk-weaker}
use Rattle.serde_json.specs.View.{view}
use Rattle.view_hub.specs.Views.{hub_tree}
use Rattle.hub_run.specs.RunStates.{forms_of_lenses}
use Rattle.hub_records.specs.HubRecords.{tree_of_hub}
use Rattle.hub_run.proofs.StateLines.{some_lens}
use Rattle.hub_records.proofs.SavedViews.{first_has, hub_tree_is}
use Rattle.hub_records.proofs.saving.hub_record.Goals as goal

pub bounds-lenses-0 : goal.bounds-lenses-0
bounds-lenses-0 c = some_lens c.args.lenses.now (hub_tree c.args.parts.now) c.requires.in_step

pub parts_record-requires : goal.parts_record-requires
parts_record-requires c =
    let ls = c.args.lenses.now in
    let h = hub_tree c.args.parts.now in
    record {
      has_type = rw c.typed.ensures (first_has ls h c.index-lenses-0.result c.requires.in_step (some_lens ls h c.requires.in_step) c.index-lenses-0.is);
      in_step = c.requires.in_step;
    }

pub returns-clause-tree : goal.returns-clause-tree
returns-clause-tree c =
    let ls = c.args.lenses.now in
    let h = hub_tree c.args.parts.now in
    let whole = hub_tree_is ls h c.index-lenses-0.result (some_lens ls h c.requires.in_step) c.index-lenses-0.is in
    IfOk-weaker c.parts_record.result _ (λ tree. view tree ≡ tree_of_hub (forms_of_lenses ls) h) (λ tree is. is ∙ sym whole) (rw c.typed.ensures at c.parts_record.ensures.tree)

use Rattle.std.proofs.Common.{map, ap, ◌∙◌}
use Rattle.std.proofs.lemmas.List.{map-append}
use Rattle.serde_json.specs.Data.{array}
use Rattle.serde_json.specs.View.{view, items_of}
use Rattle.serde_json.proofs.Views.{view-Array}
use Rattle.hub_records.proofs.HubTrees.{push_text, texts_written}
use Rattle.hub_records.proofs.payloads.write_texts.Goals as goal

pub loop-program-preserved : goal.loop-program-preserved
loop-program-preserved c =
    let l = c.loop-program in
    ap (map view) c.in_ok-push.ensures.items ∙ map-append _ _ _
    ∙ push_text c.args.programs.now l.program-index c.program-item.result (map view l.items.items) (view c.in_ok-text_of.field-0) c.loop-program-test.true c.program-item.is l.invariant c.in_ok-text_of.ensures

pub returns : goal.returns
returns c =
    let l = c.loop-program in
    view-Array l.items ∙ ap array (ap items_of l.invariant ∙ texts_written c.args.programs.now l.program-index c.loop-program-test.false)

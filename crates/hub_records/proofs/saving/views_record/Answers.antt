use Rattle.std.proofs.Common.{◌<◌, ◌≤◌, length, map, sym, ap, ◌∙◌, arith}
use Rattle.std.proofs.lemmas.List.{map-append}
use Rattle.serde_json.specs.Data.{array}
use Rattle.serde_json.specs.View.{view}
use Rattle.serde_json.proofs.Views.{view-Array}
use Rattle.doc_values.specs.Documents.{doc_tree}
use Rattle.hub_records.proofs.SavedViews.{all_ints, lens_within, next_ints, next_view, there, views_done}
use Rattle.hub_records.proofs.saving.views_record.Goals as goal

pub offset_bounds-lenses-place : goal.offset_bounds-lenses-place
offset_bounds-lenses-place c =
    let parts = c.args.parts.now in
    omega (arith, lens_within c.args.lenses.now (doc_tree parts.hub.value) parts.views.items c.loop-place.place c.requires.in_step (omega arith))

pub bounds-lenses-place : goal.bounds-lenses-place
bounds-lenses-place c =
    let parts = c.args.parts.now in
    lens_within c.args.lenses.now (doc_tree parts.hub.value) parts.views.items c.loop-place.place c.requires.in_step (omega arith)

pub view_record-requires : goal.view_record-requires
view_record-requires c =
    let parts = c.args.parts.now in
    let here : c.loop-place.place < length parts.views.items = omega arith in
    let t = there c.args.lenses.now (doc_tree parts.hub.value) parts.views.items c.loop-place.place c.index-lenses-place.result c.index.result.now
    c.requires.in_step here c.index-lenses-place.is c.index.ensures in
    record { comp_fits = rw c.typed.ensures t.1; has_type = rw c.typed.ensures t.0 }

pub loop-place-preserved : goal.loop-place-preserved
loop-place-preserved c =
    let l = c.loop-place in
    let parts = c.args.parts.now in
    let ls = c.args.lenses.now in
    let vs = parts.views.items in
    let v = c.index.result.now in
    let here : l.place < length vs = omega arith in
    let within = lens_within ls (doc_tree parts.hub.value) vs l.place c.requires.in_step here in
    let step = next_view (map view l.items.items) ls vs l.place c.index-lenses-place.result v within here c.index-lenses-place.is c.index.ensures in
    record {
      trees = rw (c.in_ok-push.ensures.items, map-append, c.in_ok-view_record.ensures.tree, c.typed.ensures) (sym step ∙ l.invariant.trees);
      ints = next_ints vs l.place v here c.index.ensures l.invariant.ints c.in_ok-view_record.ensures.ints;
    }

pub returns-clause-tree : goal.returns-clause-tree
returns-clause-tree c =
    let l = c.loop-place in
    let vs = c.args.parts.now.views.items in
    let past : length vs ≤ l.place = omega arith in
    view-Array l.items ∙ ap array (sym (views_done (map view l.items.items) c.args.lenses.now vs l.place past) ∙ l.invariant.trees)

pub returns-clause-ints : goal.returns-clause-ints
returns-clause-ints c =
    let l = c.loop-place in
    let vs = c.args.parts.now.views.items in
    let past : length vs ≤ l.place = omega arith in
    all_ints vs l.place past l.invariant.ints

use Rattle.std.proofs.Common.{ℕ, List, ◌<◌, ◌≤◌, length, map, sym, ap, ◌∙◌, arith}
use Rattle.std.proofs.lemmas.List.{take_all, map-append}
use Rattle.serde_json.specs.Data.{array, string}
use Rattle.serde_json.specs.View.{view, items_of}
use Rattle.serde_json.proofs.Views.{view-Array}
use Rattle.doc_values.specs.Types.{type_fields_of, field_tree}
use Rattle.doc_values.specs.declared.ty.Ty.{Ty}
use Rattle.tag_seq.specs.Tags.{are_below}
use Rattle.lens_core.specs.Tags.{tag_count}
use Rattle.lens_core.proofs.Tags.{tag_name-at}
use Rattle.value_json.proofs.Writing.{push_item}
use Rattle.complement_file.specs.ComplementJson.{tag_items}
use Rattle.complement_file.proofs.TagNames.{number_within, tag_tree, items_of_tags}
use Rattle.complement_file.proofs.tags.write_tags.Goals as goal

pub bounds-fields-number : goal.bounds-fields-number
bounds-fields-number c =
    let fields = c.as_slice-fields.result.now in
    let within : c.loop-place.place < length c.args.seq.now = omega (arith, c.len-place-end.ensures, c.loop-place-test.true) in
    let below = ap (λ fs. are_below (tag_count fs) c.args.seq.now) c.as_slice-fields.ensures ∙ c.requires in
    omega (arith, c.tag_at-number.ensures, number_within fields c.args.seq.now c.loop-place.place within below)

pub loop-place-preserved : goal.loop-place-preserved
loop-place-preserved c =
    let l = c.loop-place in
    let fields = c.as_slice-fields.result.now in
    let within : l.place < length c.args.seq.now = omega (arith, c.len-place-end.ensures, c.loop-place-test.true) in
    let below = ap (λ fs. are_below (tag_count fs) c.args.seq.now) c.as_slice-fields.ensures ∙ c.requires in
    let inside : c.tag_at-number.result < length fields = omega (arith, c.tag_at-number.ensures, number_within fields c.args.seq.now l.place within below) in
    let name = c.as_str.ensures ∙ ap (λ (f : List ℕ × Ty). f.0) (sym c.index-fields-number.is) ∙ sym (tag_name-at fields c.tag_at-number.result c.index-fields-number.result inside c.index-fields-number.is) in
    ap (map view) c.in_ok-push.ensures.items ∙ map-append _ _ _
    ∙ push_item (tag_tree (type_fields_of (map field_tree fields))) c.args.seq.now l.place c.tag_at-number.result 0 (map view l.items.items) (view c.in_ok-write_text.field-0) within c.tag_at-number.ensures l.invariant
    (c.in_ok-write_text.ensures ∙ ap string name)

pub returns : goal.returns
returns c =
    let l = c.loop-place in
    let seq = c.args.seq.now in
    let fs = type_fields_of (map field_tree c.as_slice-fields.result.now) in
    let past : length seq ≤ l.place = omega (arith, c.len-place-end.ensures, c.loop-place-test.false) in
    view-Array l.items ∙ ap array (ap items_of l.invariant ∙ ap (λ ns. items_of (map (tag_tree fs) ns)) (take_all l.place seq past) ∙ items_of_tags fs seq ∙ ap (λ gs. tag_items gs seq) c.as_slice-fields.ensures)

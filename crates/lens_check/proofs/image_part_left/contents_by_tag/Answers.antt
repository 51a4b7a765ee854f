use Rattle.std.proofs.Common.{◌<◌, length, map, option_map, ap, sym, ◌∙◌, arith}
use Rattle.doc_values.specs.Types.{fields_tree}
use Rattle.lens_core.specs.Tags.{tag_count}
use Rattle.law_images.specs.Patterns.{hole, pattern_list, pattern_tree, patterns_tree}
use Rattle.law_images.proofs.PatternLists.{pattern_count-length}
use Rattle.lens_check.specs.PartLists.{trees_in, lists_by_tag}
use Rattle.lens_check.proofs.PartCounts.{below_at}
use Rattle.lens_check.proofs.PartNames.{count_is}
use Rattle.lens_check.proofs.PartContents.{left_start, left_kept, left_none, left_end, content_read, empty_long, pushed_long}
use Rattle.lens_check.proofs.image_part_left.contents_by_tag.Goals as goal

pub loop-place-init : goal.loop-place-init
loop-place-init c = record {
  long = empty_long c.in_ok-lists.lists.items (length c.as_slice-fields.result.now) c.in_ok-lists.ensures;
  done = left_start (fields_tree c.args.tags.now) (length c.as_slice-fields.result.now) (map trees_in c.in_ok-lists.lists.items) c.args.seq.now (patterns_tree c.args.items.now)
      (count_is c.as_slice-fields.result.now (fields_tree c.args.tags.now) c.as_slice-fields.ensures) c.in_ok-lists.ensures;
}

pub bounds-fields-tag : goal.bounds-fields-tag
bounds-fields-tag c =
    omega (
      arith,
      c.tag_at-tag.ensures,
      count_is c.as_slice-fields.result.now (fields_tree c.args.tags.now) c.as_slice-fields.ensures,
      below_at (tag_count (fields_tree c.args.tags.now)) c.args.seq.now c.loop-place.place c.requires.fit (omega (arith, c.loop-place-test.true, c.len-place-end.ensures)),
    )

pub push_content-requires : goal.push_content-requires
push_content-requires c =
    omega (
      arith,
      c.tag_at-tag.ensures,
      c.loop-place.invariant.long,
      count_is c.as_slice-fields.result.now (fields_tree c.args.tags.now) c.as_slice-fields.ensures,
      below_at (tag_count (fields_tree c.args.tags.now)) c.args.seq.now c.loop-place.place c.requires.fit (omega (arith, c.loop-place-test.true, c.len-place-end.ensures)),
    )

pub loop-place-preserved : goal.loop-place-preserved
loop-place-preserved c =
    let fields = c.as_slice-fields.result.now in
    let tree = fields_tree c.args.tags.now in
    let items = pattern_list (patterns_tree c.args.items.now) in
    let place = c.loop-place.place in
    let tag = c.tag_at-tag.result in
    let within : place < length c.args.seq.now = omega (arith, c.loop-place-test.true, c.len-place-end.ensures) in
    let behind : place < length items = omega (arith, within, c.requires.long, pattern_count-length (patterns_tree c.args.items.now)) in
    let low : tag < length fields =
    omega (arith, c.tag_at-tag.ensures, count_is fields tree c.as_slice-fields.ensures, below_at (tag_count tree) c.args.seq.now place c.requires.fit within) in
    record {
      long = pushed_long c.loop-place.lists.items c.push_content.new.lists.items tag (pattern_tree c.in-Some.content) c.in_ok-push_content.ensures ∙ c.loop-place.invariant.long;
      done = left_kept tree (map trees_in c.loop-place.lists.items) (map trees_in c.push_content.new.lists.items) c.args.seq.now items place tag hole (pattern_tree c.in-Some.content) _ within behind
          c.tag_at-tag.ensures
          (content_read fields tree tag c.index-fields-tag.result (pattern_tree c.get-item.result.now) _ _ c.as_slice-fields.ensures low c.index-fields-tag.is c.get-item.ensures
          (sym (ap (option_map pattern_tree) c.in-Some.is) ∙ c.in_ok-content.ensures))
          c.in_ok-push_content.ensures c.loop-place.invariant.done;
    }

pub returns-in_default : goal.returns-in_default
returns-in_default c =
    let fields = c.as_slice-fields.result.now in
    let tree = fields_tree c.args.tags.now in
    let items = pattern_list (patterns_tree c.args.items.now) in
    let place = c.loop-place.place in
    let tag = c.tag_at-tag.result in
    let within : place < length c.args.seq.now = omega (arith, c.loop-place-test.true, c.len-place-end.ensures) in
    let behind : place < length items = omega (arith, within, c.requires.long, pattern_count-length (patterns_tree c.args.items.now)) in
    let low : tag < length fields =
    omega (arith, c.tag_at-tag.ensures, count_is fields tree c.as_slice-fields.ensures, below_at (tag_count tree) c.args.seq.now place c.requires.fit within) in
    left_none tree (map trees_in c.loop-place.lists.items) c.args.seq.now items place tag hole (lists_by_tag (tag_count tree) c.args.seq.now) _ within behind
    c.tag_at-tag.ensures
    (content_read fields tree tag c.index-fields-tag.result (pattern_tree c.get-item.result.now) _ _ c.as_slice-fields.ensures low c.index-fields-tag.is c.get-item.ensures
    (sym (ap (option_map pattern_tree) c.in_default.is) ∙ c.in_ok-content.ensures))
    c.loop-place.invariant.done

pub returns : goal.returns
returns c =
    left_end (fields_tree c.args.tags.now) (map trees_in c.loop-place.lists.items) c.args.seq.now (pattern_list (patterns_tree c.args.items.now)) c.loop-place.place _
    (omega (arith, c.loop-place-test.false, c.len-place-end.ensures))
    (omega (arith, c.loop-place-test.false, c.len-place-end.ensures, c.requires.long, pattern_count-length (patterns_tree c.args.items.now)))
    c.loop-place.invariant.done

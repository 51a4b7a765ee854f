use Rattle.std.proofs.Common.{◌≡◌, ◌≤◌, Some, option_map, ap, ◌∙◌, arith}
use Rattle.std.proofs.lemmas.Result.{IfOk-weaker}
use Rattle.law_images.specs.Patterns.{hole, pattern_tree, patterns_tree, pattern_count}
use Rattle.law_images.specs.PartImage.{patterns_in_list}
use Rattle.lens_check.specs.PartLists.{field_pattern}
use Rattle.lens_check.proofs.PartNames.{field_there, field_nowhere, field_past}
use Rattle.lens_check.proofs.image_part_right.list_of_tag.Goals as goal
use Rattle.lens_check.proofs.image_part_right.list_of_tag.Goals.{else-place-names-via-then-place-names+else-place-len, else-place-names-via-else-place-names}

pub returns-then-place-len : goal.returns-then-place-len
returns-then-place-len c =
    let there : pattern_tree c.get.result.now ≡ field_pattern c.args.names.now (pattern_tree c.args.pattern.now) c.args.name.now =
    field_there c.args.names.now c.args.pattern.now c.in-Rec.contents c.args.name.now c.place_of-place.result (pattern_tree c.get.result.now)
    c.in-Rec.is c.place_of-place.ensures c.if-place-names.true c.get.ensures in
    IfOk-weaker c.patterns_in_list.result (λ r. option_map patterns_tree r ≡ patterns_in_list c.args.count (pattern_tree c.get.result.now))
    (λ r. option_map patterns_tree r ≡ patterns_in_list c.args.count (field_pattern c.args.names.now (pattern_tree c.args.pattern.now) c.args.name.now))
    (λ r made. made ∙ ap (patterns_in_list c.args.count) there) c.patterns_in_list.ensures

pub returns-in_ok-holes-2 : goal.returns-in_ok-holes-2
returns-in_ok-holes-2 c =
    let none : hole ≡ field_pattern c.args.names.now (pattern_tree c.args.pattern.now) c.args.name.now =
    elim c.else-place-names.branch [
      | else-place-names-via-then-place-names+else-place-len w ↦
          let past : pattern_count (patterns_tree c.in-Rec.contents) ≤ c.place_of-place.result = omega (arith, w.len.ensures, w.if-place-len.false) in
          field_past c.args.names.now c.args.pattern.now c.in-Rec.contents c.args.name.now c.place_of-place.result
          c.in-Rec.is c.place_of-place.ensures w.if-place-names.true past
      | else-place-names-via-else-place-names w ↦
          field_nowhere c.args.names.now c.args.pattern.now c.in-Rec.contents c.args.name.now c.place_of-place.result
          c.in-Rec.is c.place_of-place.ensures w.if-place-names.false
    ] in
    ap Some c.in_ok-holes-2.ensures ∙ ap (patterns_in_list c.args.count) none

use Rattle.std.proofs.Common.{◌<◌, ◌+◌, length, map, ap, sym, ◌∙◌, subst, arith}
use Rattle.std.specs.Prelude.{option_map}
use Rattle.std.proofs.lemmas.Bool.Decides.{nat_tests}
use Rattle.program_terms.specs.Terms.{TermFields}
use Rattle.program_terms.specs.Views.{fields_tree}
use Rattle.lens_types.specs.Checking.{repeated_tag}
use Rattle.lens_types.specs.Earlier.{expanded_fields, partition}
use Rattle.lens_types.specs.Entries.{earlier_tree}
use Rattle.lens_types.specs.Heights.{capped, HasHeights}
use Rattle.lens_types.specs.declared.known.SideHeights.{SideHeights}
use Rattle.doc_values.specs.Types.{highest}
use Rattle.lens_types.specs.Nodes.{IsLowForm}
use Rattle.lens_types.specs.Repeats.{sided, first_repeat, field_names}
use Rattle.lens_types.proofs.NodeHeights.{partition_heights}
use Rattle.lens_types.proofs.lenses.checked_partition.Goals as goal

pub returns : goal.returns
returns c =
    let ds = earlier_tree c.args.earlier.now in
    let fields = fields_tree c.args.fields.now in
    let some : 0 < length c.as_slice-2.result.now = grind (arith, nat_tests, c.is_empty.ensures, c.if-is_empty.false) in
    let same = c.as_slice-2.ensures in
    let sides : SideHeights = record { left = c.next_height-height.result; right = c.next_height-height.result } in
    let highest = c.fields_height.ensures ∙ ap (λ fs. capped (highest (expanded_fields ds fs))) (sym same) in
    let twice = c.next_height-height.ensures ∙ ap (λ h. capped (h + 1)) c.next_height.ensures in
    let P : TermFields → Type 0 = λ fs. HasHeights (partition (expanded_fields ds fs)) sides in
    let heights = subst P same (partition_heights ds c.as_slice-2.result.now sides c.fields_height.result some highest twice twice) in
    let low : IsLowForm (partition (expanded_fields ds fields)) c.low_sides-2.result = c.low_sides-2.ensures (partition (expanded_fields ds fields)) heights in
    let names = ap (map sided) c.deref.ensures.value ∙ c.in_ok-field_names.ensures ∙ ap field_names c.as_slice.ensures in
    let none = ap (λ xs. option_map repeated_tag (first_repeat xs)) (sym names) ∙ c.in_ok-distinct_tags.ensures in
    rw (c.in_ok-check_fields.ensures, none) low

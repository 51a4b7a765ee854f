use Rattle.std.proofs.Common.{◌≡◌, true, ap, sym, ◌∙◌, subst}
use Rattle.program_terms.specs.Views.{lens_tree}
use Rattle.lens_forms.specs.Forms.{FormTree, left_type, right_type}
use Rattle.lens_types.specs.Earlier.{expanded_form}
use Rattle.lens_types.specs.Sound.{is_sound}
use Rattle.lens_types.proofs.Entries.{all_of}
use Rattle.lens_types.proofs.SideTypes.{left_side, right_side}
use Rattle.lens_types.proofs.checking.typed_lens.Goals as goal

pub new-requires-clause-sound : goal.new-requires-clause-sound
new-requires-clause-sound c =
    let lens = lens_tree c.args.lens.now in
    let form = c.in_ok-form.ensures ∙ ap (λ ds. expanded_form ds lens) (all_of c.args.earlier.now c.len-scope.result c.len-scope.ensures) in
    let P : FormTree → Type 0 = λ f. is_sound f ≡ true in
    subst P (sym form) c.requires

pub new-requires-clause-left_is : goal.new-requires-clause-left_is
new-requires-clause-left_is c =
    let lens = lens_tree c.args.lens.now in
    let form = c.in_ok-form.ensures ∙ ap (λ ds. expanded_form ds lens) (all_of c.args.earlier.now c.len-scope.result c.len-scope.ensures) in
    left_side c.args.earlier.now c.len-scope.result lens _ c.len-scope.ensures (rw c.in_ok-left.ensures.first at c.side_type-left.ensures) ∙ ap left_type (sym form)

pub new-requires-clause-right_is : goal.new-requires-clause-right_is
new-requires-clause-right_is c =
    let lens = lens_tree c.args.lens.now in
    let form = c.in_ok-form.ensures ∙ ap (λ ds. expanded_form ds lens) (all_of c.args.earlier.now c.len-scope.result c.len-scope.ensures) in
    right_side c.args.earlier.now c.len-scope.result lens _ c.len-scope.ensures (rw c.in_ok-left.ensures.second at c.side_type-right.ensures) ∙ ap right_type (sym form)

pub returns : goal.returns
returns c =
    let lens = lens_tree c.args.lens.now in
    c.new.ensures ∙ c.in_ok-form.ensures ∙ ap (λ ds. expanded_form ds lens) (all_of c.args.earlier.now c.len-scope.result c.len-scope.ensures)

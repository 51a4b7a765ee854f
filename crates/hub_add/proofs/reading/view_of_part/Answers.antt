use Rattle.std.proofs.Common.{◌<◌, ◌≤◌, Some, length, refl, sym, ap, ◌∙◌, arith}
use Rattle.doc_values.specs.Types.{ty_tree}
use Rattle.lens_forms.specs.Forms.{form_tree, left_type}
use Rattle.hub_run.specs.Lenses.{too_many_views}
use Rattle.hub_run.specs.RunStates.{forms_of_lenses}
use Rattle.hub_run.specs.declared.pieces.TheConstants.{MOST_VIEWS}
use Rattle.hub_add.proofs.AddsRead.{first_of, forms_count, too_many, view_found}
use Rattle.hub_add.proofs.reading.view_of_part.Goals as goal

pub returns-then-lenses-ge-MOST_VIEWS-clause-accepted : goal.returns-then-lenses-ge-MOST_VIEWS-clause-accepted
returns-then-lenses-ge-MOST_VIEWS-clause-accepted c = λ bytes h.
    let many : MOST_VIEWS ≤ length c.args.lenses.now = omega (arith, c.if-lenses-ge-MOST_VIEWS.true) in
    (too_many_views, too_many (forms_of_lenses c.args.lenses.now) bytes (length c.args.lenses.now) (forms_count c.args.lenses.now) many, refl)

pub returns-clause-accepted : goal.returns-clause-accepted
returns-clause-accepted c = λ bytes h.
    let ls = c.args.lenses.now in
    let room : length ls < MOST_VIEWS = omega (arith, c.if-lenses-ge-MOST_VIEWS.false) in
    let typed = ap (λ x. left_type (form_tree x)) (sym c.typed.ensures) ∙ sym c.left.ensures.left in
    let first = first_of ls c.index-lenses-0.result c.requires.some c.index-lenses-0.is ∙ ap (λ t. Some t) typed in
    view_found (forms_of_lenses ls) bytes (length ls) (forms_count ls) (ty_tree c.left.result.now) c.view_with_left.result room first (c.view_with_left.ensures.view bytes h)

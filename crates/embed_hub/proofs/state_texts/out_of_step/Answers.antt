use Rattle.std.proofs.Common.{◌≡◌, ◌<◌, length, map, true, false, sym, ◌∙◌, arith}
use Rattle.doc_values.specs.Documents.{doc_tree}
use Rattle.lens_forms.specs.Forms.{form_tree}
use Rattle.view_hub.specs.Views.{view_tree, view_trees}
use Rattle.embed_hub.proofs.StateTexts.{one_decided, first_found, forms_at, views_at}
use Rattle.embed_hub.proofs.state_texts.out_of_step.Goals as goal

pub returns-then-not-branch : goal.returns-then-not-branch
returns-then-not-branch c =
    let i = c.loop-number.number in
    let within : i < length c.args.views.now = omega (arith, c.requires.count, c.loop-number-test.true) in
    first_found (doc_tree c.args.hub.now) (map form_tree c.args.typed.now) (view_trees c.args.views.now) i (form_tree c.index-typed-number.result) (view_tree c.index-views-number.result)
    (forms_at c.args.typed.now i c.index-typed-number.result c.loop-number-test.true c.index-typed-number.is) (views_at c.args.views.now i c.index-views-number.result within c.index-views-number.is)
    c.loop-number.invariant (λ is. let no : false ≡ true = sym c.if-not-branch.true ∙ c.in_ok-is_in_step.ensures.1 is in cc)

pub loop-number-preserved : goal.loop-number-preserved
loop-number-preserved c =
    let i = c.loop-number.number in
    let within : i < length c.args.views.now = omega (arith, c.requires.count, c.loop-number-test.true) in
    one_decided (doc_tree c.args.hub.now) (map form_tree c.args.typed.now) (view_trees c.args.views.now) i (form_tree c.index-typed-number.result) (view_tree c.index-views-number.result)
    (forms_at c.args.typed.now i c.index-typed-number.result c.loop-number-test.true c.index-typed-number.is) (views_at c.args.views.now i c.index-views-number.result within c.index-views-number.is)
    c.loop-number.invariant (c.in_ok-is_in_step.ensures.0 c.if-not-branch.false)

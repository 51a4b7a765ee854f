use Rattle.std.proofs.Common.{◌≡◌, option_map, ap, ◌∙◌}
use Rattle.texts.specs.declared.side.Side.TheVariants.{Left}
use Rattle.doc_values.specs.Documents.{doc_tree}
use Rattle.lens_forms.specs.Forms.{FormTree, form_tree}
use Rattle.lens_core.specs.Complements.{comp_tree}
use Rattle.law_images.specs.Patterns.{PatternTree, pattern_tree, pattern_of}
use Rattle.law_images.specs.Image.{image}
use Rattle.lens_check.proofs.Decisions.{judged_by_image}
use Rattle.lens_check.proofs.decision.is_reached.Goals as goal

pub returns : goal.returns
returns c =
    let l = form_tree c.args.typed.now in
    let comp = comp_tree c.args.comp.now in
    let reached : option_map pattern_tree c.in_ok-reached.reached ≡ image l Left comp (pattern_of (doc_tree c.args.left.now)) =
    c.in_ok-reached.ensures
    ∙ ap (λ (k : FormTree). image k Left comp (pattern_tree c.in_ok-pattern.pattern)) (ap form_tree c.form.ensures.is)
    ∙ ap (λ (p : PatternTree). image l Left comp p) c.in_ok-pattern.ensures.pattern in
    judged_by_image c.is_in.result l (doc_tree c.args.left.now) comp (doc_tree c.args.right.now) c.in_ok-reached.reached
    (rw (ap form_tree c.form.ensures.is) at c.form.ensures.tested) c.requires reached c.is_in.ensures

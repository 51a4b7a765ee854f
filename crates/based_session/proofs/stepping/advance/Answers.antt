use Rattle.std.proofs.Common.{◌≡◌, Some, Ok, sym, subst}
use Rattle.std.specs.Prelude.{OnOk}
use Rattle.texts.specs.declared.side.Side.TheVariants.{Left, Right}
use Rattle.edit_module.specs.Views.{word_tree}
use Rattle.lens_core.specs.Sides.{near, far}
use Rattle.edit_session.specs.Step.{TripleTree, step}
use Rattle.edit_session.specs.Views.{triple_tree}
use Rattle.edit_session.proofs.StepsCarry.{side_is_well_formed, side_is_typed}
use Rattle.based_session.specs.Bases.{changed, kept_by}
use Rattle.based_session.specs.KeptViews.{kept_trees}
use Rattle.based_session.specs.Views.{IsBased, based_tree}
use Rattle.based_session.proofs.StepsOver.{on_or_back}
use Rattle.based_session.proofs.stepping.advance.Goals as goal

pub returns-in-Ok-clause-based : goal.returns-in-Ok-clause-based
returns-in-Ok-clause-based g c =
    let lens = c.args.session.now.lens in
    let left = g.L.EditLens.left_type lens in
    let right = g.L.EditLens.right_type lens in
    let carried = g.L.EditLens.carried lens in
    let kept = c.args.window.now in
    let old = c.in_ok-old.old in
    let side = c.args.entry.now.side in
    let q = word_tree c.args.entry.now.word in
    let w = word_tree c.in-Ok.other in
    let u = triple_tree c.step.new.self.triple in
    let same = c.in_ok-old.ensures.same in
    let before = based_tree old kept in
    let after = based_tree c.kept_or_back.new.session.triple c.kept_or_back.new.window in
    let next = changed before u (kept_by left right (triple_tree old) (near side q w) (far side q w)) in
    let sound = g.met.L.EditLens.types_are_well_formed lens in
    let typed = side_is_typed (g.L.EditLens.holds lens) left right (g.met.L.EditLens.consistent_is_typed lens) in
    let based : IsBased left right before = subst (λ (t : TripleTree). IsBased left right (record { triple = t; kept = kept_trees kept; number = kept.number; width = kept.width })) (sym same) c.requires.based in
    let steps = subst (λ (t : TripleTree). step left right carried t (side, q) ≡ Some (Ok (u, w))) (sym same) c.in-Ok.ensures.steps in
    let led = c.bases_lead_on.ensures left right carried before u side q w (side_is_well_formed left right sound Left) (side_is_well_formed left right sound Right)
    (typed Left (triple_tree old) c.in_ok-old.ensures.consistent) (typed Right (triple_tree old) c.in_ok-old.ensures.consistent) based steps in
    let on = subst (λ l. OnOk c.kept_or_back.result (after ≡ changed before u (kept_by (g.L.EditLens.left_type l) (g.L.EditLens.right_type l) (triple_tree old) (near side q w) (far side q w)))) c.in-Ok.ensures.lens c.kept_or_back.ensures.kept in
    on_or_back c.kept_or_back.result left right before next after based led on c.kept_or_back.ensures.back

use Rattle.std.proofs.Common.{◌≤◌, [], length, Some, ap, ap₂, sym, ◌∙◌, rules, arith}
use Rattle.program_terms.specs.Terms.{lens_def}
use Rattle.program_terms.specs.Views.{lens_tree, def_tree, program_tree}
use Rattle.lens_types.specs.Checking.{def_failure, first_failure}
use Rattle.lens_types.specs.Earlier.{all_known, expanded_form}
use Rattle.lens_types.specs.Entries.{earlier_tree, stands_for}
use Rattle.lens_types.proofs.DefinitionSteps.{fault_at, after_next, next_is_new, main_failure, main_known}
use Rattle.lens_types.proofs.SoundForms.{lens_sound}
use Rattle.lens_types.proofs.checking.check.Goals as goal

pub returns-in_err-known : goal.returns-in_err-known
returns-in_err-known c =
    let program = program_tree c.args.program.now in
    let first = fault_at (earlier_tree c.loop-at.earlier) program.definitions c.loop-at.at (def_tree c.def.result.now) program.main (first_failure program) c.in_err-known.field-0.0 c.def.ensures c.loop-at.invariant.failure c.in_err-known.ensures in
    search (rules, first)

pub add-requires-clause-is_new : goal.add-requires-clause-is_new
add-requires-clause-is_new c =
    let program = program_tree c.args.program.now in
    next_is_new (earlier_tree c.loop-at.earlier) program.definitions c.loop-at.at c.in_ok-twin.field-0 (def_tree c.def.result.now) program.main (first_failure program) (all_known [] program.definitions)
    c.count-at-end.ensures.distinct (c.name.ensures ∙ ap Some (sym c.in_ok-twin.ensures)) c.def.ensures c.loop-at.invariant

pub loop-at-preserved : goal.loop-at-preserved
loop-at-preserved c =
    let program = program_tree c.args.program.now in
    let earlier = earlier_tree c.loop-at.earlier in
    after_next earlier (earlier_tree c.add.new.self) program.definitions c.loop-at.at c.in_ok-twin.field-0 (def_tree c.def.result.now) (stands_for earlier c.in_ok-known.known) program.main (first_failure program) (all_known [] program.definitions)
    (c.name.ensures ∙ ap Some (sym c.in_ok-twin.ensures)) c.def.ensures c.in_ok-known.ensures.0 c.in_ok-known.ensures.1.stands c.in_ok-add.ensures c.loop-at.invariant

pub typed_lens-requires : goal.typed_lens-requires
typed_lens-requires c =
    lens_sound (earlier_tree c.loop-at.earlier) c.loop-at.invariant.sound (lens_tree c.main-main.result.now) c.in_ok-defined_lens.ensures.0

pub returns : goal.returns
returns c =
    let program = program_tree c.args.program.now in
    let earlier = earlier_tree c.loop-at.earlier in
    let past : length program.definitions ≤ c.loop-at.at = omega (arith, c.count-at-end.ensures.count) in
    let all = main_known earlier program.definitions c.loop-at.at (all_known [] program.definitions) past c.loop-at.invariant.known in
    let failure = main_failure earlier program.definitions c.loop-at.at program.main (first_failure program) past c.loop-at.invariant.failure in (
      sym failure ∙ ap (λ l. def_failure earlier (lens_def l)) (sym c.main-main.ensures) ∙ c.in_ok-defined_lens.ensures.0,
      c.in_ok-typed_lens.ensures ∙ ap₂ expanded_form all c.main-main.ensures,
    )

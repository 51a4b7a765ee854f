use Rattle.std.proofs.Common.{◌<◌, ◌≤◌, List, length, sym, ap, subst, ◌∙◌, ◌++◌, arith}
use Rattle.std.proofs.lemmas.List.{length-map}
use Rattle.lens_flat.specs.declared.flat.ReadyForm.{ReadyForm}
use Rattle.lens_forms.specs.Forms.{form_tree}
use Rattle.view_hub.specs.Views.{hub_tree}
use Rattle.hub_run.specs.RunStates.{forms_of_lenses}
use Rattle.hub_run.proofs.StateLines.{form_at, lines_next, lines_done}
use Rattle.hub_run.proofs.state.add_views.Goals as goal

pub lines_at-requires : goal.lines_at-requires
lines_at-requires c =
    let i = c.loop-number.number in
    let all = c.lenses-lenses.result.now in
    let within : i < length all = omega arith in
    let form = form_at all i c.index-lenses-number.result within c.index-lenses-number.is in
    record { form = rw (c.lenses-lenses.ensures.lenses, sym c.typed.ensures) at form }

pub loop-number-preserved : goal.loop-number-preserved
loop-number-preserved c =
    let l = c.loop-number in
    let i = l.number in
    let all = c.lenses-lenses.result.now in
    let within : i < length all = omega arith in
    let form = form_at all i c.index-lenses-number.result within c.index-lenses-number.is in
    lines_next (forms_of_lenses c.args.hub.now.lenses) (hub_tree c.args.hub.now.parts).views i (form_tree c.typed.result.now) l.text.items c.extend_from_slice.new.self.items c.in_ok-lines.lines.items
    (rw (c.lenses-lenses.ensures.lenses, sym c.typed.ensures) at form) c.in_ok-lines.ensures
    (c.in_ok-extend_from_slice.ensures.items ∙ ap (λ x. l.text.items ++ x) c.deref.ensures.value)
    ∙ l.invariant

pub returns : goal.returns
returns c =
    let l = c.loop-number in
    let forms = forms_of_lenses c.args.hub.now.lenses in
    let count = subst (λ (ls : List ReadyForm). length ls ≤ l.number) c.lenses-lenses.ensures.lenses (omega arith) in
    let past : length forms ≤ l.number = omega (arith, count, length-map c.args.hub.now.lenses (λ (l : ReadyForm). form_tree l.typed)) in
    sym (lines_done forms (hub_tree c.args.hub.now.parts).views l.number l.text.items past) ∙ l.invariant

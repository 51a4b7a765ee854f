use Rattle.std.proofs.Common.{◌≡◌, ◌<◌, List, length, sym, ap, subst, ◌∙◌, ◌++◌}
use Rattle.doc_values.specs.Documents.{doc_tree}
use Rattle.lens_flat.specs.declared.flat.ReadyForm.{ReadyForm}
use Rattle.lens_forms.specs.Forms.{form_tree}
use Rattle.script_input.proofs.Outcomes.{if_ok}
use Rattle.view_hub.specs.Views.{hub_tree}
use Rattle.hub_run.specs.RunStates.{forms_of_lenses}
use Rattle.hub_run.specs.Runs.{hub_line, view_lines, hub_state_lines}
use Rattle.hub_run.proofs.StateLines.{some_lens, first_has, state_text_is}
use Rattle.hub_run.proofs.state.hub_state_lines.Goals as goal

pub bounds-lenses-0 : goal.bounds-lenses-0
bounds-lenses-0 c =
    let h = hub_tree c.args.hub.now.parts in
    subst (λ (ls : List ReadyForm). 0 < length ls) (sym c.lenses.ensures.lenses) (some_lens c.args.hub.now.lenses h c.is_in_step.ensures)

pub hub_line-requires : goal.hub_line-requires
hub_line-requires c =
    let h = hub_tree c.args.hub.now.parts in
    let is = rw c.lenses.ensures.lenses at c.index-lenses-0.is in
    let typed = first_has c.args.hub.now.lenses h c.index-lenses-0.result c.is_in_step.ensures is in
    record { has_type = rw (sym c.typed.ensures, sym (ap doc_tree c.hub.ensures.hub)) at typed }

pub returns : goal.returns
returns c =
    let h = hub_tree c.args.hub.now.parts in
    let ls = c.args.hub.now.lenses in
    let is = rw c.lenses.ensures.lenses at c.index-lenses-0.is in
    let line = c.into_vec.ensures ∙ c.in_ok-line.ensures.line ∙ ap (λ d. hub_line (form_tree c.typed.result.now) (doc_tree d)) c.hub.ensures.hub in
    record {
      lines = if_ok c.add_views.result (λ text. text.items ≡ c.into_vec.result.items ++ view_lines 0 (forms_of_lenses ls) h.views) (λ text. text.items ≡ hub_state_lines (forms_of_lenses ls) h)
          (λ text is_text. state_text_is ls h c.index-lenses-0.result c.into_vec.result.items text.items (some_lens ls h c.is_in_step.ensures) is (rw c.typed.ensures at line) is_text) c.add_views.ensures;
    }

use Rattle.std.proofs.Common.{◌≡◌, ◌++◌, drop}
use Rattle.view_hub.specs.Views.{hub_tree}
use Rattle.hub_run.specs.RunStates.{forms_of_lenses}
use Rattle.hub_run.specs.Runs.{view_lines}
use Rattle.hub_run.proofs.state.add_views.Given as goal

-- the text so far, and the lines of the views that are left, are the text of all
abbrev pub invariant-loop-number : goal.invariant-loop-number
invariant-loop-number l =
    let forms = forms_of_lenses l.hub.lenses in
    let views = (hub_tree l.hub.parts).views in
    l.text.items ++ view_lines l.number (drop l.number forms) (drop l.number views) ≡ l.fn.line.items ++ view_lines 0 forms views

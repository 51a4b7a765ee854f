use Rattle.lens_forms.specs.Forms.{form_tree}
use Rattle.edit_session.specs.Views.{triple_tree}
use Rattle.store_session.proofs.Openings.{opened_stands}
use Rattle.store_session.proofs.opening.with_version.Goals as goal

pub returns-in-Ok-clause-stands : goal.returns-in-Ok-clause-stands
returns-in-Ok-clause-stands c ps h =
    let o = c.args.opened in
    opened_stands ps (form_tree o.session.lens.typed) (triple_tree o.session.triple) o.count o.version c.in-Ok.version h c.in-Ok.ensures

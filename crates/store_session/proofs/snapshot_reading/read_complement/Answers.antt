use Rattle.std.proofs.Common.{rules}
use Rattle.serde_json.specs.View.{view}
use Rattle.lens_core.specs.Complements.{comp_tree}
use Rattle.lens_forms.specs.Forms.{form_tree}
use Rattle.store_session.proofs.SnapshotParts.{found, none_found}
use Rattle.store_session.proofs.snapshot_reading.read_complement.Goals as goal

pub returns-in-Ok : goal.returns-in-Ok
returns-in-Ok c =
    found (form_tree c.args.typed.now) (view c.args.tree.now) (comp_tree c.in-Ok.comp) (search rules) c.in-Ok.ensures.fits c.in-Ok.ensures.tree

pub returns-in-Err-NotAComplement : goal.returns-in-Err-NotAComplement
returns-in-Err-NotAComplement c =
    none_found (form_tree c.args.typed.now) (view c.args.tree.now) (λ k fits is. c.in-Err-NotAComplement.ensures.refused (search rules) k fits is)

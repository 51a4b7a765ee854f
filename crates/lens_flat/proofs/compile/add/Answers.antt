use Rattle.lens_forms.specs.Forms.{form_tree}
use Rattle.lens_flat.specs.declared.node.Entry.{Entry}
use Rattle.lens_flat.proofs.FormsOfTables.{pushed}
use Rattle.lens_flat.proofs.compile.add.Goals as goal

pub returns : goal.returns
returns c =
    let e : Entry = record { node = c.args.node; missing = c.in_ok-missing.missing } in
    let added = pushed c.args.table.now.items e (form_tree c.args.form.now) c.requires.sound c.requires.inside c.requires.is c.in_ok-missing.ensures in
    rw (c.in_ok-push.ensures.items, c.as_slice-number.ensures.value) added

use Rattle.std.proofs.Common.{◌≡◌, drop}
use Rattle.texts.specs.Keys.{has_name}
use Rattle.file_forms.specs.Forms.{forms_view, form_names}
use Rattle.file_values.proofs.members.has_field.Given as goal

abbrev pub invariant-loop-field : goal.invariant-loop-field
invariant-loop-field l = has_name l.name (form_names (forms_view (drop l.field-index l.fields))) ≡ has_name l.name (form_names (forms_view l.fields))

use Rattle.std.proofs.Common.{◌≡◌, drop}
use Rattle.texts.specs.Keys.{has_name}
use Rattle.file_forms.specs.Forms.{forms_view, form_names}
use Rattle.file_forms.proofs.fit.has_tag.Given as goal

abbrev pub invariant-loop-tag : goal.invariant-loop-tag
invariant-loop-tag l = has_name l.name (form_names (forms_view (drop l.tag-index l.tags))) ≡ has_name l.name (form_names (forms_view l.tags))

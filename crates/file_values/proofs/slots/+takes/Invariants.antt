use Rattle.std.proofs.Common.{◌≡◌, drop}
use Rattle.file_forms.specs.Forms.{forms_view}
use Rattle.file_forms.specs.Slots.{any_takes}
use Rattle.file_values.specs.Reading.{slot_of}
use Rattle.file_values.proofs.slots.+takes.Given as goal

abbrev pub invariant-any_takes-loop-tag : goal.invariant-any_takes-loop-tag
invariant-any_takes-loop-tag l = any_takes (forms_view (drop l.tag-index l.tag-items)) (slot_of l.slot) ≡ any_takes (forms_view l.tag-items) (slot_of l.slot)

use Rattle.std.proofs.Common.{◌≡◌, drop}
use Rattle.file_trees.specs.FileTrees.{members_view}
use Rattle.file_forms.specs.Forms.{forms_view, form_names}
use Rattle.file_values.specs.Reading.{stranger}
use Rattle.file_values.proofs.members.stranger.Given as goal

abbrev pub invariant-loop-member : goal.invariant-loop-member
invariant-loop-member l =
    stranger (form_names (forms_view l.fields)) (members_view (drop l.member-index l.members)) ≡ stranger (form_names (forms_view l.fields)) (members_view l.members)

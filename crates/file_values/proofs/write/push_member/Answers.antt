use Rattle.std.proofs.Common.{ap, sym, ◌∙◌}
use Rattle.file_trees.specs.FileTrees.{file_tree}
use Rattle.json.specs.Json.{member}
use Rattle.file_forms.specs.FileValues.{with_slot}
use Rattle.file_values.specs.Writing.{slot_view, then_members}
use Rattle.file_values.proofs.WriteLoops.{then_members-append}
use Rattle.file_values.proofs.write.push_member.Goals as goal

pub returns-in_ok-push : goal.returns-in_ok-push
returns-in_ok-push c = λ rest.
    let old = c.args.members.now.items in
    ap (λ ms. then_members ms rest) c.in_ok-push.ensures.items
    ∙ then_members-append old c.in_ok-twin.field-0 c.in-Some.tree rest
    ∙ ap (λ n. then_members old (member n (file_tree c.in-Some.tree) rest)) c.in_ok-twin.ensures
    ∙ sym (ap (λ s. then_members old (with_slot c.args.name.now (slot_view s) rest)) c.in-Some.is)

use Rattle.std.proofs.Common.{ap, sym, ◌∙◌, arith}
use Rattle.value_json.specs.Parts.{only_member}
use Rattle.value_json.proofs.Shapes.{not_one, one_entry, is_object}
use Rattle.value_json.proofs.parts.only_member.Goals as goal

pub returns-then-len-ne1 : goal.returns-then-len-ne1
returns-then-len-ne1 c = sym (ap only_member (is_object _ _ (c.in_ok-members.ensures)) ∙ not_one c.in_ok-members.members.now.entries (λ one. c.if-len-ne1.true (c.len.ensures.len ∙ one)))

pub returns : goal.returns
returns c = rw c.as_str.ensures.value (one_entry c.in_ok-members.members.now.entries _ c.in_ok-name.ensures.first (omega arith)) ∙ ap only_member (sym (is_object _ _ (c.in_ok-members.ensures)))

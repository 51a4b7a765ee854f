use Rattle.std.proofs.Common.{map}
use Rattle.texts.specs.declared.side.Side.TheVariants.{Left}
use Rattle.doc_values.specs.Types.{ty_tree}
use Rattle.edit_module.specs.Views.{entry_tree}
use Rattle.turn_link.specs.Sites.{left_receive}
use Rattle.turn_link.specs.LeftViews.{left_tree}
use Rattle.turn_link.specs.RightViews.{right_tree}
use Rattle.turn_link.specs.Views.{batch_tree, packet_tree, receive_refusal}
use Rattle.turn_link.proofs.LinkCalls.{at-lens, addressed, no_reason, call-deliver_left, never-deliver_left}
use Rattle.turn_link.proofs.link.Link.deliver_left.Goals as goal

pub invariant_of-self : goal.invariant_of-self
invariant_of-self g c =
    let here = rw c.deref.ensures.value at c.in-Some.ensures in
    let address = rw (← c.self.view_is) at c.requires.addressed in
    let packet = addressed (map packet_tree c.self.inside.packets.items) c.args.place Left (packet_tree c.in-Some.packet.now) address here in
    at-lens g.L.EditLens c.receive.new.self.lens c.self.inside.left.lens c.receive.ensures.lens
    (call-deliver_left (g.L.EditLens.holds c.self.inside.left.lens) (g.L.EditLens.left_type c.self.inside.left.lens)
    (g.L.EditLens.right_type c.self.inside.left.lens) (g.L.EditLens.start c.self.inside.left.lens) (g.L.EditLens.carried c.self.inside.left.lens) (ty_tree c.self.inside.right.ty)
    (map entry_tree c.self.inside.made.items) (left_tree c.self.inside.left.parts) (right_tree c.self.inside.right.parts)
    (map packet_tree c.self.inside.packets.items) c.self.invariant
    c.args.place (batch_tree c.in-Some.packet.now.batch) packet (left_tree c.receive.new.self.parts) c.in-Ok.answer c.in-Ok.ensures.receives).link

pub returns-in-Ok-clause-happens : goal.returns-in-Ok-clause-happens
returns-in-Ok-clause-happens g c =
    let here = rw c.deref.ensures.value at c.in-Some.ensures in
    let address = rw (← c.self.view_is) at c.requires.addressed in
    let packet = addressed (map packet_tree c.self.inside.packets.items) c.args.place Left (packet_tree c.in-Some.packet.now) address here in
    rw (← c.self.view_is, c.told_of.ensures) (call-deliver_left (g.L.EditLens.holds c.self.inside.left.lens) (g.L.EditLens.left_type c.self.inside.left.lens)
    (g.L.EditLens.right_type c.self.inside.left.lens) (g.L.EditLens.start c.self.inside.left.lens) (g.L.EditLens.carried c.self.inside.left.lens) (ty_tree c.self.inside.right.ty)
    (map entry_tree c.self.inside.made.items) (left_tree c.self.inside.left.parts) (right_tree c.self.inside.right.parts)
    (map packet_tree c.self.inside.packets.items) c.self.invariant
    c.args.place (batch_tree c.in-Some.packet.now.batch) packet (left_tree c.receive.new.self.parts) c.in-Ok.answer c.in-Ok.ensures.receives).happened

pub delivery_fault-requires : goal.delivery_fault-requires
delivery_fault-requires g c =
    let here = rw c.deref.ensures.value at c.in-Some.ensures in
    let address = rw (← c.self.view_is) at c.requires.addressed in
    let packet = addressed (map packet_tree c.self.inside.packets.items) c.args.place Left (packet_tree c.in-Some.packet.now) address here in
    no_reason (left_receive (g.L.EditLens.left_type c.self.inside.left.lens) (g.L.EditLens.carried c.self.inside.left.lens) (left_tree c.self.inside.left.parts) (batch_tree c.in-Some.packet.now.batch)) (receive_refusal c.in-Err.fault)
    (λ why is. never-deliver_left (g.L.EditLens.holds c.self.inside.left.lens) (g.L.EditLens.left_type c.self.inside.left.lens)
    (g.L.EditLens.right_type c.self.inside.left.lens) (g.L.EditLens.start c.self.inside.left.lens) (g.L.EditLens.carried c.self.inside.left.lens) (ty_tree c.self.inside.right.ty)
    (map entry_tree c.self.inside.made.items) (left_tree c.self.inside.left.parts) (right_tree c.self.inside.right.parts)
    (map packet_tree c.self.inside.packets.items) c.self.invariant
    c.args.place (batch_tree c.in-Some.packet.now.batch) packet why is) c.in-Err.ensures.receives

pub returns-in-Err-clause-happens : goal.returns-in-Err-clause-happens
returns-in-Err-clause-happens g c = rw c.delivery_fault.ensures tt

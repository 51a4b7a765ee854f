use Rattle.doc_values.specs.Documents.{doc_tree}
use Rattle.edit_module.specs.Views.{word_tree}
use Rattle.lens_core.specs.Complements.{comp_tree}
use Rattle.edit_session.specs.Views.{triple_tree}
use Rattle.edit_session.proofs.StepsCarry.{never_unfit, never_refused, next_in_step}
use Rattle.edit_session.proofs.session.next.Goals as goal

pub unreachable-requires : goal.unreachable-requires
unreachable-requires g c =
    let lens = c.args.lens.now in
    let none = rw c.in-Err-Unfit.field-0-is at c.in-Err-Unfit.ensures in
    never_unfit (g.L.EditLens.holds lens) (g.L.EditLens.left_type lens) (g.L.EditLens.right_type lens) (g.L.EditLens.carried lens)
    (g.met.L.EditLens.left_edits_carry lens) (g.met.L.EditLens.right_edits_carry lens)
    c.args.entry.now.side (triple_tree c.args.triple.now) (word_tree c.args.entry.now.word) (doc_tree c.in-Ok.own) c.requires.consistent c.in-Ok.ensures none

pub unreachable-requires-in-Err-NoApply-act_on : goal.unreachable-requires-in-Err-NoApply-act_on
unreachable-requires-in-Err-NoApply-act_on g c =
    let lens = c.args.lens.now in
    let refused = rw (c.other.ensures, c.in-Err-NoApply-act_on.field-0-is) at c.in-Err-NoApply-act_on.ensures in
    never_refused (g.L.EditLens.holds lens) (g.L.EditLens.left_type lens) (g.L.EditLens.right_type lens) (g.L.EditLens.carried lens)
    (g.met.L.EditLens.left_edits_carry lens) (g.met.L.EditLens.right_edits_carry lens)
    c.args.entry.now.side (triple_tree c.args.triple.now) (word_tree c.args.entry.now.word) (doc_tree c.in-Ok.own)
    (word_tree c.in-Ok-carry.carried.word, comp_tree c.in-Ok-carry.carried.comp) _ c.requires.consistent c.in-Ok.ensures c.in-Ok-carry.ensures refused

pub returns-clause-consistent : goal.returns-clause-consistent
returns-clause-consistent g c =
    let lens = c.args.lens.now in
    let acts = rw c.other.ensures at c.in-Ok-act_on.ensures in
    rw c.from_side.ensures (next_in_step (g.L.EditLens.holds lens) (g.L.EditLens.left_type lens) (g.L.EditLens.right_type lens) (g.L.EditLens.carried lens)
    (g.met.L.EditLens.left_edits_carry lens) (g.met.L.EditLens.right_edits_carry lens)
    c.args.entry.now.side (triple_tree c.args.triple.now) (word_tree c.args.entry.now.word) (doc_tree c.in-Ok.own)
    (word_tree c.in-Ok-carry.carried.word, comp_tree c.in-Ok-carry.carried.comp) (doc_tree c.in-Ok-act_on.other) c.requires.consistent c.in-Ok.ensures c.in-Ok-carry.ensures acts)
